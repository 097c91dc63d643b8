-- Each region takes one fresh page: the state when the regions below j have theirs. The pages of before are old from the start, and no word
-- of theirs changes.
use Prim.Native.Nat.{ℕ, ◌+◌, ◌*◌, ◌^◌, ◌≤◌, ◌<◌, zero-le}
use native.Mathlib.Omega.{arith}
use mathlib.Core.Path.{◌≡◌, refl, ap, ◌∙◌}
use mathlib.Core.Logic.{◌↔◌, ◌⊎◌, inl, inr}
use mathlib.Core.List.{List, [], ◌∷◌, Memᴰ}
use lib.ListN.{length}
use Rattle.laws.specs.Lists.{at}
use Rattle.rules.specs.Memory.{Store, page_count, status_of}
use Rattle.rules.specs.Pages.{Run, begun}
use Rattle.facts.proofs.Laid.{Owner, old, mine, Layout, old≢spare, old≢beyond}
use Rattle.facts.proofs.Aged.{aged, aged_from, aged_mine, aged_laid}
use Rattle.facts.proofs.Sound.{Chained, in_free, in_region, Sound}
use Rattle.working.proofs.Owned.{Owned}

-- ---- the state

-- the regions below j have their fresh page
pub record Fresh (s : Store) (S : Sound s) (j : ℕ) (r : Run) : Type 0 where
  pub own : ℕ → Owner
  pub fin : ℕ → ℕ
  pub pages : ℕ → List ℕ
  pub free : List ℕ
  pub laid : Layout s.ctl.n (page_count s.ctl.n s.heap) j own fin pages free r
  pub from_space_lem : (k : ℕ) → (own k ≡ old) ↔ ((i : ℕ) × (i < s.ctl.regions) × Memᴰ k (S.pages i))
  pub owned : Owned (page_count s.ctl.n s.heap) j own pages free
  pub none_yet : (i : ℕ) → j ≤ i → pages i ≡ []
  pub single : (i : ℕ) → i < j → (k : ℕ) × (pages i ≡ k ∷ []) × (fin k ≡ k * 2 ^ s.ctl.n + 2)
  pub words : (k x : ℕ) → own k ≡ old → k * 2 ^ s.ctl.n ≤ x → x < k * 2 ^ s.ctl.n + 2 ^ s.ctl.n → at r.heap x ≡ at s.heap x
  pub asleep : (i : ℕ) → i < s.ctl.regions → status_of r.table i ≡ 0
  pub width : length r.table ≡ 256
  pub past_rows : (x : ℕ) → 4 * s.ctl.regions ≤ x → at r.table x ≡ at s.table x
  pub taken : length free + j ≡ s.ctl.count
  pub stack : r.stack ≡ []

module _ (s : Store) (S : Sound s) where
  abbrev n : ℕ
  n = s.ctl.n

  abbrev N : ℕ
  N = page_count n s.heap

  abbrev R : ℕ
  R = s.ctl.regions

  chained_old : (k : ℕ) → k < N → aged 0 (S.own k) ≡ old → (i : ℕ) × (i < R) × Memᴰ k (S.pages i)
  chained_old k b e = go (S.chained k b)
    where
      go : Chained R S.own S.pages S.free k → (i : ℕ) × (i < R) × Memᴰ k (S.pages i)
      go (in_free o m) = old≢spare e (ap (aged 0) o)
      go (in_region j j_r o m) = (j, j_r, m)

  old_known : (k : ℕ) → aged 0 (S.own k) ≡ old → k < N
  old_known k e = S.laid.known k (λ q. old≢beyond e (ap (aged 0) q))

  -- no page is a region's yet
  none_mine : (k j : ℕ) → aged 0 (S.own k) ≡ mine j → ⊥
  none_mine k j o = let b = (aged_mine 0 (S.own k) j o).1 in omega arith

  -- before the first
  pub fresh_start : Fresh s S 0 (begun s)
  fresh_start =
      record {
        own = λ k. aged 0 (S.own k);
        fin = S.fin;
        pages = λ i. [];
        free = S.free;
        laid = aged_laid 0 S.laid zero-le (λ i. []) (λ i b. absurd (omega arith));
        from_space_lem = λ k. (λ e. chained_old k (old_known k e) e, λ t. ap (aged 0) (S.laid.mine_own t.0 k t.1 t.2) ∙ aged_from 0 t.0 zero-le);
        owned = record { chain = λ k b. owned k (S.chained k b) };
        none_yet = λ i b. refl;
        single = λ i b. absurd (omega arith);
        words = λ k x o p q. refl;
        asleep = S.idle;
        width = S.within.table;
        past_rows = λ x p. refl;
        taken = let c = S.laid.free_count in omega arith;
        stack = refl;
      }
    where
      owned : (k : ℕ) → Chained R S.own S.pages S.free k → (aged 0 (S.own k) ≡ old) ⊎ Chained 0 (λ k. aged 0 (S.own k)) (λ i. []) S.free k
      owned k (in_free o m) = inr (in_free (ap (aged 0) o) m)
      owned k (in_region j b o m) = inl (ap (aged 0) o ∙ aged_from 0 j zero-le)

  pub start_own : (k j : ℕ) → fresh_start.own k ≡ mine j → ⊥
  unfolding fresh_start
  start_own k j o = none_mine k j o

  pub start_free : S.free ≡ fresh_start.free
  unfolding fresh_start
  start_free = refl
