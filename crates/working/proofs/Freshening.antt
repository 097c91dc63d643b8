-- Fresh pages for all regions, one after the other: region j takes the first free page, which becomes its only one. By one step a region: no
-- other region's page and no other row changes.
use Prim.Native.Nat.{ℕ, zero, suc, ◌+◌, ◌*◌, ◌^◌, ◌≤◌, ◌<◌}
use native.Mathlib.Omega.{arith}
use native.Mathlib.Decide.{ℕ_discrete}
use mathlib.Core.Path.{◌≡◌, refl, sym, ap, ◌∙◌, subst}
use mathlib.Core.Logic.{◌≢◌, ◌↔◌, inr}
use mathlib.Core.Option.{none, some}
use mathlib.Core.List.Memᴰ
use mathlib.Core.List.{List, [], ◌∷◌}
use lib.ListN.{length}
use Rattle.laws.specs.Lists.{at}
use Rattle.rules.specs.Memory.{Store, page_count, status_of}
use Rattle.rules.specs.Pages.{Run, take_page}
use Rattle.rules.specs.Collection.{freshen}
use Rattle.facts.proofs.Laid.{Owner, old, spare, mine, Layout, upd, upd_other, first_is, first_spare, old≢spare, spare≢mine}
use Rattle.facts.proofs.Sound.{Sound}
use Rattle.working.proofs.Owned.{Owned, taken_old}
use Rattle.working.proofs.Taken.{others}
use Rattle.working.proofs.OneMore.{same_width, else_row, status_new, status_else, fin_new, pages_new, pages_old, region_laid, region_owned}
use Rattle.rules.specs.Wanted.{any_page, fresh_row, freshen_for}
use Rattle.working.proofs.Wanting.{Goes, wants_page_lem, goes_on, lacks_as, follows_some, page_beside, fresh_beside}
use Rattle.working.proofs.Dry.{Dry, Overdrawn, laid_dry, aside_dry, page_dry}
use Rattle.working.proofs.Fresh.{Fresh}
use Rattle.rules.proofs.Pages.{taken, takes, takes_none}

module _ {s : Store} {S : Sound s} {j : ℕ} {r : Run} {k : ℕ} {ks : List ℕ} (F : Fresh s S j r) (j_r : j < s.ctl.regions) (free : F.free ≡ k ∷ ks) where
  abbrev n : ℕ
  n = s.ctl.n

  abbrev N : ℕ
  N = page_count n s.heap

  abbrev R : ℕ
  R = s.ctl.regions

  L : Layout n N j F.own F.fin F.pages (k ∷ ks) r
  L = subst (λ fr. Layout n N j F.own F.fin F.pages fr r) free F.laid

  abbrev r₁ : Run
  r₁ = taken n j k r

  wide : 4 * j + 3 < length r.table
  wide = let a = F.width in let b = S.regions in omega arith

  abbrev own' : ℕ → Owner
  own' = upd F.own k (mine j)

  abbrev fin' : ℕ → ℕ
  fin' = upd F.fin k (k * 2 ^ n + 2)

  abbrev pages' : ℕ → List ℕ
  pages' = upd F.pages j (k ∷ [])

  abbrev pub freshened : Run
  freshened = fresh_row n j (k, r₁)

  same_stack : r₁.stack ≡ r.stack
  unfolding taken
  same_stack = refl

  spare_k : F.own k ≡ spare
  spare_k = first_spare L

  same_old : (l : ℕ) → (F.own l ≡ old) ↔ (own' l ≡ old)
  same_old = taken_old F.own k j spare_k

  single : (i : ℕ) → i < suc j → Dec (i ≡ j) → (l : ℕ) × (pages' i ≡ l ∷ []) × (fin' l ≡ l * 2 ^ n + 2)
  single i b (yes e) = (k, pages_new L wide i e, fin_new L wide)
  single i b (no ne) =
      let t = F.single i (omega arith) in
      let own : F.own t.0 ≡ mine i = F.laid.mine_own i t.0 (omega arith) (rw t.1 (Memᴰ.head refl)) in
      let nk : t.0 ≢ k = λ q. spare≢mine spare_k (ap F.own (sym q) ∙ own) in
      (t.0, pages_old L wide i ne ∙ t.1, upd_other F.fin k (k * 2 ^ n + 2) t.0 nk ∙ t.2)

  same_words : (l x : ℕ) → own' l ≡ old → l * 2 ^ n ≤ x → x < l * 2 ^ n + 2 ^ n → at r₁.heap x ≡ at s.heap x
  unfolding taken
  same_words l x o p q =
      let was = (same_old l).1 o in
      others L j l x (λ e. old≢spare was (ap F.own e ∙ spare_k)) p q ∙ F.words l x was p q

  asleep : (i : ℕ) → i < R → Dec (i ≡ j) → status_of freshened.table i ≡ 0
  asleep i b (yes e) = status_new L wide i e
  asleep i b (no ne) = status_else L wide i ne ∙ F.asleep i b

  pub fresh_step : Fresh s S (suc j) freshened
  fresh_step =
      record {
        own = own';
        fin = fin';
        pages = pages';
        free = ks;
        laid = region_laid L wide;
        from_space_lem = λ l. (λ o. (F.from_space_lem l).0 ((same_old l).1 o), λ t. (same_old l).0 ((F.from_space_lem l).1 t));
        owned = region_owned L wide (subst (λ fr. Owned N j F.own F.pages fr) free F.owned);
        none_yet = λ i b. pages_old L wide i (omega arith) ∙ F.none_yet i (omega arith);
        single = λ i b. single i b (ℕ_discrete i j);
        words = same_words;
        asleep = λ i b. asleep i b (ℕ_discrete i j);
        width = same_width L wide ∙ F.width;
        past_rows = λ x p. else_row L wide x (inr (omega arith)) ∙ F.past_rows x p;
        taken = let t = F.taken in let e : length F.free ≡ suc (length ks) = ap length free in omega arith;
        stack = same_stack ∙ F.stack;
      }

  -- the page is the region's, and no longer free
  pub step_as : (P : (ℕ → Owner) → List ℕ → Type 0) → P own' ks → P fresh_step.own fresh_step.free
  unfolding fresh_step
  step_as P p = p

-- ---- all of them

-- m regions from j on take their pages: there are too few, or each region has its own
abbrev pub Freshens : (s : Store) → Sound s → ℕ → ℕ → Run → Type 0
Freshens s S m j r = Goes none some (freshen s.ctl.n m j r) (Overdrawn s (freshen_for s.ctl.n m j r)) (λ r'. Fresh s S s.ctl.regions r')

module _ (s : Store) (S : Sound s) where
  pub freshens : (m j : ℕ) (r : Run) → j + m ≡ s.ctl.regions → Fresh s S j r
      → Freshens s S m j r
  unfolding freshen freshen_for
  freshens zero j r e F = let q : j ≡ s.ctl.regions = omega arith in goes_on r refl (rw q at F)
  freshens (suc m) j r e F = go F.free refl (λ r' F'. freshens m (suc j) r' (omega arith) F')
    where
      up : (k : ℕ) → take_page s.ctl.n j r ≡ some (k, taken s.ctl.n j k r)
          → (r' : Run) → r' ≡ fresh_row s.ctl.n j (k, taken s.ctl.n j k r)
          → Freshens s S m (suc j) r' → Freshens s S (suc m) j r
      up k t r' q =
          let v : any_page s.ctl.n j r ≡ (k, taken s.ctl.n j k r) = follows_some (page_beside s.ctl.n j r).0 t in
          lacks_as (rw (t, freshen, ← q)) (rw (v, ← q)) (λ r'' G. G)

      go : (fr : List ℕ) → F.free ≡ fr → ((r' : Run) → Fresh s S (suc j) r' → Freshens s S m (suc j) r') → Freshens s S (suc m) j r
      go [] q rest =
          let dry : Dry (length s.heap) r = laid_dry F.laid q S.laid.size in
          wants_page_lem (rw (takes_none s.ctl.n j r dry.first, freshen)) ((fresh_beside s.ctl.n m (suc j) _).1 _ (aside_dry (page_dry s.ctl.n j dry)))
      go (k ∷ ks) q rest =
          up k (takes s.ctl.n j k r (first_is F.laid q)) _ refl (rest _ (fresh_step F (omega arith) q))
