-- Pushing a region keeps a heap sound: the page taken becomes the only page of a new region, holds no value, and no other page changes.
use Prim.Native.Nat.{ℕ, suc, ◌+◌, ◌*◌, ◌^◌, ◌<◌}
use native.Mathlib.Nat.{eq-or-lt_of_le}
use native.Mathlib.Omega.{arith}
use mathlib.Core.Path.{◌≡◌, refl, sym, ap, ◌∙◌, subst}
use mathlib.Core.Logic.{◌≢◌, ◌⊎◌, inl, inr}
use mathlib.Core.Bool.{false}
use mathlib.Core.List.{List, [], ◌∷◌, Memᴰ}
use lib.ListN.{length}
use lib.Dec.{eqb}
use borrow.Author.Tests.{leb-false, eqb-false}
use Rattle.laws.specs.Lists.{at}
use Rattle.rules.specs.Memory.{Store, lent, page_count, page_end, page_address, body_address, status_of, set_row}
use Rattle.rules.specs.Pages.{Run, begun, record_after}
use Rattle.rules.specs.Calls.{push_on, push}
use Rattle.rules.proofs.Limits.{within_same}
use Rattle.rules.proofs.Steps.{steps_le}
use Rattle.facts.proofs.Laid.{spare≢mine, upd, upd_same, upd_other, Owner, spare, mine, Layout, chain_body, chain_apart, first_spare, first_is}
use Rattle.facts.proofs.Framed.{below_fin, chain_below}
use Rattle.facts.proofs.Sound.{Good, EachField, Sound}
use Rattle.working.proofs.Owned.{sound_owned, Owned, taken_old, owned_chained}
use Rattle.working.proofs.Taken.{taken_laid, others}
use Rattle.rules.specs.Left.{left_plain}
use Rattle.working.proofs.OneMore.{same_width, else_row, status_new, status_else, own_new, pages_new, pages_old, region_laid, region_owned}
use Rattle.promises.proofs.Ordered.{lawful_keeps}
use Rattle.promises.proofs.Outcomes.{push_lawful}
use Rattle.promises.proofs.KeepsGood.{KeepsWords, good_kept, field_kept, not_old}
use Rattle.rules.proofs.Pages.{taken, takes}

module _ (s : Store) (S : Sound s) (k : ℕ) (ks : List ℕ) (free : S.free ≡ k ∷ ks) (below : s.ctl.regions < 64) where
  abbrev n : ℕ
  n = s.ctl.n

  abbrev N : ℕ
  N = page_count s.ctl.n s.heap

  abbrev R : ℕ
  R = s.ctl.regions

  abbrev P : ℕ
  P = 2 ^ s.ctl.n

  L : Layout n N R S.own S.fin S.pages (k ∷ ks) (begun s)
  L = subst (λ fs. Layout n N R S.own S.fin S.pages fs (begun s)) free S.laid

  abbrev r₁ : Run
  r₁ = taken n R k (begun s)

  abbrev own' : ℕ → Owner
  own' = upd S.own k (mine R)

  abbrev fin' : ℕ → ℕ
  fin' = upd S.fin k (k * P + 2)

  abbrev pages' : ℕ → List ℕ
  pages' = upd S.pages R (k ∷ [])

  wide : 4 * R + 3 < length s.table
  wide = let w = S.within.table in omega arith

  abbrev L₁ : Layout n N R own' fin' S.pages ks r₁
  L₁ = taken_laid L R

  spare_k : S.own k ≡ spare
  spare_k = first_spare L

  abbrev table' : List ℕ
  table' = set_row r₁.table R (page_end n k) (page_address n k) (body_address n k) 0

  -- other rows are as they were
  abbrev else : (x : ℕ) → (x < 4 * R) ⊎ (4 * R + 3 < x) → at table' x ≡ at s.table x
  else = else_row L wide

  abbrev was_old : (j : ℕ) → j ≢ R → pages' j ≡ S.pages j
  was_old = pages_old L wide

  abbrev is_new : (j : ℕ) → j ≡ R → pages' j ≡ k ∷ []
  is_new = pages_new L wide

  -- the store after it
  abbrev s' : Store
  s' = lent r₁.heap table' s.roots s.consts (record_after s (suc R) r₁)

  laid : Layout n N (suc R) own' fin' pages' ks (begun s')
  unfolding taken
  laid = region_laid L wide

  -- no word of another page changes
  not_k : (j l : ℕ) → j < R → Memᴰ l (S.pages j) → l ≢ k
  not_k = chain_apart S.laid (λ i. spare≢mine spare_k)

  keeps : KeepsWords s S (suc R) r₁.heap
  unfolding taken
  keeps =
      record {
        long = L₁.size ∙ sym S.laid.size;
        words = λ j l x b c m p q.
            let i = (chain_body S.laid j l b m).inside in
            sym (others L R l x (not_k j l b m) (omega arith) (omega arith));
      }

  good' : (w : ℕ) → Good n R s.heap s.consts w → Good n (suc R) r₁.heap s.consts w
  good' w g = good_kept keeps w (λ a p e. let b = p.known in omega arith) g

  fields' : EachField n (suc R) r₁.heap pages' (Good n (suc R) r₁.heap s.consts)
  fields' j l a c i b m v rec q = go (eq-or-lt_of_le {n = j} {m = R} (omega arith))
    where
      -- a region is the new one or an old one
      go : (j ≡ R) ⊎ (j < R) → Good n (suc R) r₁.heap s.consts (at r₁.heap (a + suc i))
      go (inr u) =
          let p : Memᴰ l (S.pages j) = rw (was_old j (omega arith)) at m in
          field_kept keeps j l a c i u b p v rec q
          (λ e.
          let f : fin' l ≡ S.fin l = upd_other S.fin k (k * P + 2) l (not_k j l u p) in
          let t = chain_below L₁ j u p v in
          absurd (omega arith))
          (λ v₀ rec₀ g. good' _ g)
      go (inl e) =
          let lk : l ≡ k = mathlib.Core.List.Memᴰ.eq_of_singleton (rw (is_new j e) at m) in
          let o : own' l ≡ mine R = ap own' lk ∙ own_new L wide in
          let f : fin' l ≡ k * P + 2 = upd_same S.fin k (k * P + 2) l lk in
          let t = below_fin L₁ o v in
          let lo = steps_le v.steps in
          let w : l * P ≡ k * P = ap (λ y. y * P) lk in
          absurd (omega arith)

  owned' : Owned N (suc R) own' pages' ks
  owned' = region_owned L wide (subst (λ fs. Owned N R S.own S.pages fs) free (sound_owned S))

  idle' : (j : ℕ) → j < suc R → status_of table' j ≡ 0
  idle' j b = go (eq-or-lt_of_le {n = j} {m = R} (omega arith))
    where
      go : (j ≡ R) ⊎ (j < R) → status_of table' j ≡ 0
      go (inr q) = status_else L wide j (omega arith) ∙ S.idle j q
      go (inl e) = status_new L wide j e

  pub push_sound : Sound s'
  push_sound =
      let w = same_width L wide in
      record {
        within = within_same keeps.long w refl refl S.within;
        own = own';
        fin = fin';
        pages = pages';
        free = ks;
        regions = below;
        past = λ x p q. else x (inr (omega arith)) ∙ S.past x (omega arith) q;
        idle = idle';
        laid = rw keeps.long laid;
        chained = rw keeps.long (λ l b. owned_chained owned' l b (λ e. not_old s S l ((taken_old S.own k R spare_k l).1 e)));
        fields = fields';
        roots = λ i b. good' _ (S.roots i b);
        consts = S.consts;
      }

-- a free page is there, as a list
some_free : (s : Store) (S : Sound s) → eqb s.ctl.count 0 ≡ false → (k : ℕ) × (ks : List ℕ) × (S.free ≡ k ∷ ks)
some_free s S e = go S.free refl
  where
    go : (fs : List ℕ) → S.free ≡ fs → (k : ℕ) × (ks : List ℕ) × (S.free ≡ k ∷ ks)
    go [] q = absurd (eqb-false s.ctl.count 0 e (S.laid.free_count ∙ ap length q))
    go (k ∷ ks) q = (k, ks, q)

pub push_keeps : (s : Store) → Sound s → Sound (left_plain (push s))
unfolding push push_on
push_keeps s S =
    lawful_keeps (λ o. Sound (left_plain o)) (push_lawful s) (λ r. S)
    (λ l c e₁ e₂ e₃.
    let f = some_free s S e₂ in
    let q : s.ctl.first ≡ suc f.0 = first_is S.laid f.2 in
    rw (l, c, e₁, e₂, e₃, takes s.ctl.n s.ctl.regions f.0 (begun s) q, push_on) (push_sound s S f.0 f.1 f.2 (leb-false 64 s.ctl.regions e₁)))
