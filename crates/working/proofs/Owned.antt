-- Every page is somebody's, and the numbers of pages and of waiting copies over all regions. A taken page leaves the free list and joins
-- its region's pages, so what is counted stays.
use Prim.Native.Nat.{ℕ, zero, suc, ◌+◌, ◌≤◌, ◌<◌}
use native.Mathlib.Omega.{arith}
use native.Mathlib.Decide.{ℕ_discrete}
use mathlib.Core.Path.{◌≡◌, refl, ap, ◌∙◌}
use mathlib.Core.Logic.{◌≢◌, ◌↔◌, ◌⊎◌, inl, inr, ⊎_elim}
use mathlib.Core.List.{List, [], ◌∷◌, ◌++◌, Memᴰ}
use lib.ListN.{length, length-append}
use Rattle.facts.proofs.Laid.{old≢spare, old≢mine, mine≢beyond}
use Rattle.laws.proofs.Once.{in_tail}
use Rattle.rules.specs.Memory.{Store, page_count}
use Rattle.rules.specs.Pages.{Run}
use Rattle.facts.proofs.Sound.{Chained, in_free, in_region, Sound, chained_mine}
use Rattle.facts.proofs.Laid.{upd, upd_same, upd_other, Owner, old, spare, mine, Layout, upd_back}

-- a page is from-space, or in the chain of its owner
pub record Owned (N R : ℕ) (own : ℕ → Owner) (pages : ℕ → List ℕ) (free : List ℕ) : Type 0 where
  pub chain : (k : ℕ) → k < N → (own k ≡ old) ⊎ Chained R own pages free k

pub owned_chained : {N R : ℕ} {own : ℕ → Owner} {pages : ℕ → List ℕ} {free : List ℕ} → Owned N R own pages free → (k : ℕ) → k < N → own k ≢ old → Chained R own pages free k
owned_chained W k b ne = ⊎_elim (λ q. absurd (ne q)) (λ c. c) (W.chain k b)

pub owned_mine : {n N R : ℕ} {own : ℕ → Owner} {fin : ℕ → ℕ} {pages : ℕ → List ℕ} {free : List ℕ} {r : Run} {k j : ℕ} → Layout n N R own fin pages free r → Owned N R own pages free
    → own k ≡ mine j → (j < R) × Memᴰ k (pages j)
owned_mine {k = k} L W o = chained_mine (owned_chained W k (L.known k (mine≢beyond o)) (λ q. old≢mine q o)) o

-- the lengths of the first R lists
unfoldable pub total : (ℕ → List ℕ) → ℕ → ℕ
total f zero = 0
total f (suc j) = length (f j) + total f j

pub total_same : (f g : ℕ → List ℕ) (m : ℕ) → ((i : ℕ) → i < m → f i ≡ g i) → total f m ≡ total g m
unfolding total
total_same f g zero e = refl
total_same f g (suc m) e = rw (e m (omega arith), total_same f g m (λ i b. e i (omega arith)))

-- one list is another
total_upd : (f : ℕ → List ℕ) (j : ℕ) (xs : List ℕ) (m : ℕ) → j < m → total (upd f j xs) m + length (f j) ≡ total f m + length xs
unfolding total
total_upd f j xs zero b = absurd (omega arith)
total_upd f j xs (suc m) b = go (ℕ_discrete m j) (λ q. total_upd f j xs m q)
  where
    go : Dec (m ≡ j) → (j < m → total (upd f j xs) m + length (f j) ≡ total f m + length xs) → total (upd f j xs) (suc m) + length (f j) ≡ total f (suc m) + length xs
    go (yes e) rest =
        let u : length (f m) ≡ length (f j) = ap (λ i. length (f i)) e in
        let v : total (upd f j xs) m ≡ total f m = total_same _ f m (λ i q. upd_other f j xs i (omega arith)) in
        rw (upd_same f j xs m e, v) (omega arith)
    go (no ne) rest = let v = rest (omega arith) in rw (upd_other f j xs m ne) (omega arith)

-- it has one more
pub total_snoc : (f : ℕ → List ℕ) (j x m : ℕ) → j < m → total (upd f j (f j ++ x ∷ [])) m ≡ suc (total f m)
total_snoc f j x m b = let t = total_upd f j (f j ++ x ∷ []) m b in let l = length-append (f j) (x ∷ []) in omega arith

-- it has one less
pub total_tail : (f : ℕ → List ℕ) (j x : ℕ) (xs : List ℕ) (m : ℕ) → j < m → f j ≡ x ∷ xs → suc (total (upd f j xs) m) ≡ total f m
total_tail f j x xs m b e = let t = total_upd f j xs m b in let l : length (f j) ≡ suc (length xs) = ap length e in omega arith

-- page k, the first of the free list, becomes region j's
module _ (own : ℕ → Owner) (k j : ℕ) where
  -- the old pages are those of before
  pub taken_old : own k ≡ spare → (l : ℕ) → (own l ≡ old) ↔ (upd own k (mine j) l ≡ old)
  taken_old o l = (λ e. upd_other own k (mine j) l (λ q. old≢spare e (ap own q ∙ o)) ∙ e, upd_back own k (mine j) l old (old≢mine refl))

  -- the chains of before are part of the chains that there are now, and page k is in region j's
  pub taken_owned : {N R R' : ℕ} {pages pages' : ℕ → List ℕ} {ks : List ℕ} → R ≤ R' → j < R' → Memᴰ k (pages' j) → ((i l : ℕ) → i < R → Memᴰ l (pages i) → Memᴰ l (pages' i))
      → Owned N R own pages (k ∷ ks) → Owned N R' (upd own k (mine j)) pages' ks
  taken_owned {N} {R} {R'} {pages} {pages'} {ks} more j_r there still W = record { chain = λ l b. go l (ℕ_discrete l k) (W.chain l b) }
    where
      go : (l : ℕ) → Dec (l ≡ k) → (own l ≡ old) ⊎ Chained R own pages (k ∷ ks) l → (upd own k (mine j) l ≡ old) ⊎ Chained R' (upd own k (mine j)) pages' ks l
      go l (yes e) c = inr (in_region j j_r (upd_same own k (mine j) l e) (rw e there))
      go l (no ne) (inl o) = inl (upd_other own k (mine j) l ne ∙ o)
      go l (no ne) (inr (in_free o m)) = inr (in_free (upd_other own k (mine j) l ne ∙ o) (in_tail ne m))
      go l (no ne) (inr (in_region i b o m)) = inr (in_region i (omega arith) (upd_other own k (mine j) l ne ∙ o) (still i l b m))

-- before a collection each page is free or in one region's chain
pub sound_owned : {s : Store} (S : Sound s) → Owned (page_count s.ctl.n s.heap) s.ctl.regions S.own S.pages S.free
sound_owned S = record { chain = λ k b. inr (S.chained k b) }
