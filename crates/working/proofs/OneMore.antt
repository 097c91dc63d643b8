-- A region more: the first free page becomes its only page, and its row is written behind the rows of the others. No other page and no other
-- row changes, so the heap stays laid out.
use Prim.Native.Nat.{ℕ, suc, ◌+◌, ◌*◌, ◌^◌, ◌<◌}
use native.Mathlib.Omega.{arith}
use native.Mathlib.Decide.{ℕ_discrete, dec_lt}
use mathlib.Core.Path.{◌≡◌, refl, sym, ap, ◌∙◌}
use mathlib.Core.Logic.{◌≢◌, ◌⊎◌, inl, inr}
use mathlib.Core.List.Memᴰ
use mathlib.Core.List.{List, [], ◌∷◌, Memᴰ}
use lib.ListN.{length}
use Rattle.laws.specs.Lists.{at}
use Rattle.laws.proofs.Once.{Once, once_none, once_more, only, Linked, linked_single}
use Rattle.rules.specs.Memory.{page_end, page_address, body_address, link, end_of, first_of, top_of, status_of, set_row}
use Rattle.rules.specs.Pages.{Run, with_table}
use Rattle.rules.proofs.Rows.{row_width, row_else, row_end, row_first, row_top, row_status}
use Rattle.facts.proofs.Laid.{Owner, mine, RowFirst, RowLast, first_same, last_same, Layout, upd, upd_same, upd_other}
use Rattle.working.proofs.Owned.{Owned, taken_owned}
use Rattle.working.proofs.Taken.{taken_laid, k_link}
use Rattle.rules.proofs.Pages.{taken, taken_table}

-- region R gets page k
module _ {n N R : ℕ} {own : ℕ → Owner} {fin : ℕ → ℕ} {pages : ℕ → List ℕ} {k : ℕ} {ks : List ℕ} {r : Run} (L : Layout n N R own fin pages (k ∷ ks) r)
    (wide : 4 * R + 3 < length r.table) where
  abbrev r₁ : Run
  r₁ = taken n R k r

  abbrev pub own' : ℕ → Owner
  own' = upd own k (mine R)

  abbrev pub fin' : ℕ → ℕ
  fin' = upd fin k (k * 2 ^ n + 2)

  abbrev pub pages' : ℕ → List ℕ
  pages' = upd pages R (k ∷ [])

  abbrev pub table' : List ℕ
  table' = set_row r₁.table R (page_end n k) (page_address n k) (body_address n k) 0

  abbrev pub L₁ : Layout n N R own' fin' pages ks r₁
  L₁ = taken_laid L R

  -- ---- the table

  inside : 4 * R + 3 < length r₁.table
  inside = rw (taken_table n R k r) wide

  pub same_width : length table' ≡ length r.table
  same_width = row_width r₁.table R (page_end n k) (page_address n k) (body_address n k) 0 ∙ ap length (taken_table n R k r)

  kept : (x : ℕ) → (x < 4 * R) ⊎ (4 * R + 3 < x) → at table' x ≡ at r₁.table x
  kept = row_else r₁.table R (page_end n k) (page_address n k) (body_address n k) 0

  pub else_row : (x : ℕ) → (x < 4 * R) ⊎ (4 * R + 3 < x) → at table' x ≡ at r.table x
  else_row x q = kept x q ∙ ap (λ t. at t x) (taken_table n R k r)

  pub status_new : (i : ℕ) → i ≡ R → status_of table' i ≡ 0
  status_new i e = ap (status_of table') e ∙ row_status r₁.table R (page_end n k) (page_address n k) (body_address n k) 0 inside

  pub status_else : (i : ℕ) → i ≢ R → status_of table' i ≡ status_of r.table i
  status_else i ne = else_row (4 * i + 3) (go (dec_lt i R))
    where
      go : Dec (i < R) → (4 * i + 3 < 4 * R) ⊎ (4 * R + 3 < 4 * i + 3)
      go (yes q) = inl (omega arith)
      go (no q) = inr (omega arith)

  -- ---- the pages

  pub own_new : own' k ≡ mine R
  own_new = upd_same own k (mine R) k refl

  pub fin_new : fin' k ≡ k * 2 ^ n + 2
  fin_new = upd_same fin k (k * 2 ^ n + 2) k refl

  pub pages_new : (i : ℕ) → i ≡ R → pages' i ≡ k ∷ []
  pages_new i e = upd_same pages R (k ∷ []) i e

  pub pages_old : (i : ℕ) → i ≢ R → pages' i ≡ pages i
  pages_old i ne = upd_other pages R (k ∷ []) i ne

  linked_k : Linked (link n r₁.heap) (suc k) (k ∷ [])
  unfolding taken
  linked_k = linked_single (k_link L R)

  pub region_laid : Layout n N (suc R) own' fin' pages' ks (with_table r₁ table')
  region_laid =
      record {
        size = L₁.size;
        big = L₁.big;
        rows = let a = wide in rw same_width (omega arith);
        known = L₁.known;
        free_own = L₁.free_own;
        free_once = L₁.free_once;
        free_links = L₁.free_links;
        free_last_lem = L₁.free_last_lem;
        free_count = L₁.free_count;
        free_clean = L₁.free_clean;
        mine_own = λ i l b m. owns i l b m (ℕ_discrete i R);
        mine_once = λ i b. onces i b (ℕ_discrete i R);
        mine_links = λ i b. links i b (ℕ_discrete i R);
        mine_body = L₁.mine_body;
        mine_top = λ i b. tops i b (ℕ_discrete i R);
      }
    where
      owns : (i l : ℕ) → i < suc R → Memᴰ l (pages' i) → Dec (i ≡ R) → own' l ≡ mine i
      owns i l b m (yes e) = ap own' (Memᴰ.eq_of_singleton (rw (pages_new i e) at m)) ∙ own_new ∙ ap mine (sym e)
      owns i l b m (no ne) = L₁.mine_own i l (omega arith) (rw (pages_old i ne) at m)

      onces : (i : ℕ) → i < suc R → Dec (i ≡ R) → Once (pages' i)
      onces i b (yes e) = rw (pages_new i e) (once_more (λ m. Memᴰ.not-nil m) once_none)
      onces i b (no ne) = rw (pages_old i ne) (L₁.mine_once i (omega arith))

      links : (i : ℕ) → i < suc R → Dec (i ≡ R) → RowFirst n table' r₁.heap i (pages' i)
      links i b (yes e) =
          record {
            page = k;
            first = ap (first_of table') e ∙ row_first r₁.table R (page_end n k) (page_address n k) (body_address n k) 0 inside;
            links = rw (pages_new i e) linked_k;
          }
      links i b (no ne) = rw (pages_old i ne) (first_same (kept (4 * i + 1) (inl (omega arith))) (λ l m. refl) (L₁.mine_links i (omega arith)))

      tops : (i : ℕ) → i < suc R → Dec (i ≡ R) → RowLast n table' fin' i (pages' i)
      tops i b (yes e) =
          record {
            page = k;
            last = rw (pages_new i e) only;
            end = ap (end_of table') e ∙ row_end r₁.table R (page_end n k) (page_address n k) (body_address n k) 0 inside;
            top = ap (top_of table') e ∙ row_top r₁.table R (page_end n k) (page_address n k) (body_address n k) 0 inside ∙ sym fin_new;
          }
      tops i b (no ne) = rw (pages_old i ne) (last_same (kept (4 * i) (inl (omega arith))) (kept (4 * i + 2) (inl (omega arith))) (λ l m. refl) (L₁.mine_top i (omega arith)))

  -- ---- whose each page is

  pub region_owned : Owned N R own pages (k ∷ ks) → Owned N (suc R) own' pages' ks
  region_owned = taken_owned own k R (omega arith) (omega arith) (rw (pages_new R refl) (Memᴰ.head refl)) (λ i l b m. rw (pages_old i (omega arith)) m)
