-- An empty page of region j becomes its last: the only words that change are the link of the page that was last, and the region's e and a.
use Prim.Native.Nat.{ℕ, suc, ◌+◌, ◌-◌, ◌*◌, ◌^◌, ◌<◌}
use native.Mathlib.Omega.{arith}
use native.Mathlib.Decide.{ℕ_discrete}
use mathlib.Core.Path.{◌≡◌, refl, sym, ap, ◌∙◌}
use mathlib.Core.Logic.{◌≢◌, ◌⊎◌, inl, inr}
use mathlib.Core.List.{List, [], ◌∷◌, ◌++◌, Memᴰ}
use lib.ListN.{length, set, length-set}
use lib.Seq.{get_or-set_same, get_or-set_other}
use Rattle.rules.specs.Memory.{link, end_of, first_of, top_of}
use Rattle.laws.specs.Lists.{at}
use Rattle.rules.specs.Pages.{Run, join}
use Rattle.facts.proofs.Laid.{mine_inj, spare≢mine, upd, upd_same, upd_other, Owner, spare, mine, Like, body_like, clean_like, like_relinked, link_relinked, RowFirst, RowLast, first_same, last_same, Layout, last_own, last_in_heap, last_start}
use Rattle.laws.proofs.Once.{Once, last_in, linked_same, linked_snoc, last_snoc, in_snoc, once_snoc}

-- page k becomes region j's last page
module _ {n N R : ℕ} {own : ℕ → Owner} {fin : ℕ → ℕ} {pages : ℕ → List ℕ} {free : List ℕ} {r : Run} (L : Layout n N R own fin pages free r) (j : ℕ) (j_r : j < R) (k : ℕ) where
  abbrev pub P : ℕ
  P = 2 ^ n

  abbrev pub z : ℕ
  z = (L.mine_top j j_r).page

  abbrev pub x : ℕ
  x = end_of r.table j - P

  x_is : x ≡ z * P
  x_is = last_start L j j_r

  abbrev pub h' : List ℕ
  h' = set r.heap x (suc k)

  -- the only word that changes is a link
  pub like : (l : ℕ) → Like n r.heap h' l
  like l = rw x_is (like_relinked n r.heap z (suc k) l)

  pub links : (l : ℕ) → l ≢ z → link n r.heap l ≡ link n h' l
  links l ne = let b = L.big in rw x_is (link_relinked n r.heap z (suc k) l (omega arith) ne)

  z_link : link n h' z ≡ suc k
  unfolding link
  z_link = ap (at h') (sym x_is) ∙ get_or-set_same r.heap x (suc k) 0 (let b = L.big in let a = last_in_heap L j j_r in let c = x_is in omega arith)

  abbrev pub pages' : ℕ → List ℕ
  pages' = upd pages j (pages j ++ k ∷ [])

  abbrev table' : List ℕ
  table' = set (set r.table (4 * j) (k * P + P)) (4 * j + 2) (k * P + 2)

  pub row : (y : ℕ) → y ≢ 4 * j → y ≢ 4 * j + 2 → at table' y ≡ at r.table y
  row y p q =
      get_or-set_other (set r.table (4 * j) (k * P + P)) (4 * j + 2) y (k * P + 2) 0 q ∙ get_or-set_other r.table (4 * j) y (k * P + P) 0 p

  spare_not_z : (l : ℕ) → own l ≡ spare → l ≢ z
  spare_not_z l o e = spare≢mine o (ap own e ∙ last_own L j j_r)

  other_not_z : (i l : ℕ) → i ≢ j → own l ≡ mine i → l ≢ z
  other_not_z i l ne o e = ne (mine_inj (sym o ∙ ap own e ∙ last_own L j j_r))

  -- where it is the region's already, and holds nothing yet
  module _ (own_k : own k ≡ mine j) (k_new : Memᴰ k (pages j) → ⊥) (k_link : link n r.heap k ≡ 0) (k_fin : fin k ≡ k * 2 ^ n + 2) where
    owns : (i l : ℕ) → i < R → Memᴰ l (pages' i) → own l ≡ mine i
    owns i l b m = go (ℕ_discrete i j)
      where
        by : Memᴰ l (pages j) ⊎ (l ≡ k) → own l ≡ mine j
        by (inl p) = L.mine_own j l j_r p
        by (inr e) = ap own e ∙ own_k

        go : Dec (i ≡ j) → own l ≡ mine i
        go (yes e) = by (in_snoc (pages j) (rw (upd_same pages j (pages j ++ k ∷ []) i e) at m)) ∙ ap mine (sym e)
        go (no ne) = L.mine_own i l b (rw (upd_other pages j (pages j ++ k ∷ []) i ne) at m)

    onces : (i : ℕ) → i < R → Once (pages' i)
    onces i b = go (ℕ_discrete i j)
      where
        go : Dec (i ≡ j) → Once (pages' i)
        go (yes e) = rw (upd_same pages j (pages j ++ k ∷ []) i e) (once_snoc (L.mine_once j j_r) k_new)
        go (no ne) = rw (upd_other pages j (pages j ++ k ∷ []) i ne) (L.mine_once i b)

    k_not_z : k ≢ z
    k_not_z e = k_new (rw (← e) at (last_in (L.mine_top j j_r).last))

    chained : (i : ℕ) → i < R → RowFirst n table' h' i (pages' i)
    chained i b = go (ℕ_discrete i j)
      where
        go : Dec (i ≡ j) → RowFirst n table' h' i (pages' i)
        go (yes e) =
            let t = L.mine_links j j_r in
            record {
              page = t.page;
              first = row (4 * i + 1) (omega arith) (omega arith) ∙ ap (first_of r.table) e ∙ t.first;
              links =
                  rw (upd_same pages j (pages j ++ k ∷ []) i e)
                  (linked_snoc t.links (L.mine_top j j_r).last (L.mine_once j j_r) z_link (sym (links k k_not_z) ∙ k_link) (λ y m ne. links y ne));
            }
        go (no ne) =
            rw (upd_other pages j (pages j ++ k ∷ []) i ne)
            (first_same (row (4 * i + 1) (omega arith) (omega arith)) (λ l m. links l (other_not_z i l ne (L.mine_own i l b m))) (L.mine_links i b))

    tops : (i : ℕ) → i < R → RowLast n table' fin i (pages' i)
    tops i b = go (ℕ_discrete i j)
      where
        go : Dec (i ≡ j) → RowLast n table' fin i (pages' i)
        go (yes e) =
            let rows = L.rows in
            let len : length (set r.table (4 * j) (k * P + P)) ≡ length r.table = length-set r.table (4 * j) (k * P + P) in
            record {
              page = k;
              last = rw (upd_same pages j (pages j ++ k ∷ []) i e) (last_snoc (pages j));
              end =
                  ap (end_of table') e ∙ get_or-set_other (set r.table (4 * j) (k * P + P)) (4 * j + 2) (4 * j) (k * P + 2) 0 (omega arith)
                  ∙ get_or-set_same r.table (4 * j) (k * P + P) 0 (omega arith);
              top = ap (top_of table') e ∙ get_or-set_same (set r.table (4 * j) (k * P + P)) (4 * j + 2) (k * P + 2) 0 (omega arith) ∙ sym k_fin;
            }
        go (no ne) =
            rw (upd_other pages j (pages j ++ k ∷ []) i ne)
            (last_same (row (4 * i) (omega arith) (omega arith)) (row (4 * i + 2) (omega arith) (omega arith)) (λ l m. refl) (L.mine_top i b))

    pub joined_laid : Layout n N R own fin pages' free (join n j k r)
    unfolding join
    joined_laid =
        record {
          size = length-set r.heap x (suc k) ∙ L.size;
          big = L.big;
          rows = simp length-set L.rows;
          known = L.known;
          free_own = L.free_own;
          free_once = L.free_once;
          free_links = linked_same (λ l m. links l (spare_not_z l (L.free_own l m))) L.free_links;
          free_last_lem = L.free_last_lem;
          free_count = L.free_count;
          free_clean = λ l o. clean_like (like l) (L.free_clean l o);
          mine_own = owns;
          mine_once = onces;
          mine_links = chained;
          mine_body = λ i l o. let b = L.big in body_like (omega arith) (like l) (L.mine_body i l o);
          mine_top = tops;
        }
