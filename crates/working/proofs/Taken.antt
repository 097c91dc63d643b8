-- A page taken from the front of the free list: the rest of the list and every other page stay, and the page, clean but for link and
-- origin, is an empty page of region j.
use Prim.Native.Nat.{ℕ, suc, ◌+◌, ◌-◌, ◌*◌, ◌^◌, ◌≤◌, ◌<◌}
use native.Mathlib.Nat.{le_refl}
use native.Mathlib.Omega.{arith}
use native.Mathlib.Decide.{ℕ_discrete}
use mathlib.Core.Path.{◌≡◌, refl, sym, ◌∙◌}
use mathlib.Core.Logic.{◌≢◌}
use mathlib.Core.List.{List, [], ◌∷◌, Memᴰ}
use lib.ListN.{length, set, length-set}
use lib.Seq.{get_or-set_same, get_or-set_other}
use Rattle.laws.proofs.Once.{linked_first, linked_same}
use Rattle.rules.proofs.Pages.{taken}
use Rattle.rules.proofs.Pages.{taken_long}
use Rattle.rules.specs.Memory.{link}
use Rattle.laws.specs.Lists.{at, last_or}
use Rattle.rules.specs.Audit.{last_link}
use Rattle.rules.specs.Pages.{Run, last_if}
use Rattle.laws.proofs.Lists.{set_elsewhere}
use Rattle.rules.proofs.Steps.{here}
use Rattle.laws.proofs.Once.{once_tail, once_head}
use Rattle.facts.proofs.Laid.{mine_inj, spare≢mine, spare≢beyond, upd, upd_same, upd_other, Owner, spare, mine, Body, Clean, Like, body_like, clean_like, first_same, last_same, Layout, page_in, like_kept, link_kept, chain_apart, upd_known, first_spare}

module _ {n N R : ℕ} {own : ℕ → Owner} {fin : ℕ → ℕ} {pages : ℕ → List ℕ} {k : ℕ} {ks : List ℕ} {r : Run} (L : Layout n N R own fin pages (k ∷ ks) r) (j : ℕ) where
  own_k : own k ≡ spare
  own_k = first_spare L

  abbrev pub P : ℕ
  P = 2 ^ n

  k_in : k * P + P ≤ length r.heap
  k_in = page_in L k (λ q. spare≢beyond own_k q)

  abbrev pub h' : List ℕ
  h' = set (set r.heap (k * P) 0) (k * P + 1) (suc j)

  fits : k * P + 2 ≤ length r.heap
  fits = let a = k_in in let b = L.big in omega arith

  -- only link and origin change
  keep : (x : ℕ) → x ≢ k * P → x ≢ k * P + 1 → at h' x ≡ at r.heap x
  keep x p q = get_or-set_other (set r.heap (k * P) 0) (k * P + 1) x (suc j) 0 q ∙ get_or-set_other r.heap (k * P) x 0 0 p

  -- other pages keep all their words, their links too
  pub others : (l x : ℕ) → l ≢ k → l * P ≤ x → x < l * P + P → at h' x ≡ at r.heap x
  others l x ne p q =
      let b = L.big in
      set_elsewhere P (set r.heap (k * P) 0) k (k * P + 1) (suc j) l x (omega arith) (omega arith) ne p q
      ∙ set_elsewhere P r.heap k (k * P) 0 l x (le_refl _) (omega arith) ne p q

  like : (l : ℕ) → l ≢ k → Like n r.heap h' l
  like l ne = like_kept n r.heap h' l (λ x. others l x ne)

  links : (l : ℕ) → l ≢ k → link n r.heap l ≡ link n h' l
  links l ne = link_kept n r.heap h' l (λ x. others l x ne) L.big

  k_body : Body n h' k j (k * P + 2)
  k_body =
      let b = L.big in
      record {
        whose = get_or-set_same (set r.heap (k * P) 0) (k * P + 1) (suc j) 0 (rw (length-set r.heap (k * P) 0) (let a = fits in omega arith));
        filled = here;
        inside = omega arith;
        rest = λ x p q. keep x (omega arith) (omega arith) ∙ (L.free_clean k own_k).rest x (omega arith) q;
      }

  pub k_link : link n h' k ≡ 0
  unfolding link
  k_link =
      let a = fits in
      get_or-set_other (set r.heap (k * P) 0) (k * P + 1) (k * P) (suc j) 0 (omega arith) ∙ get_or-set_same r.heap (k * P) 0 0 (omega arith)

  abbrev pub own' : ℕ → Owner
  own' = upd own k (mine j)

  abbrev pub fin' : ℕ → ℕ
  fin' = upd fin k (k * P + 2)

  own_other : (l : ℕ) → l ≢ k → own' l ≡ own l
  own_other l ne = upd_other own k (mine j) l ne

  rest_not_k : (l : ℕ) → Memᴰ l ks → l ≢ k
  rest_not_k l m q = once_head L.free_once (rw q at m)

  last_left : (c y : ℕ) (ls : List ℕ) → c ≡ length ls → y ≡ last_link (k ∷ ls) → last_if c y ≡ last_link ls
  unfolding last_link last_or
  last_left c y [] t e = rw t
  last_left c y (l ∷ ls) t e = rw t e

  bodies : (i l : ℕ) → own' l ≡ mine i → Body n h' l i (fin' l)
  bodies i l o = go (ℕ_discrete l k)
    where
      go : Dec (l ≡ k) → Body n h' l i (fin' l)
      go (yes e) =
          let ij : i ≡ j = mine_inj (sym o ∙ upd_same own k (mine j) l e) in
          rw (upd_same fin k (k * P + 2) l e, e, ij) k_body
      go (no ne) =
          let b = L.big in
          rw (upd_other fin k (k * P + 2) l ne) (body_like (omega arith) (like l ne) (L.mine_body i l (sym (own_other l ne) ∙ o)))

  cleans : (l : ℕ) → own' l ≡ spare → Clean n h' l
  cleans l o = go (ℕ_discrete l k)
    where
      go : Dec (l ≡ k) → Clean n h' l
      go (yes e) = spare≢mine o (upd_same own k (mine j) l e)
      go (no ne) = clean_like (like l ne) (L.free_clean l (sym (own_other l ne) ∙ o))

  mine_not_k : (i l : ℕ) → i < R → Memᴰ l (pages i) → l ≢ k
  mine_not_k = chain_apart L (λ i. spare≢mine own_k)

  counts : r.count - 1 ≡ length ks
  counts = let c = L.free_count in omega arith

  pub taken_laid : Layout n N R own' fin' pages ks (taken n j k r)
  unfolding taken
  taken_laid =
      let f = linked_first L.free_links in
      record {
        size = taken_long n j k r ∙ L.size;
        big = L.big;
        rows = L.rows;
        known = upd_known L k (mine j) (spare≢beyond own_k);
        free_own = λ l m. own_other l (rest_not_k l m) ∙ L.free_own l (Memᴰ.tail m);
        free_once = once_tail L.free_once;
        free_links = linked_same (λ l m. links l (rest_not_k l m)) f.1;
        free_last_lem = last_left _ _ ks counts L.free_last_lem;
        free_count = counts;
        free_clean = cleans;
        mine_own = λ i l b m. own_other l (mine_not_k i l b m) ∙ L.mine_own i l b m;
        mine_once = L.mine_once;
        mine_links = λ i b. first_same refl (λ l m. links l (mine_not_k i l b m)) (L.mine_links i b);
        mine_body = bodies;
        mine_top = λ i b. last_same refl refl (λ l m. sym (upd_other fin k (k * P + 2) l (mine_not_k i l b m))) (L.mine_top i b);
      }
