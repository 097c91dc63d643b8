-- A value stored at a region's a: the heap stays laid out, because only words behind the last page's values change, and the value ends before
-- that page does.
use Prim.Native.Nat.{ℕ, suc, ◌+◌, ◌*◌, ◌^◌, ◌≤◌, ◌<◌}
use native.Mathlib.Nat.{le_refl, add-zero}
use native.Mathlib.Omega.{arith}
use native.Mathlib.Decide.{ℕ_discrete}
use mathlib.Core.Path.{◌≡◌, refl, sym, ap, ◌∙◌}
use mathlib.Core.Logic.{◌≢◌}
use mathlib.Core.List.{List}
use lib.ListN.{length, set, length-set}
use lib.Seq.{get_or-set_same, get_or-set_other}
use Rattle.rules.specs.Words.{head_of, length_by}
use Rattle.rules.specs.Memory.{link, end_of, top_of}
use Rattle.laws.specs.Lists.{at, put}
use Rattle.rules.specs.Pages.{Run, store}
use Rattle.laws.proofs.Lists.{put_elsewhere, length_put, at_put_below, at_put_in, at_put_above}
use Rattle.rules.proofs.Steps.{PageSteps, OnPage, here, over, steps_at, steps_then, steps_same}
use Rattle.facts.proofs.Laid.{mine_inj, spare≢mine, upd, upd_same, upd_other, Owner, mine, Body, Like, like_kept, body_like, clean_like, RowFirst, RowLast, first_same, last_same, Layout, Value, last_own, last_low, top_in_heap}
use Rattle.laws.proofs.Once.{linked_same}

-- the heap h after g, where ws, a value of l words, was stored at `top` of page z: the regions' pages have what they held, and the value stands
-- there
pub record StoredAt (n : ℕ) (own : ℕ → Owner) (fin : ℕ → ℕ) (g h : List ℕ) (z top l : ℕ) (ws : List ℕ) : Type 0 where
  pub keeps : (k i x : ℕ) → own k ≡ mine i → k * 2 ^ n < x → x < fin k → at g x ≡ at h x
  pub word : (i : ℕ) → i < length ws → at h (top + i) ≡ at ws i
  pub value : OnPage n h z top l

module _ {n N R : ℕ} {own : ℕ → Owner} {fin : ℕ → ℕ} {pages : ℕ → List ℕ} {free : List ℕ} {r : Run} (L : Layout n N R own fin pages free r)
    (j : ℕ) (j_r : j < R) (ws : List ℕ) (fits : top_of r.table j + length ws ≤ end_of r.table j) where
  -- the last page of the region
  abbrev pub last_page : ℕ
  last_page = (L.mine_top j j_r).page

  abbrev pub heap' : List ℕ
  heap' = put r.heap (top_of r.table j) ws

  body : Body n r.heap last_page j (fin last_page)
  body = L.mine_body j last_page (last_own L j j_r)

  top_in : top_of r.table j + length ws ≤ length r.heap
  top_in = top_in_heap L j j_r (length ws) fits

  pub stored_long : length heap' ≡ length r.heap
  stored_long = length_put r.heap (top_of r.table j) ws top_in

  -- other pages keep all their words
  pub stored_else : (k x : ℕ) → k ≢ last_page → k * 2 ^ n ≤ x → x < k * 2 ^ n + 2 ^ n → at heap' x ≡ at r.heap x
  stored_else k x ne p q =
      let e = (L.mine_top j j_r).end in
      let lo = last_low L j j_r in
      put_elsewhere (2 ^ n) r.heap last_page (top_of r.table j) ws k x top_in (omega arith) (omega arith) ne p q

  -- and the last page what stands before a
  stored_below : (x : ℕ) → x < top_of r.table j → at heap' x ≡ at r.heap x
  stored_below x b = at_put_below r.heap (top_of r.table j) ws x top_in b

  -- so each page of a region keeps what it held
  pub stored_kept : (k i x : ℕ) → own k ≡ mine i → k * 2 ^ n ≤ x → x < fin k → at heap' x ≡ at r.heap x
  stored_kept k i x o p q = let b = (L.mine_body i k o).inside in go (ℕ_discrete k last_page)
    where
      go : Dec (k ≡ last_page) → at heap' x ≡ at r.heap x
      go (yes e) = let f : fin k ≡ fin last_page = ap fin e in let a = (L.mine_top j j_r).top in stored_below x (omega arith)
      go (no ne) = let b = (L.mine_body i k o).inside in stored_else k x ne p (omega arith)

  -- the words stand from a on
  pub stored_word : (i : ℕ) → i < length ws → at heap' (top_of r.table j + i) ≡ at ws i
  stored_word i b = at_put_in r.heap (top_of r.table j) ws i top_in b

  -- stepping comes to them
  stored_steps : PageSteps n heap' last_page (top_of r.table j)
  stored_steps = let a = (L.mine_top j j_r).top in steps_at refl (sym a) (steps_same (λ x p q. sym (stored_below x (omega arith))) body.filled)

  module _ (l : ℕ) (val : Value ws l) where
    -- the value stands there
    pub stored_value : OnPage n heap' last_page (top_of r.table j) l
    stored_value =
        let s = val.size in
        let e = (L.mine_top j j_r).end in
        let w : at heap' (top_of r.table j) ≡ at ws 0 = ap (at heap') (sym (add-zero _)) ∙ stored_word 0 (omega arith) in
        record { steps = stored_steps; stands = record { head = ap (λ x. length_by (head_of x)) w ∙ val.head; ends = omega arith } }

    like : (k : ℕ) → k ≢ last_page → Like n r.heap heap' k
    like k ne = like_kept n r.heap heap' k (λ x. stored_else k x ne)

    -- no link changes
    links : (k : ℕ) → link n r.heap k ≡ link n heap' k
    unfolding link
    links k = go (ℕ_discrete k last_page)
      where
        go : Dec (k ≡ last_page) → at r.heap (k * 2 ^ n) ≡ at heap' (k * 2 ^ n)
        go (yes e) =
            let q : k * 2 ^ n ≡ last_page * 2 ^ n = ap (λ x. x * 2 ^ n) e in
            let lo = last_low L j j_r in
            sym (stored_below (k * 2 ^ n) (omega arith))
        go (no f) = let b = L.big in sym (stored_else k (k * 2 ^ n) f (le_refl _) (omega arith))

    body' : Body n heap' last_page j (fin last_page + length ws)
    body' =
        let s = val.size in
        let e = (L.mine_top j j_r).end in
        let a = (L.mine_top j j_r).top in
        let lo = last_low L j j_r in
        let q : top_of r.table j + suc l ≡ fin last_page + length ws = omega arith in
        record {
          whose = stored_below (last_page * 2 ^ n + 1) (omega arith) ∙ body.whose;
          filled = steps_then stored_steps (over stored_value.stands (rw q here));
          inside = omega arith;
          rest = λ x p q. at_put_above r.heap (top_of r.table j) ws x top_in (omega arith) ∙ body.rest x (omega arith) q;
        }

    fin' : ℕ → ℕ
    fin' = upd fin last_page (fin last_page + length ws)

    bodies : (i k : ℕ) → own k ≡ mine i → Body n heap' k i (fin' k)
    unfolding fin'
    bodies i k o = go (ℕ_discrete k last_page)
      where
        go : Dec (k ≡ last_page) → Body n heap' k i (fin' k)
        go (yes e) =
            let ij : i ≡ j = mine_inj (sym o ∙ ap own e ∙ last_own L j j_r) in
            rw (upd_same fin last_page (fin last_page + length ws) k e, e, ij) body'
        go (no f) =
            let b = L.big in
            rw (upd_other fin last_page (fin last_page + length ws) k f) (body_like (omega arith) (like k f) (L.mine_body i k o))

    table' : List ℕ
    table' = set r.table (4 * j + 2) (top_of r.table j + length ws)

    row : (x : ℕ) → x ≢ 4 * j + 2 → at table' x ≡ at r.table x
    unfolding table'
    row x ne = get_or-set_other r.table (4 * j + 2) x (top_of r.table j + length ws) 0 ne

    linked : (i : ℕ) → i < R → RowFirst n table' heap' i (pages i)
    linked i b = first_same (row (4 * i + 1) (omega arith)) (λ k m. links k) (L.mine_links i b)

    tops : (i : ℕ) → i < R → RowLast n table' fin' i (pages i)
    unfolding table' fin'
    tops i b = go (ℕ_discrete i j)
      where
        go : Dec (i ≡ j) → RowLast n table' fin' i (pages i)
        go (yes e) =
            let rows = L.rows in
            rw e
            (record {
              page = last_page;
              last = (L.mine_top j j_r).last;
              end = row (4 * j) (omega arith) ∙ (L.mine_top j j_r).end;
              top =
                  get_or-set_same r.table (4 * j + 2) (top_of r.table j + length ws) 0 (omega arith) ∙ ap (λ x. x + length ws) (L.mine_top j j_r).top
                  ∙ sym (upd_same fin last_page (fin last_page + length ws) last_page refl);
            })
        go (no f) =
            last_same (row (4 * i) (omega arith)) (row (4 * i + 2) (omega arith))
            (λ k m. sym (upd_other fin last_page (fin last_page + length ws) k (λ q. f (mine_inj (sym (L.mine_own i k b m) ∙ ap own q ∙ last_own L j j_r))))) (L.mine_top i b)

    -- the heap stays laid out
    pub store_laid : Layout n N R own (upd fin last_page (fin last_page + length ws)) pages free (store n j ws r)
    unfolding store fin' table'
    store_laid =
        record {
          size = stored_long ∙ L.size;
          big = L.big;
          rows = rw length-set L.rows;
          known = L.known;
          free_own = L.free_own;
          free_once = L.free_once;
          free_links = linked_same (λ k m. links k) L.free_links;
          free_last_lem = L.free_last_lem;
          free_count = L.free_count;
          free_clean = λ k o. clean_like (like k (λ q. spare≢mine o (ap own q ∙ last_own L j j_r))) (L.free_clean k o);
          mine_own = L.mine_own;
          mine_once = L.mine_once;
          mine_links = linked;
          mine_body = bodies;
          mine_top = tops;
        }

    pub stored : StoredAt n own fin r.heap (store n j ws r).heap last_page (top_of r.table j) l ws
    unfolding store
    stored = record { keeps = λ k i x o p q. sym (stored_kept k i x o (omega arith) q); word = stored_word; value = stored_value }
