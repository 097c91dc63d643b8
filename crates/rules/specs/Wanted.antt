-- Document 01's working of a collection with as many pages as it wants: where no page is free it takes the one behind the heap's last. In
-- all else it is the same, step by step; the pages that it takes are the pages that the working wants.
use Rattle.std.specs.Prelude.{ℕ, zero, suc, ◌+◌, ◌-◌, ◌*◌, ◌^◌, true, false, List, [], ◌∷◌, ◌++◌, length, take, drop, set, replicate, leb, eqb}
use Rattle.std.proofs.Math.Option.{Option, none, some}
use Rattle.laws.specs.Lists.{at}
use Rattle.rules.specs.Memory.{Store, page_count, page_address, page_end, body_address, region_origin, end_of, top_of, set_status, set_row}
use Rattle.rules.specs.Words.{number, in_heap, in_const, word_of, address_pointer, rec, raw, moved, wrong, head_of}
use Rattle.rules.specs.Pages.{Run, begun, with_heap, with_table, with_stack, take_page, join, store}
use Rattle.rules.specs.Collection.{wake, region_at, next_scan}

-- Below, n is the page exponent.
module _ (n : ℕ) where
  -- the first free page, or else one behind the heap's last, clean but for its origin
  abbrev pub page_or : ℕ → Run → Option (ℕ × Run) → ℕ × Run
  page_or j r none = (page_count n r.heap, with_heap r (r.heap ++ 0 ∷ region_origin j ∷ replicate (2 ^ n - 2) 0))
  page_or j r (some p) = p

  unfoldable pub any_page : ℕ → Run → ℕ × Run
  any_page j r = page_or j r (take_page n j r)

  -- ---- 1.

  abbrev pub fresh_row : ℕ → ℕ × Run → Run
  fresh_row j p = with_table p.1 (set_row p.1.table j (page_end n p.0) (page_address n p.0) (body_address n p.0) 0)

  unfoldable pub freshen_for : ℕ → ℕ → Run → Run
  freshen_for zero j r = r
  freshen_for (suc m) j r = freshen_for m (suc j) (fresh_row j (any_page j r))

  -- ---- 3.

  abbrev pub joined : ℕ → ℕ × Run → Run
  joined j p = join n j p.0 p.1

  unfoldable pub room_for : ℕ → ℕ → Run → Run
  room_for j m r = elim (leb (top_of r.table j + m) (end_of r.table j)) [ true ↦ r | false ↦ joined j (any_page j r) ]

  abbrev pub stored : ℕ → List ℕ → Run → ℕ × Run
  stored j ws r = (top_of r.table j, store n j ws r)

  abbrev pub forwarded : ℕ → ℕ → ℕ × Run → ℕ × Run
  forwarded j a p = (address_pointer p.0, with_heap (wake n j p.0 p.1) (set (wake n j p.0 p.1).heap a (address_pointer p.0)))

  unfoldable pub move_for : ℕ → ℕ → ℕ → Run → ℕ × Run
  move_for j a l r = forwarded j a (stored j (take (suc l) (drop a r.heap)) (room_for j (length (take (suc l) (drop a r.heap))) r))

  unfoldable pub evacuate_at_for : ℕ → Run → ℕ × Run
  evacuate_at_for a r = elim (head_of (at r.heap a)) [
    | rec l ↦ move_for (region_at n r.heap a) a l r
    | raw l ↦ move_for (region_at n r.heap a) a l r
    | moved b ↦ (address_pointer b, r)
    | wrong ↦ (address_pointer a, r)
  ]

  unfoldable pub evacuate_for : ℕ → Run → ℕ × Run
  evacuate_for w r = elim (word_of w) [ number ↦ (w, r) | in_const a ↦ (w, r) | in_heap a ↦ evacuate_at_for a r ]

  -- ---- 2.

  unfoldable pub roots_for : List ℕ → Run → Run
  roots_for [] r = r
  roots_for (w ∷ ws) r = roots_for ws (evacuate_for w r).1

  abbrev pub field_set : ℕ → ℕ × Run → Run
  field_set x p = with_heap p.1 (set p.1.heap x p.0)

  unfoldable pub fields_for : ℕ → ℕ → Run → Run
  fields_for zero x r = r
  fields_for (suc m) x r = fields_for m (suc x) (field_set x (evacuate_for (at r.heap x) r))

  unfoldable pub value_for : ℕ → Run → Run
  value_for s r = elim (head_of (at r.heap s)) [ rec l ↦ fields_for l (suc s) r | raw l ↦ r | moved b ↦ r | wrong ↦ r ]

  unfoldable pub work_for : ℕ → ℕ → ℕ → Run → Run
  work_for zero j s r = r
  work_for (suc f) j s r = elim (eqb s (top_of r.table j)) [
    | false ↦ work_for f j (next_scan n j s (value_for s r)) (value_for s r)
    | true ↦ elim r.stack [
      | [] ↦ with_table r (set_status r.table j 0)
      | t ∷ ts ↦ work_for f t.region t.address (with_stack (with_table r (set_status r.table j 0)) ts)
    ]
  ]

  unfoldable pub stack_for : Run → Run
  stack_for r = elim r.stack [
    | [] ↦ r
    | t ∷ ts ↦ work_for (2 * length r.heap) t.region t.address (with_stack r ts)
  ]

-- the run before the old pages are given back
unfoldable pub unbounded : Store → Run
unbounded s = stack_for s.ctl.n (roots_for s.ctl.n s.roots (freshen_for s.ctl.n s.ctl.regions 0 (begun s)))

-- the pages that it took: those of the free list, and those behind the heap
abbrev pub taken_by : Store → Run → ℕ
taken_by s r = (s.ctl.count - r.count) + (page_count s.ctl.n r.heap - page_count s.ctl.n s.heap)

-- "the pages that the working wants"
unfoldable pub wanted : Store → ℕ
wanted s = taken_by s (unbounded s)
