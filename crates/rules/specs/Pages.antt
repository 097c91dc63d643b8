-- Document 01, "What each call does": taking and returning pages, and the allocation rule. The calls and the collection share them.
use Rattle.std.specs.Prelude.{ℕ, zero, suc, ◌+◌, ◌-◌, ◌^◌, Bool, true, false, ◌&&◌, List, [], ◌∷◌, length, set, replicate, leb, eqb}
use Rattle.std.specs.Bool.{beq}
use Rattle.std.proofs.Math.Option.{Option, none, some}
use Rattle.laws.specs.Lists.{put}
use Rattle.rules.specs.declared.Control.{Control}
use Rattle.rules.specs.Memory.{Store, control, page_count, page_address, page_link, region_origin, body_address, page_end, link, set_link, set_origin, end_of, top_of, set_end, set_top}

-- a region waiting to be scanned: the address of its first unscanned copy
pub record Scan : Type 0 where
  pub region : ℕ
  pub address : ℕ

-- a call at work: heap, table and free list, and in a collection the scan stack, last pushed first
pub record Run : Type 0 where
  pub heap : List ℕ
  pub table : List ℕ
  pub first : ℕ
  pub last : ℕ
  pub count : ℕ
  pub stack : List Scan

abbrev pub begun : Store → Run
begun s = record { heap = s.heap; table = s.table; first = s.ctl.first; last = s.ctl.last; count = s.ctl.count; stack = [] }

-- the record that a run leaves, with R regions
abbrev pub record_after : Store → ℕ → Run → Control
record_after s R r = control s.ctl.n R r.first r.last r.count

abbrev pub with_heap : Run → List ℕ → Run
with_heap r h = record { heap = h; table = r.table; first = r.first; last = r.last; count = r.count; stack = r.stack }

abbrev pub with_table : Run → List ℕ → Run
with_table r t = record { heap = r.heap; table = t; first = r.first; last = r.last; count = r.count; stack = r.stack }

abbrev pub with_free : Run → List ℕ → ℕ → ℕ → ℕ → Run
with_free r h f l m = record { heap = h; table = r.table; first = f; last = l; count = m; stack = r.stack }

abbrev pub with_stack : Run → List Scan → Run
with_stack r s = record { heap = r.heap; table = r.table; first = r.first; last = r.last; count = r.count; stack = s }

-- free last: as it was, and 0 once no page is left
abbrev pub last_if : ℕ → ℕ → ℕ
last_if zero l = zero
last_if (suc m) l = l

-- Below, n is the page exponent.
module _ (n : ℕ) where
  -- ---- Pages.

  -- "taking a page needs its link at most N, and 0 exactly when the count is 1"
  unfoldable pub link_fits : List ℕ → ℕ → ℕ → Bool
  link_fits heap k count = leb (link n heap k) (page_count n heap) && beq (eqb (link n heap k) 0) (eqb count 1)

  -- "Pages are taken from the front of the free list." "A taken page gets link 0 and its origin first." None where the list is empty.
  unfoldable pub take_page : ℕ → Run → Option (ℕ × Run)
  take_page j r = elim r.first [
    | zero ↦ none
    | suc k ↦
        some (
          k,
          with_free r (set_origin n (set_link n r.heap k 0) k (region_origin j)) (link n r.heap k) (last_if (r.count - 1) r.last) (r.count - 1),
        )
  ]

  -- the words of page k all 0
  unfoldable pub clear_page : List ℕ → ℕ → List ℕ
  clear_page heap k = put heap (page_address n k) (replicate (2 ^ n) 0)

  -- "and returned to its back, zeroed"
  unfoldable pub give_back : ℕ → Run → Run
  give_back k r = elim r.last [
    | zero ↦ with_free r (clear_page r.heap k) (page_link k) (page_link k) (suc r.count)
    | suc l ↦ with_free r (set_link n (clear_page r.heap k) l (page_link k)) r.first (page_link k) (suc r.count)
  ]

  unfoldable pub give_back_all : List ℕ → Run → Run
  give_back_all [] r = r
  give_back_all (k ∷ ks) r = give_back_all ks (give_back k r)

  -- ---- "Allocation puts the value at a if it fits before e; else a new page is taken, linked, and the rest of the old one stays 0."

  -- "then the page before it is linked to it": page k becomes region j's last page
  unfoldable pub join : ℕ → ℕ → Run → Run
  join j k r =
      with_table (with_heap r (set r.heap (end_of r.table j - 2 ^ n) (page_link k)))
      (set_top (set_end r.table j (page_end n k)) j (body_address n k))

  -- region j with room for m words before its e: as it is, or with a page taken and linked
  unfoldable pub room : ℕ → ℕ → Run → Option Run
  room j m r = elim (leb (top_of r.table j + m) (end_of r.table j)) [
    | true ↦ some r
    | false ↦ elim (take_page j r) [ none ↦ none | some p ↦ some (join j p.0 p.1) ]
  ]

  -- the words at region j's a
  unfoldable pub store : ℕ → List ℕ → Run → Run
  store j ws r =
      with_table (with_heap r (put r.heap (top_of r.table j) ws)) (set_top r.table j (top_of r.table j + length ws))

  -- the words into region j, with the address that they get; none where a page is wanted and none is free
  unfoldable pub place : ℕ → List ℕ → Run → Option (ℕ × Run)
  place j ws r = elim (room j (length ws) r) [ none ↦ none | some r₁ ↦ some (top_of r₁.table j, store j ws r₁) ]
