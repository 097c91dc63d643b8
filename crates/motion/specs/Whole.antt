-- The collection at work, whole: fresh pages, roots, the scan stack; the end of a collection that is done; and the undoing of one that lacks a page.
use Rattle.std.specs.Prelude.{ℕ, ◌+◌, ◌-◌, ◌*◌, ◌/◌, ◌%◌, ◌^◌, Bool, true, false, List, map, length, take, set, leb, eqb, None, Some, Result, Ok, Err}
use Rattle.rules.specs.declared.Refused.{Refused}
use Rattle.rules.specs.Refusals.{Outcome, outcome, refusing}
use Rattle.rules.specs.declared.Control.{Control}
use Rattle.rules.specs.declared.Refusal.{Refusal}
use Rattle.rules.specs.Memory.{Store, control, page_count, page_link, link_page, region_origin, body_address, page_end, link, origin, set_link, set_origin, row, set_row, first_link}
use Rattle.rules.specs.Words.{pointer_address}
use Rattle.rules.specs.Pages.{clear_page}
use Rattle.laws.specs.Choice.{◌⇒◌∣◌}
use Rattle.laws.specs.Lists.{at, put}
use Rattle.laws.specs.Loop.{Turn, more, over, loop}
use Rattle.laws.specs.Each.{After, after, each, each_of, steps, along}
use Rattle.motion.specs.Leaves.{Desk, desk, out, low, free_first, taken, free_last, given, begun_notes, page_start, Step, all_scanned, page_lacks, on_step, pop}
use Rattle.motion.specs.Run.{take_free, move, work, scanning}

-- ---- What knows nothing of the page size.

-- all is scanned
abbrev pub is_finished : Step → Bool
is_finished (Ok (Some e)) = false
is_finished (Ok None) = true
is_finished (Err e) = false

unfoldable pub work_done : After Step Desk → After Bool Desk
work_done o = after (is_finished o.answer) o.state

-- w is the word at x: where it is a forward, the header that the copy keeps is put back. The answer is the next value's address.
unfoldable pub undo_of : ℕ → ℕ → List ℕ → After ℕ (List ℕ)
undo_of x w h =
    eqb (w % 2) 1 ⇒ after (x + (w / 8 + 1)) h ∣
    after (x + (at h (pointer_address w) / 8 + 1)) (set h x (at h (pointer_address w)))

abbrev pub undo_value : ℕ → List ℕ → After ℕ (List ℕ)
undo_value x h = undo_of x (at h x) h

-- value by value up to e, or to the first 0
unfoldable pub undo_turn : ℕ → After ℕ (List ℕ) → Turn (After ℕ (List ℕ)) (List ℕ)
undo_turn e o =
    leb e o.answer ⇒ over o.state ∣
    eqb (at o.state o.answer) 0 ⇒ over o.state ∣
    more (undo_value o.answer o.state)

abbrev pub undo_vals : ℕ → ℕ → After ℕ (List ℕ) → List ℕ
undo_vals f e o = loop f (undo_turn e) (λ o'. o'.state) o

-- Below, n is the page exponent, N the number of pages and R of regions.
module _ (n : ℕ) where
  -- ---- 1. "Each region, bottom first, takes one fresh page; a starts at its third word."

  unfoldable pub fresh_at : ℕ → ℕ → Desk → After Bool Desk
  fresh_at j b d = out true d.heap (set_row d.notes j (b + 2 ^ n) b (b + 2) 0)

  unfoldable pub fresh_on : ℕ → After ℕ Desk → After Bool Desk
  fresh_on j o = eqb o.answer 0 ⇒ after false o.state ∣ fresh_at j (page_start n (link_page o.answer)) o.state

  unfoldable pub fresh : ℕ → Desk → After Bool Desk
  fresh j d = fresh_on j (take_free n d)

  abbrev pub freshen : ℕ → Desk → After Bool Desk
  freshen R d = each R fresh 0 d

  -- ---- 2. "Evacuate the roots in order, then work the scan stack." The roots themselves are written at the end.

  unfoldable pub move_root : ℕ → Desk → After Bool Desk
  move_root w d = eqb (w % 4) 0 ⇒ move n (pointer_address w) d ∣ after true d

  abbrev pub move_roots : List ℕ → Desk → After Bool Desk
  move_roots roots d = each_of move_root roots d

  unfoldable pub work_from : ℕ → List ℕ → After Step (List ℕ) → After Step Desk
  work_from f h o =
      on_step o.answer (λ j s. work n f (scanning j s (desk h o.state))) (out all_scanned h o.state) (out page_lacks h o.state)

  -- at most f steps
  abbrev pub work_stack : ℕ → Desk → After Step Desk
  work_stack f d = work_from f d.heap (pop d.notes)

  unfoldable pub roots_done : ℕ → After Bool Desk → After Bool Desk
  roots_done f o = let worked = work_done (work_stack f o.state) in o.answer ⇒ worked ∣ after false o.state

  unfoldable pub fresh_done : ℕ → List ℕ → After Bool Desk → After Bool Desk
  fresh_done f roots o = let moved = roots_done f (move_roots roots o.state) in o.answer ⇒ moved ∣ after false o.state

  -- steps 1 to 3, with at most f steps of the work
  abbrev pub attempt : ℕ → ℕ → List ℕ → Desk → After Bool Desk
  attempt R f roots d = fresh_done f roots (freshen R d)

  -- ---- The undoing.

  unfoldable pub undo_page : ℕ → List ℕ → List ℕ
  undo_page k h = undo_vals (2 ^ n) (page_end n k) (after (body_address n k) h)

  abbrev pub undo_chain : ℕ → ℕ → List ℕ → List ℕ
  undo_chain N l h = along N N (link n) undo_page l h

  -- the headers of all regions' pages, bottom region first
  abbrev pub undo_headers : ℕ → ℕ → List ℕ → List ℕ → List ℕ
  undo_headers N R table h = steps R (λ j. undo_chain N (first_link n table j)) 0 h

  -- a taken page k as it was when it was free: all 0 but its link, which its origin word has kept
  unfoldable pub relink : ℕ → List ℕ → List ℕ
  relink k h = set_link n (clear_page n h k) k (origin n h k)

  -- the m pages that were taken, from the link `first` on
  abbrev pub relink_all : ℕ → ℕ → ℕ → List ℕ → List ℕ
  relink_all m N first h = along m N (origin n) relink first h

  abbrev pub undo : ℕ → ℕ → ℕ → ℕ → List ℕ → List ℕ → List ℕ
  undo m N R first table h = relink_all m N first (undo_headers N R table h)

  -- ---- 4. The end: "At the end the from-space pages, zeroed, follow the pages still free."

  -- page k is one of region j's
  unfoldable pub own : ℕ → ℕ → List ℕ → List ℕ
  own j k h = set_origin n h k (region_origin j)

  abbrev pub own_chain : ℕ → ℕ → ℕ → List ℕ → List ℕ
  own_chain N j l h = along N N (link n) (own j) l h

  -- the regions' new pages get their origins, by the notes' rows
  abbrev pub own_all : ℕ → ℕ → List ℕ → List ℕ → List ℕ
  own_all N R notes h = steps R (λ j. own_chain N j (first_link n notes j)) 0 h

  -- page k, cleared, behind the last free page; first and last are the links to the first and the last, 0 where none is free
  unfoldable pub give_on : ℕ → ℕ → ℕ → List ℕ → List ℕ → Desk
  give_on k first last h t =
      eqb first 0 ⇒ desk h (set t free_first (page_link k)) ∣
      desk (set h (page_start n (link_page last)) (page_link k)) t

  unfoldable pub give_back : ℕ → Desk → Desk
  give_back k d =
      give_on k (at d.notes free_first) (at d.notes free_last) (clear_page n d.heap k)
      (set (set d.notes given (low (at d.notes given + 1))) free_last (page_link k))

  abbrev pub link_on : Desk → ℕ → ℕ
  link_on d k = link n d.heap k

  abbrev pub give_chain : ℕ → ℕ → Desk → Desk
  give_chain N l d = along N N link_on give_back l d

  -- the old pages, bottom region first
  abbrev pub give_all : ℕ → ℕ → List ℕ → Desk → Desk
  give_all N R table d = steps R (λ j. give_chain N (first_link n table j)) 0 d

-- the new word of a root: the forward in its value's old header
unfoldable pub root_word : List ℕ → ℕ → ℕ
root_word h w = eqb (w % 4) 0 ⇒ at h (pointer_address w) ∣ w

abbrev pub written_roots : List ℕ → List ℕ → List ℕ
written_roots h roots = map (root_word h) roots

-- the rows of R regions
abbrev pub written_table : ℕ → List ℕ → List ℕ → List ℕ
written_table R notes table = put table 0 (take (row R) notes)

-- the record by the notes
abbrev pub record_by : Control → List ℕ → Control
record_by c t = control c.n c.regions (at t free_first) (at t free_last) (low (c.count - at t taken + at t given))

-- ---- The whole.

-- d is what the work left, and d' what the giving back left
unfoldable pub done_as : Store → Desk → Desk → Outcome (Result Control Refused)
done_as s d d' =
    outcome (Ok (record_by s.ctl d'.notes)) d'.heap (written_table s.ctl.regions d'.notes s.table)
    (written_roots d.heap s.roots) s.consts

unfoldable pub done : Store → ℕ → Desk → Outcome (Result Control Refused)
done s N d =
    done_as s d
    (give_all s.ctl.n N s.ctl.regions s.table (desk (own_all s.ctl.n N s.ctl.regions d.notes d.heap) d.notes))

unfoldable pub lacking : Store → ℕ → Desk → Outcome (Result Control Refused)
lacking s N d =
    outcome (refusing Refusal.NoPage s.ctl)
    (undo s.ctl.n (at d.notes taken) N s.ctl.regions s.ctl.first s.table d.heap) s.table s.roots s.consts

unfoldable pub ended : Store → After Bool Desk → Outcome (Result Control Refused)
ended s o =
    let good = done s (page_count s.ctl.n s.heap) o.state in
    let bad = lacking s (page_count s.ctl.n s.heap) o.state in
    o.answer ⇒ good ∣ bad

-- what the code does with every store
unfoldable pub working_collect : Store → Outcome (Result Control Refused)
working_collect s =
    ended s
    (attempt s.ctl.n s.ctl.regions (2 * length s.heap) s.roots (desk s.heap (begun_notes s.ctl.first s.ctl.last)))
