-- The collection at work, steps 2 and 3 of document 01: taking pages, evacuating, scanning. A taken page keeps its free link in its origin word until
-- the end, so that a collection that lacks a page can put the free list back. Words that were read, and what a part of the work left, are arguments.
use Rattle.std.specs.Prelude.{ℕ, ◌+◌, ◌-◌, ◌/◌, ◌%◌, ◌^◌, Bool, true, false, List, set, leb, eqb}
use Rattle.rules.specs.Memory.{address_page, link_page, end_of, top_of, set_end, set_top, set_status}
use Rattle.rules.specs.Words.{pointer_address}
use Rattle.laws.specs.Choice.{◌⇒◌∣◌}
use Rattle.laws.specs.Lists.{at}
use Rattle.laws.specs.Loop.{Turn, more, over, loop}
use Rattle.laws.specs.Each.{After, after, each}
use Rattle.motion.specs.Leaves.{Desk, out, low, free_first, taken, page_start, region_on, copied, forwarded, wake, Step, go_on, all_scanned, page_lacks, on_step, pop}

-- ---- What knows nothing of the page size. An answer `false` is that a page is wanted and none is free.

-- the first free page, which starts at b and which the link l names: link 0, and its free link in its origin word
unfoldable pub take_at : ℕ → ℕ → Desk → After ℕ Desk
take_at l b d =
    out l (set (set d.heap b 0) (b + 1) (at d.heap b))
    (set (set d.notes free_first (at d.heap b)) taken (low (at d.notes taken + 1)))

-- the value of m words at a, for which region j has room, at the region's a, which is b; its forward; the region is woken
unfoldable pub move_to : ℕ → ℕ → ℕ → ℕ → Desk → After Bool Desk
move_to a m j b d = out true (forwarded a b (copied m a b d.heap)) (wake j b (set_top d.notes j (low (b + m))))

unfoldable pub move_on : ℕ → ℕ → ℕ → After Bool Desk → After Bool Desk
move_on a m j o = o.answer ⇒ move_to a m j (top_of o.state.notes j) o.state ∣ after false o.state

-- the value at a is moved: its forward goes to x
unfoldable pub evacuated : ℕ → ℕ → After Bool Desk → After Bool Desk
evacuated x a o = o.answer ⇒ out true (set o.state.heap x (at o.state.heap a)) o.state.notes ∣ after false o.state

-- the step that the stack gives
abbrev pub with_heap : List ℕ → After Step (List ℕ) → After Step Desk
with_heap h o = out o.answer h o.state

-- region j being scanned at s
pub record Scanning : Type 0 where
  pub region : ℕ
  pub address : ℕ
  pub desk : Desk

abbrev pub scanning : ℕ → ℕ → Desk → Scanning
scanning j s d = record { region = j; address = s; desk = d }

unfoldable pub work_on : After Step Desk → Turn Scanning (After Step Desk)
work_on o =
    on_step o.answer (λ j s. more (scanning j s o.state)) (over (after all_scanned o.state)) (over (after page_lacks o.state))

-- Below, n is the page exponent.
module _ (n : ℕ) where
  -- ---- Taking a page, and room.

  unfoldable pub take_on : ℕ → Desk → After ℕ Desk
  take_on l d = eqb l 0 ⇒ after 0 d ∣ take_at l (page_start n (link_page l)) d

  -- the answer is the link to the page, 0 where none is free
  abbrev pub take_free : Desk → After ℕ Desk
  take_free d = take_on (at d.notes free_first) d

  -- the page at b, which the link l names, becomes region j's last; e was the region's end
  unfoldable pub join_at : ℕ → ℕ → ℕ → ℕ → Desk → After Bool Desk
  join_at j e l b d = out true (set d.heap (e - 2 ^ n) l) (set_top (set_end d.notes j (b + 2 ^ n)) j (b + 2))

  unfoldable pub join_on : ℕ → ℕ → After ℕ Desk → After Bool Desk
  join_on j e o =
      eqb o.answer 0 ⇒ after false o.state ∣
      join_at j e o.answer (page_start n (link_page o.answer)) o.state

  -- region j with a page more, behind the one that ends at its e
  abbrev pub join_free : ℕ → Desk → After Bool Desk
  join_free j d = join_on j (end_of d.notes j) (take_free d)

  -- region j with room for m words before its e: as it is, or with a page more
  unfoldable pub room : ℕ → ℕ → Desk → After Bool Desk
  room j m d = leb (top_of d.notes j + m) (end_of d.notes j) ⇒ after true d ∣ join_free j d

  -- ---- Moving a value.

  -- w is the word at a: a forward is even
  unfoldable pub move_of : ℕ → ℕ → ℕ → Desk → After Bool Desk
  move_of a w j d = eqb (w % 2) 0 ⇒ after true d ∣ move_on a (w / 8 + 1) j (room j (w / 8 + 1) d)

  -- the value at a moved, if it is not yet
  abbrev pub move : ℕ → Desk → After Bool Desk
  move a d = move_of a (at d.heap a) (region_on n a d.heap) d

  -- ---- Evacuating a field, and scanning a value.

  unfoldable pub evacuate_of : ℕ → ℕ → Desk → After Bool Desk
  evacuate_of x w d = eqb (w % 4) 0 ⇒ evacuated x (pointer_address w) (move (pointer_address w) d) ∣ after true d

  -- the word at address x: its value moved, the forward written there; numbers and constant pointers stay
  unfoldable pub evacuate : ℕ → Desk → After Bool Desk
  evacuate x d = evacuate_of x (at d.heap x) d

  -- w is the header: a record's fields from field 0 up; raw words are not looked at
  unfoldable pub scan_of : ℕ → ℕ → Desk → After Bool Desk
  scan_of s w d = let fields = each (w / 8) evacuate (s + 1) d in eqb (w % 8) 1 ⇒ fields ∣ after true d

  abbrev pub scan_value : ℕ → Desk → After Bool Desk
  scan_value s d = scan_of s (at d.heap s) d

  -- ---- The work.

  -- the third word of the page after that of s
  abbrev pub next_page : ℕ → List ℕ → ℕ
  next_page s h = page_start n (link_page (at h (page_start n (address_page n s)))) + 2

  -- the value at s ends at t, and a is the region's a: a full page's end is not the next page's start
  unfoldable pub next_of : ℕ → ℕ → ℕ → List ℕ → ℕ
  next_of s t a h =
      eqb t a ⇒ t ∣
      eqb (t % 2 ^ n) 0 ⇒ next_page s h ∣
      eqb (at h t) 0 ⇒ next_page s h ∣
      t

  -- where the scan of region j goes on after the value at s
  abbrev pub next_scan : ℕ → ℕ → Desk → ℕ
  next_scan j s d = next_of s (s + (at d.heap s / 8 + 1)) (top_of d.notes j) d.heap

  unfoldable pub step_on : ℕ → ℕ → After Bool Desk → After Step Desk
  step_on j s o = o.answer ⇒ after (go_on j (low (next_scan j s o.state))) o.state ∣ after page_lacks o.state

  -- one step, region j being scanned at s: a value scanned, or the region left
  unfoldable pub step : ℕ → ℕ → Desk → After Step Desk
  step j s d =
      let scanned = step_on j s (scan_value s d) in
      eqb s (top_of d.notes j) ⇒ with_heap d.heap (pop (set_status d.notes j 0)) ∣
      scanned

  unfoldable pub work_turn : Scanning → Turn Scanning (After Step Desk)
  work_turn c = work_on (step c.region c.address c.desk)

  -- at most f steps; an entry is left where they were not enough
  abbrev pub work : ℕ → Scanning → After Step Desk
  work f c = loop f work_turn (λ c'. after (go_on c'.region c'.address) c'.desk) c
