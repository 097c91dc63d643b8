-- `pages::link_fits` meets its contract: the page lies inside the heap, so that its link can be read, and the tests are those of `link_fits`.
use Prim.Native.Nat.{◌≤◌, ◌<◌}
use mathlib.Core.Path.{◌≡◌, refl}
use mathlib.Core.Bool.{Bool, true, false, beq}
use borrow.Author.Tests.{le-leb, lt-leb}
use native.Mathlib.Omega.{arith}
use Rattle.laws.specs.Lists.{at}
use Rattle.rules.specs.Memory.{link}
use Rattle.rules.specs.Pages.{link_fits}
use Rattle.rules.proofs.Limits.{page_number, page_inside}
use Rattle.laws.proofs.Turned.{turned, eqb_turned}
use Rattle.pages.proofs.link_fits.Goals as goal

-- two tests that agree, however each is written and in either order
alike : (a b p q : Bool) → a ≡ p → b ≡ q → beq a b ≡ beq p q
alike a b p q e f = rw (e, f)

turned_round : (a b p q : Bool) → a ≡ q → b ≡ p → beq a b ≡ beq p q
turned_round a b true true e f = rw (e, f)
turned_round a b true false e f = rw (e, f)
turned_round a b false true e f = rw (e, f)
turned_round a b false false e f = rw (e, f)

pub page_address-start-requires : goal.page_address-start-requires
page_address-start-requires c = page_number _ _ _ c.requires.0 c.requires.1

pub offset_bounds-heap-i : goal.offset_bounds-heap-i
offset_bounds-heap-i c = let i = page_inside _ _ _ _ refl c.requires.0 c.requires.1 in omega (arith, c.page_address-start.ensures)

pub bounds-heap-i : goal.bounds-heap-i
bounds-heap-i c = let i = page_inside _ _ _ _ refl c.requires.0 c.requires.1 in omega (arith, c.page_address-start.ensures)

pub page_count-requires : goal.page_count-requires
page_count-requires c = c.requires.0.high

pub overflow_cast-link : goal.overflow_cast-link
overflow_cast-link c = omega (arith, c.shared_slice_known-1.given c.page_address-start.result.0)

pub returns-then-page_count-link : goal.returns-then-page_count-link
unfolding link_fits link
returns-then-page_count-link c = let above : c.page_count.result < at c.args.heap.now c.page_address-start.result.0 = search turned in
    rw (← c.page_address-start.ensures, ← c.page_count.ensures, lt-leb _ _ above)

pub returns : goal.returns
unfolding link_fits link
returns c = let named : at c.args.heap.now c.page_address-start.result.0 ≤ c.page_count.result = search turned in
    rw (← c.page_address-start.ensures, ← c.page_count.ensures, le-leb _ _ named) (search (alike, turned_round, eqb_turned))
