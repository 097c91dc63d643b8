-- `pages::clear_page` meets its contract: the page lies inside the heap, and what is lent of it comes back all 0.
use Prim.Native.Nat.{◌^◌}
use mathlib.Core.Path.{refl}
use native.Mathlib.Omega.{arith}
use lib.ListN.{length}
use Rattle.rules.proofs.Limits.{Inside, page_number, page_inside}
use Rattle.rules.proofs.Pages.{page_cleared}
use Rattle.pages.proofs.clear_page.Goals as goal
use Rattle.pages.proofs.clear_page.Goals.{After-page_address-start}

pub page_address-start-requires : goal.page_address-start-requires
page_address-start-requires c = page_number _ _ _ c.requires.0 c.requires.1

here : (c : After-page_address-start) → Inside (2 ^ c.args.n) c.page_address-start.result.0 (length c.args.heap.now)
here c = rw c.page_address-start.ensures (page_inside _ _ _ _ refl c.requires.0 c.requires.1)

pub past_page-to-requires : goal.past_page-to-requires
past_page-to-requires c = omega (arith, here (goal.at.past_page-to-requires c).After-page_address-start, c.requires.0.low, c.requires.0.high)

pub offset_bounds-heap-from : goal.offset_bounds-heap-from
offset_bounds-heap-from c = omega (arith, here (goal.at.offset_bounds-heap-from c).After-page_address-start, c.past_page-to.ensures)

pub slice_bounds-clear-count : goal.slice_bounds-clear-count
slice_bounds-clear-count c = omega (arith, here (goal.at.slice_bounds-clear-count c).After-page_address-start, c.past_page-to.ensures)

pub slice_bounds-clear-start : goal.slice_bounds-clear-start
slice_bounds-clear-start c = omega (arith, here (goal.at.slice_bounds-clear-start c).After-page_address-start, c.past_page-to.ensures)

pub slice_bounds-clear-end : goal.slice_bounds-clear-end
slice_bounds-clear-end c = omega (arith, here (goal.at.slice_bounds-clear-end c).After-page_address-start, c.past_page-to.ensures)

pub returns : goal.returns
returns c = rw c.past_page-to.ensures (page_cleared _ _ _ _ _ _ c.page_address-start.ensures refl (page_inside _ _ _ _ refl c.requires.0 c.requires.1).ends (rw c.past_page-to.ensures at c.clear.ensures))
