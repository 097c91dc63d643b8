-- `pages::free_after` meets its contract: page k lies inside the heap, and free last is 0 where the count was 1.
use native.Mathlib.Omega.{arith}
use Rattle.rules.proofs.Limits.{page_number}
use Rattle.pages.proofs.Taking.{free_page, free_inside}
use Rattle.pages.proofs.free_after.Goals as goal

pub page_address-start-requires : goal.page_address-start-requires
page_address-start-requires c = page_number _ _ _ c.requires.0.paged (free_page _ _ _ c.requires.0 c.requires.1)

pub offset_bounds-heap-i : goal.offset_bounds-heap-i
offset_bounds-heap-i c = let i = free_inside _ _ _ c.requires.0 c.requires.1 in omega (arith, c.page_address-start.ensures)

pub bounds-heap-i : goal.bounds-heap-i
bounds-heap-i c = let i = free_inside _ _ _ c.requires.0 c.requires.1 in omega (arith, c.page_address-start.ensures)
