-- `pages::take_page` meets its contract: page k lies inside the heap, and its two words are written in the order of `take_page`.
use mathlib.Core.Path.{refl}
use native.Mathlib.Omega.{arith}
use lib.ListN.{length-set}
use Rattle.rules.proofs.Limits.{page_number}
use Rattle.pages.proofs.Taking.{free_page, free_inside, took}
use Rattle.pages.proofs.take_page.Goals as goal

pub page_address-start-requires : goal.page_address-start-requires
page_address-start-requires c = page_number _ _ _ c.requires.0.paged (free_page _ _ _ c.requires.0 c.requires.1)

pub offset_bounds-heap-i : goal.offset_bounds-heap-i
offset_bounds-heap-i c = let i = free_inside _ _ _ c.requires.0 c.requires.1 in omega (arith, c.page_address-start.ensures)

pub bounds-heap-i : goal.bounds-heap-i
bounds-heap-i c = let i = free_inside _ _ _ c.requires.0 c.requires.1 in omega (arith, c.page_address-start.ensures)

pub overflow_add-heap : goal.overflow_add-heap
overflow_add-heap c = let i = free_inside _ _ _ c.requires.0 c.requires.1 in omega (arith, c.page_address-start.ensures)

pub offset_bounds-heap-i-2 : goal.offset_bounds-heap-i-2
offset_bounds-heap-i-2 c = let i = free_inside _ _ _ c.requires.0 c.requires.1 in omega (arith, c.page_address-start.ensures)

pub bounds-heap-i-2 : goal.bounds-heap-i-2
bounds-heap-i-2 c = let i = free_inside _ _ _ c.requires.0 c.requires.1 in simp length-set (omega (arith, c.page_address-start.ensures))

pub returns-clause-run : goal.returns-clause-run
returns-clause-run c = λ t. rw (c.free_after-rest.ensures, c.page_address-start.ensures, c.region_origin.ensures) (took _ _ c.args.c _ _ _ _ _ c.requires.0.some_first c.requires.1 refl refl refl)
