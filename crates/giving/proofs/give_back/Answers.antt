-- `giving::give_back` meets its contract: the page is cleared, and where there was a last free page, its link is written.
use mathlib.Core.Path.{refl}
use native.Mathlib.Omega.{arith}
use Rattle.rules.proofs.Limits.{page_number, page_here, pages_few}
use Rattle.giving.proofs.Given.{given_alone, given_behind}
use Rattle.giving.proofs.give_back.Goals as goal

pub page_link-link-requires : goal.page_link-link-requires
page_link-link-requires c = let b = page_number _ _ _ c.requires.0.paged c.requires.1 in omega arith

pub clear_page-requires : goal.clear_page-requires
clear_page-requires c = (c.requires.0.paged, omega arith)

pub returns-then-c-eq0 : goal.returns-then-c-eq0
returns-then-c-eq0 c = given_alone _ _ _ _ _ _ c.clear_page.ensures c.page_link-link.ensures (omega arith) (omega arith)

pub link_address-start-requires : goal.link_address-start-requires
link_address-start-requires c =
    let b = pages_few _ _ _ c.requires.0.paged refl in
    let l = c.requires.0.last in
    (omega arith, omega arith, c.requires.0.paged.high)

pub offset_bounds-heap-i : goal.offset_bounds-heap-i
offset_bounds-heap-i c =
    let i = page_here _ _ _ _ _ c.requires.0.paged refl c.link_address-start.ensures (λ z. omega arith) c.requires.0.last in
    let z = c.requires.0.paged.size in
    omega arith

pub bounds-heap-i : goal.bounds-heap-i
bounds-heap-i c =
    let i = page_here _ _ _ _ _ c.requires.0.paged refl c.link_address-start.ensures (λ z. omega arith) c.requires.0.last in
    let e = c.clear_page.auto.heap in
    omega arith

pub returns : goal.returns
returns c = given_behind _ _ _ _ _ _ c.clear_page.ensures c.page_link-link.ensures (omega arith) _ (λ z. omega arith) c.link_address-start.ensures
