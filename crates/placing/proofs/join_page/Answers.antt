-- `placing::join_page` meets its contract: the page before is the one that ends at e, and the new one lies inside the heap.
use mathlib.Core.Path.{refl}
use native.Mathlib.Omega.{arith}
use Rattle.rules.proofs.Limits.{page_number, page_inside}
use Rattle.placing.proofs.join_page.Goals as goal

pub page_address-start-requires : goal.page_address-start-requires
page_address-start-requires c = page_number _ _ _ c.requires.0 c.requires.1

pub end_of-e-requires : goal.end_of-e-requires
end_of-e-requires c = (c.requires.2, c.requires.3)

pub page_words-requires : goal.page_words-requires
page_words-requires c = (c.requires.0.low, c.requires.0.high)

pub address_before-before-requires : goal.address_before-before-requires
address_before-before-requires c = omega (arith, c.requires.4, c.end_of-e.ensures.0, c.page_words.ensures)

pub region_origin-requires : goal.region_origin-requires
region_origin-requires c = omega (arith, c.requires.3)

pub page_link-requires : goal.page_link-requires
page_link-requires c = let b = page_number _ _ _ c.requires.0 c.requires.1 in omega (arith, b.0)

pub append_page-requires : goal.append_page-requires
append_page-requires c =
    let i = page_inside _ _ _ _ refl c.requires.0 c.requires.1 in
    (omega (arith, c.page_address-start.ensures), omega (arith, c.address_before-before.ensures, c.requires.4, c.requires.5, i.low, c.end_of-e.ensures.0, c.page_words.ensures), i.size)

pub page_end-requires : goal.page_end-requires
page_end-requires c = let s = page_number _ _ _ c.requires.0 c.requires.1 in (s.0, c.requires.0.low, s.1)

pub set_end-requires : goal.set_end-requires
set_end-requires c = let i = page_inside _ _ _ _ refl c.requires.0 c.requires.1 in omega (arith, c.page_end.ensures, c.requires.2, c.requires.3)

pub body_address-requires : goal.body_address-requires
body_address-requires c = page_number _ _ _ c.requires.0 c.requires.1

pub set_top-requires : goal.set_top-requires
set_top-requires c = let i = page_inside _ _ _ _ refl c.requires.0 c.requires.1 in omega (arith, c.body_address.ensures, c.requires.2, c.requires.3, c.set_end.auto.table)

pub returns : goal.returns
returns c = (rw (c.append_page.ensures, c.page_address-start.ensures, c.region_origin.ensures, c.address_before-before.ensures, c.end_of-e.ensures.0, c.page_words.ensures, c.page_link.ensures), rw (c.set_top.ensures, c.set_end.ensures, c.page_end.ensures, c.body_address.ensures))
