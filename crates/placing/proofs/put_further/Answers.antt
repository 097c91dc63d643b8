-- `placing::put_further` meets its contract: there is no page, or one with a link that does not fit; or the page is taken, joined and filled.
use Prim.Native.Nat.{◌-◌}
use mathlib.Core.Path.{◌≡◌, refl, sym, ap, ◌∙◌}
use mathlib.Core.List.{◌∷◌}
use native.Mathlib.Omega.{arith}
use lib.ListN.{length}
use Rattle.rules.specs.Memory.{lent}
use Rattle.rules.specs.Pages.{link_fits}
use Rattle.rules.proofs.Limits.{page_number}
use Rattle.rules.proofs.Pages.{value_no_page, value_broken, value_grown}
use Rattle.pages.specs.Taking.{PageFree}
use Rattle.pages.proofs.Taking.{free_page, free_inside, took}
use Rattle.placing.proofs.put_further.Goals as goal
use Rattle.placing.proofs.put_further.Goals.{After-link_fits, Else-c-eq0}

pub returns-then-c-eq0 : goal.returns-then-c-eq0
returns-then-c-eq0 c = λ r k. sym (value_no_page (lent _ _ r k c.args.c) _ (c.args.header ∷ c.args.words.now) c.requires.1 c.if-c-eq0.true)

free : (c : Else-c-eq0) → PageFree (length c.args.heap.now) c.args.c
free c = record { paged = c.requires.0.paged; some_first = c.requires.0.some_page (omega (arith, c.if-c-eq0.false)); first = c.requires.0.first; some_count = omega (arith, c.if-c-eq0.false) }

pub link_page-k-requires : goal.link_page-k-requires
link_page-k-requires c = (free (goal.at.link_page-k-requires c).Else-c-eq0).some_first

pub link_fits-requires : goal.link_fits-requires
link_fits-requires c = (c.requires.0.paged, free_page _ _ _ (free (goal.at.link_fits-requires c).Else-c-eq0) c.link_page-k.ensures)

link-is : (c : After-link_fits) → link_fits c.args.c.n c.args.heap.now (c.args.c.first - 1) c.args.c.count ≡ c.link_fits.result
link-is c = ap (λ k. link_fits c.args.c.n c.args.heap.now k c.args.c.count) (sym c.link_page-k.ensures) ∙ sym c.link_fits.ensures

pub returns-then-not-link_fits : goal.returns-then-not-link_fits
returns-then-not-link_fits c = λ r k. sym (value_broken (lent _ _ r k c.args.c) _ (c.args.header ∷ c.args.words.now) c.requires.1 c.if-c-eq0.false (link-is (goal.at.returns-then-not-link_fits c).After-link_fits ∙ c.if-not-link_fits.true))

pub free_after-rest-requires : goal.free_after-rest-requires
free_after-rest-requires c = (free (goal.at.free_after-rest-requires c).Else-c-eq0, c.link_page-k.ensures)

pub join_page-requires : goal.join_page-requires
join_page-requires c = (c.requires.0.paged, free_page _ _ _ (free (goal.at.join_page-requires c).Else-c-eq0) c.link_page-k.ensures, c.requires.0.rows, c.requires.0.region, c.requires.0.page, c.requires.0.end)

pub body_address-body-requires : goal.body_address-body-requires
body_address-body-requires c = page_number _ _ _ c.requires.0.paged (free_page _ _ _ (free (goal.at.body_address-body-requires c).Else-c-eq0) c.link_page-k.ensures)

pub store_value-requires : goal.store_value-requires
store_value-requires c = let i = free_inside _ _ _ (free (goal.at.store_value-requires c).Else-c-eq0) c.link_page-k.ensures in omega (arith, c.body_address-body.ensures, c.requires.0.short, c.requires.0.rows, c.requires.0.region, c.join_page.auto.heap, c.join_page.auto.table)

pub address_pointer-requires : goal.address_pointer-requires
address_pointer-requires c = let i = free_inside _ _ _ (free (goal.at.address_pointer-requires c).Else-c-eq0) c.link_page-k.ensures in omega (arith, c.body_address-body.ensures)

pub returns : goal.returns
returns c =
    λ r k.
    rw (c.free_after-rest.ensures, c.address_pointer.ensures, c.store_value.ensures.0, c.store_value.ensures.1, c.join_page.ensures.0, c.join_page.ensures.1, c.body_address-body.ensures)
    (sym (value_grown (lent c.args.heap.now c.args.table.now r k c.args.c) c.args.j.0 (c.args.header ∷ c.args.words.now) c.requires.1 _ _ _ _ _ c.if-c-eq0.false (link-is (goal.at.returns c).After-link_fits ∙ c.if-not-link_fits.false) (took c.args.heap.now c.args.table.now c.args.c c.args.j.0 _ _ _ _ (free (goal.at.returns c).Else-c-eq0).some_first c.link_page-k.ensures refl refl refl) c.requires.0.rows c.requires.0.region))
