-- `used::region_used` meets its contract. The invariant: the words counted and those of the pages that are left are the region's, and at most 256
-- were counted for each page passed, so that a sum never wraps.
use mathlib.Core.Path.{◌≡◌, refl, ap, ◌∙◌}
use Prim.Native.Nat.{◌+◌, ◌-◌, ◌*◌, ◌^◌}
use native.Mathlib.Omega.{arith}
use lib.ListN.{length}
use Rattle.rules.specs.Memory.{region_pages}
use Rattle.rules.specs.Audit.{used_by}
use Rattle.rules.proofs.Limits.{Inside, page_inside}
use Rattle.rules.proofs.Chains.{next_page_lem, over_fuel, over_none, over_bad}
use Rattle.used.proofs.Turns.{page_used, pages_used}
use Rattle.used.proofs.region_used.Goals as goal
use Rattle.used.proofs.region_used.Goals.{After-link_page-page}

here : (c : After-link_page-page) → Inside (2 ^ c.args.n) (c.link_page-page.result.0 * 2 ^ c.args.n) (length c.args.heap.now)
here c = page_inside _ _ _ _ refl c.requires.0 (omega (arith, c.page_count-pages.ensures))

pub values_used-words-requires : goal.values_used-words-requires
values_used-words-requires c = omega (arith, here (goal.at.values_used-words-requires c).After-link_page-page)

pub pages-preserved : goal.pages-preserved
pages-preserved c =
    let q : c.page_count-pages.result - (c.pages.counter + 1) ≡ c.page_count-pages.result - c.pages.counter - 1 = omega arith in
    let next = next_page_lem _ _ _ c.page_count-pages.ensures (c.page_count-pages.result - c.pages.counter) _ _ (c.page_address-base.ensures ∙ ap (λ y. y * 2 ^ c.args.n) c.link_page-page.ensures) (omega arith) c.if-link-eq0.false c.if-pages-link.false in
    rw q (page_used _ _ c.pages.invariant.0 next _ _ c.link_page-page.ensures (rw (← c.body_address.ensures, ← c.page_end.ensures) c.values_used-words.ensures.0), omega (arith, here (goal.at.pages-preserved c).After-link_page-page))

pub returns-after-pages : goal.returns-after-pages
unfolding used_by region_pages
returns-after-pages c = pages_used _ _ c.pages.invariant.0 (over_fuel (omega arith)) ∙ rw (c.page_count-pages.ensures, c.first_link-link.ensures)

pub returns-then-link-eq0 : goal.returns-then-link-eq0
unfolding used_by region_pages
returns-then-link-eq0 c = pages_used _ _ c.pages.invariant.0 (over_none c.if-link-eq0.true) ∙ rw (c.page_count-pages.ensures, c.first_link-link.ensures)

pub returns-then-pages-link : goal.returns-then-pages-link
unfolding used_by region_pages
returns-then-pages-link c = pages_used _ _ c.pages.invariant.0 (over_bad c.page_count-pages.ensures c.if-pages-link.true) ∙ rw (c.page_count-pages.ensures, c.first_link-link.ensures)
