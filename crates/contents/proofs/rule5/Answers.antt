-- `contents::rule5` meets its contract: at each level what is left to test, with what the outer levels have left, is the whole rule.
use mathlib.Core.Path.{◌≡◌, sym, ap, ◌∙◌}
use mathlib.Core.Bool.{◌&&◌}
use mathlib.Core.List.{[]}
use Prim.Native.Nat.{◌+◌, ◌-◌, ◌^◌, ◌≤◌}
use native.Mathlib.Omega.{arith}
use lib.ListN.{length, get_or}
use Rattle.laws.specs.Lists.{all, all_from}
use Rattle.laws.proofs.Tests.{from_end}
use Rattle.laws.proofs.Turned.{told_true, told_false}
use Rattle.rules.specs.Memory.{chain, region_pages}
use Rattle.rules.specs.Words.{fits, vals_in}
use Rattle.rules.specs.Audit.{page_filled, rule5}
use Rattle.rules.proofs.Limits.{Inside, page_here}
use Rattle.rules.proofs.Chains.{Over, Next, next_page_lem, over_fuel, over_none, over_bad}
use Rattle.rules.proofs.Nests.{pages_over, regions_go}
use Rattle.rules.proofs.Stepping.{vals_none, vals_stop}
use Rattle.contents.proofs.Turns.{Passed, five_page, rest_over, rest_go, zeros_off, page_on, page_at, page_off}
use Rattle.contents.proofs.rule5.Goals as goal
use Rattle.contents.proofs.rule5.Goals.{else-values-test, then-values-test+then-not-fits, After-address_behind-end, After-link_address-base, Left-pages, Left-values, else-pages-test, then-pages-test+else-link-eq0+then-pages-link, then-pages-test+then-link-eq0}

pub pages-init : goal.pages-init
pages-init c =
    let q : c.page_count-pages.result - 0 ≡ c.page_count-pages.result = omega arith in
    rw q (sym (regions_go _ _ _ _ c.args.admitted.lent.table.now _ c.loop-j.j c.first_link-link.result c.page_count-pages.ensures (cc) (omega arith)) ∙ c.loop-j.invariant)

next : (c : After-link_address-base) → Next c.args.admitted.lent.control.n c.args.admitted.lent.heap.now (c.page_count-pages.result - c.pages.counter) c.pages.link c.link_address-base.result.0
next c = next_page_lem _ _ _ c.page_count-pages.ensures _ _ _ c.link_address-base.ensures (omega arith) (λ z. omega arith) (omega arith)

over : (c : Left-pages) → Over c.args.admitted.lent.control.n c.args.admitted.lent.heap.now (c.page_count-pages.result - c.pages.counter) c.pages.link
over c =
    elim c.pages-test.branch [
      | else-pages-test w ↦ over_fuel (omega arith)
      | then-pages-test+then-link-eq0 w ↦ over_none (omega arith)
      | then-pages-test+else-link-eq0+then-pages-link w ↦ over_bad c.page_count-pages.ensures (omega arith)
    ]

-- the page lies inside
inside : (c : After-address_behind-end) → c.address_behind-end.result.0 ≤ length c.args.admitted.lent.heap.now
inside c =
    let page : Inside (2 ^ c.args.admitted.lent.control.n) c.link_address-base.result.0 (length c.args.admitted.lent.heap.now) = page_here _ _ _ _ _ c.args.admitted.fits.paged c.page_count-pages.ensures c.link_address-base.ensures (λ z. omega arith) (omega arith) in
    omega (arith, page, c.page_words-size.ensures)

pub values-init : goal.values-init
values-init c = sym (five_page (next (goal.at.values-init c).After-link_address-base) c.args.admitted.lent.table.now c.loop-j.j c.top_of-top.result.0 _ (cc) c.page_words-size.ensures _ _ _ c.address_behind-at.ensures c.address_behind-end.ensures) ∙ c.pages.invariant

pub values-preserved : goal.values-preserved
values-preserved c = sym (rest_go _ _ _ _ _ _ (omega arith) (inside (goal.at.values-preserved c).After-address_behind-end) _ (told_true c.fits.ensures c.if-not-fits.false) (omega arith) _ c.address_behind-at-in-values.ensures) ∙ c.values.invariant

-- no value stands where the loop stopped
ended : (c : Left-values) → c.address_behind-end.result.0 ≤ length c.args.admitted.lent.heap.now → vals_in c.args.admitted.lent.heap.now c.values.at.0 c.address_behind-end.result.0 ≡ []
ended c end =
    elim c.values-test.branch [
      | else-values-test w ↦ vals_none _ _ _ w.values-test.false
      | then-values-test+then-not-fits w ↦ vals_stop _ _ _ w.values-test.true end (ap (fits _) (omega arith) ∙ told_false w.fits.ensures w.if-not-fits.true)
    ]

passed : (c : Left-values)
    → Passed c.args.admitted.lent.heap.now c.values.at.0 c.address_behind-end.result.0 (get_or c.args.admitted.lent.heap.now c.link_address-base.result.0 0) c.top_of-top.result.0 (all (page_filled c.args.admitted.lent.control.n c.args.admitted.lent.heap.now c.args.admitted.lent.table.now c.loop-j.j) (chain (c.page_count-pages.result - c.pages.counter - 1) c.args.admitted.lent.control.n c.args.admitted.lent.heap.now (get_or c.args.admitted.lent.heap.now c.link_address-base.result.0 0)) && all_from (λ i. all (page_filled c.args.admitted.lent.control.n c.args.admitted.lent.heap.now c.args.admitted.lent.table.now i) (region_pages c.args.admitted.lent.control.n c.args.admitted.lent.heap.now c.args.admitted.lent.table.now i)) (c.args.admitted.lent.control.regions - c.loop-j.j - 1) (c.loop-j.j + 1)) (all_from (λ i. all (page_filled c.args.admitted.lent.control.n c.args.admitted.lent.heap.now c.args.admitted.lent.table.now i) (region_pages c.args.admitted.lent.control.n c.args.admitted.lent.heap.now c.args.admitted.lent.table.now i)) c.args.admitted.lent.control.regions 0)
passed c =
    let page : Inside (2 ^ c.args.admitted.lent.control.n) c.link_address-base.result.0 (length c.args.admitted.lent.heap.now) = page_here _ _ _ _ _ c.args.admitted.fits.paged c.page_count-pages.ensures c.link_address-base.ensures (λ z. omega arith) (omega arith) in
    record { left = sym (rest_over _ _ _ _ _ _ (ended c (omega (arith, page, c.page_words-size.ensures)))) ∙ c.values.invariant }

pub pages-preserved-then-link-gt0 : goal.pages-preserved-then-link-gt0
pages-preserved-then-link-gt0 c =
    let q : c.page_count-pages.result - (c.pages.counter + 1) ≡ c.page_count-pages.result - c.pages.counter - 1 = omega arith in
    rw q (page_on (passed (goal.at.pages-preserved-then-link-gt0 c).Left-values) (told_true c.zero_between.ensures c.if-not-zero_between.false) (omega arith))

pub pages-preserved : goal.pages-preserved
pages-preserved c =
    let q : c.page_count-pages.result - (c.pages.counter + 1) ≡ c.page_count-pages.result - c.pages.counter - 1 = omega arith in
    rw q (page_at (passed (goal.at.pages-preserved c).Left-values) (told_true c.zero_between.ensures c.if-not-zero_between.false) (omega arith) (omega arith))

pub loop-j-preserved : goal.loop-j-preserved
loop-j-preserved c =
    let q : c.args.admitted.lent.control.regions - (c.loop-j.j + 1) ≡ c.args.admitted.lent.control.regions - c.loop-j.j - 1 = omega arith in
    rw q (sym (pages_over _ _ (over (goal.at.loop-j-preserved c).Left-pages)) ∙ c.pages.invariant)

pub returns-after-loop-j : goal.returns-after-loop-j
unfolding rule5
returns-after-loop-j c = sym (from_end _ _ _ (omega arith)) ∙ c.loop-j.invariant

pub returns-then-not-zero_between : goal.returns-then-not-zero_between
unfolding rule5
returns-then-not-zero_between c = zeros_off (passed (goal.at.returns-then-not-zero_between c).Left-values) (told_false c.zero_between.ensures c.if-not-zero_between.true)

pub returns-then-at-top : goal.returns-then-at-top
unfolding rule5
returns-then-at-top c = page_off (passed (goal.at.returns-then-at-top c).Left-values) (told_true c.zero_between.ensures c.if-not-zero_between.false) (omega arith) (λ z. omega arith)
