-- `chains::regions_chained` meets its contract. At each level what is left to test, with what the outer level has left, is the whole test, and
-- the pages passed with those that are left are all pages.
use mathlib.Core.Path.{◌≡◌, sym, ◌∙◌}
use Prim.Native.Nat.{suc, ◌+◌, ◌-◌, ◌^◌}
use native.Mathlib.Omega.{arith}
use lib.ListN.{length}
use Rattle.laws.proofs.Tests.{from_end}
use Rattle.laws.proofs.Tallies.{sum_done, sum_skip, sum_step, sum_open}
use Rattle.laws.proofs.Turned.{told_true, told_false}
use Rattle.rules.proofs.Limits.{Inside, page_here}
use Rattle.rules.proofs.Chains.{Over, Next, next_page_lem, over_fuel, over_none, over_bad}
use Rattle.chains.proofs.Turns.{chained_open, chained_shut, chained_page, chained_other, chained_ends, chained_hangs, length_open, length_page, length_over, length_none, pages_short, all_chained, not_chained}
use Rattle.chains.proofs.regions_chained.Goals as goal
use Rattle.chains.proofs.regions_chained.Goals.{else-pages-test, then-pages-test+then-link-eq0, then-pages-test+else-link-eq0+then-pages-link, After-link_address-base, Left-pages}

pub pages-init : goal.pages-init
pages-init c =
    let q : c.page_count-pages.result - 0 ≡ c.page_count-pages.result = omega arith in
    let open_ = chained_open _ _ c.args.heap.now _ c.page_count-pages.ensures (c.args.regions - c.loop-j.j) _ (omega arith) _ (told_true c.opens.ensures c.if-not-opens.false) c.first_link-link.ensures in
    (cc, rw q (sum_open _ _ _ _ _ c.loop-j.invariant.1 (length_open _ _ _ c.args.table.now c.page_count-pages.ensures _ c.loop-j.j (omega arith) c.first_link-link.result (cc))))

next : (c : After-link_address-base) → Next c.args.n c.args.heap.now (c.page_count-pages.result - c.pages.counter) c.pages.link c.link_address-base.result.0
next c = next_page_lem _ _ _ c.page_count-pages.ensures _ _ _ c.link_address-base.ensures (omega arith) (λ z. omega arith) (omega arith)

over : (c : Left-pages) → Over c.args.n c.args.heap.now (c.page_count-pages.result - c.pages.counter) c.pages.link
over c =
    elim c.pages-test.branch [
      | else-pages-test w ↦ over_fuel (omega arith)
      | then-pages-test+then-link-eq0 w ↦ over_none (omega arith)
      | then-pages-test+else-link-eq0+then-pages-link w ↦ over_bad c.page_count-pages.ensures (omega arith)
    ]

here : (c : After-link_address-base) → Inside (2 ^ c.args.n) c.link_address-base.result.0 (length c.args.heap.now)
here c = page_here _ _ _ _ _ c.requires.0 c.page_count-pages.ensures c.link_address-base.ensures (λ z. omega arith) (omega arith)

pub bounds-heap-i : goal.bounds-heap-i
bounds-heap-i c = omega (arith, here (goal.at.bounds-heap-i c).After-link_address-base)

pub overflow_add-passed : goal.overflow_add-passed
overflow_add-passed c = omega (arith, pages_short c.args.n c.args.heap.now c.args.table.now c.args.regions 0 c.requires.0)

pub pages-preserved : goal.pages-preserved
pages-preserved c =
    let x = next (goal.at.pages-preserved c).After-link_address-base in
    let q : c.page_count-pages.result - (c.pages.counter + 1) ≡ c.page_count-pages.result - c.pages.counter - 1 = omega arith in
    rw q (sym (chained_page (suc c.loop-j.j) _ x (omega arith)) ∙ c.pages.invariant.0, sum_step _ _ _ _ _ _ c.pages.invariant.1 (length_page x))

pub loop-j-preserved : goal.loop-j-preserved
loop-j-preserved c =
    let o = over (goal.at.loop-j-preserved c).Left-pages in
    let q : c.args.regions - (c.loop-j.j + 1) ≡ c.args.regions - c.loop-j.j - 1 = omega arith in
    rw q (sym (chained_ends _ _ o (omega arith)) ∙ c.pages.invariant.0, sum_skip _ _ _ _ c.pages.invariant.1 (length_over o))

pub returns-then-not-opens : goal.returns-then-not-opens
returns-then-not-opens c =
    let shut = chained_shut _ _ c.args.heap.now _ c.page_count-pages.ensures (c.args.regions - c.loop-j.j) _ (omega arith) (told_false c.opens.ensures c.if-not-opens.true) in
    not_chained _ _ _ _ (cc)

pub returns-then-heap-i : goal.returns-then-heap-i
returns-then-heap-i c = not_chained _ _ _ _ (sym (chained_other (suc c.loop-j.j) _ (next (goal.at.returns-then-heap-i c).After-link_address-base) (λ z. omega arith)) ∙ c.pages.invariant.0)

pub returns-then-link-ne0 : goal.returns-then-link-ne0
returns-then-link-ne0 c = not_chained _ _ _ _ (sym (chained_hangs _ _ (over (goal.at.returns-then-link-ne0 c).Left-pages) (λ z. omega arith)) ∙ c.pages.invariant.0)

pub returns-after-loop-j : goal.returns-after-loop-j
returns-after-loop-j c = all_chained _ _ _ _ _ (sym (from_end _ _ _ (omega arith)) ∙ c.loop-j.invariant.0) (sum_done _ _ _ c.loop-j.invariant.1 (length_none _ _ _ _ _ (omega arith)))
