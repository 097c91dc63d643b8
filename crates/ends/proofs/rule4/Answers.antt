-- `ends::rule4` meets its contract: at each level what is left to test, with what the outer level has left, is the whole rule.
use mathlib.Core.Path.{◌≡◌, sym, ◌∙◌}
use Prim.Native.Nat.{◌+◌, ◌-◌}
use native.Mathlib.Omega.{arith}
use Rattle.laws.proofs.Tests.{from_end}
use Rattle.laws.proofs.Turned.{told_true, told_false}
use Rattle.rules.proofs.Chains.{Over, Next, next_page_lem, over_fuel, over_none, over_bad}
use Rattle.rules.proofs.Nests.{pages_over}
use Rattle.ends.proofs.Turns.{four_each, four_shut, four_open, four_on, four_at, four_off}
use Rattle.ends.proofs.rule4.Goals as goal
use Rattle.ends.proofs.rule4.Goals.{After-link_address-base, Left-pages, else-pages-test, then-pages-test+else-link-eq0+then-pages-link, then-pages-test+then-link-eq0}

pub pages-init : goal.pages-init
pages-init c =
    let q : c.page_count-pages.result - 0 ≡ c.page_count-pages.result = omega arith in
    cc (four_open _ _ c.args.admitted.lent.heap.now _ c.page_count-pages.ensures (c.args.admitted.lent.control.regions - c.loop-j.j) _ (omega arith) _ (told_true c.top_fits.ensures c.if-not-top_fits.false) c.first_link-link.ensures)

next : (c : After-link_address-base) → Next c.args.admitted.lent.control.n c.args.admitted.lent.heap.now (c.page_count-pages.result - c.pages.counter) c.pages.link c.link_address-base.result.0
next c = next_page_lem _ _ _ c.page_count-pages.ensures _ _ _ c.link_address-base.ensures (omega arith) (λ z. omega arith) (omega arith)

pub pages-preserved-then-link-gt0 : goal.pages-preserved-then-link-gt0
pages-preserved-then-link-gt0 c =
    let q : c.page_count-pages.result - (c.pages.counter + 1) ≡ c.page_count-pages.result - c.pages.counter - 1 = omega arith in
    rw q (sym (four_on (next (goal.at.pages-preserved-then-link-gt0 c).After-link_address-base) c.args.admitted.lent.table.now c.loop-j.j c.end_of-end.result.0 _ (cc) c.page_words-size.ensures _ (omega arith)) ∙ c.pages.invariant)

pub pages-preserved : goal.pages-preserved
pages-preserved c =
    let q : c.page_count-pages.result - (c.pages.counter + 1) ≡ c.page_count-pages.result - c.pages.counter - 1 = omega arith in
    rw q (sym (four_at (next (goal.at.pages-preserved c).After-link_address-base) c.args.admitted.lent.table.now c.loop-j.j c.end_of-end.result.0 _ (cc) c.page_words-size.ensures _ (omega arith) (omega arith)) ∙ c.pages.invariant)

over : (c : Left-pages) → Over c.args.admitted.lent.control.n c.args.admitted.lent.heap.now (c.page_count-pages.result - c.pages.counter) c.pages.link
over c =
    elim c.pages-test.branch [
      | else-pages-test w ↦ over_fuel (omega arith)
      | then-pages-test+then-link-eq0 w ↦ over_none (omega arith)
      | then-pages-test+else-link-eq0+then-pages-link w ↦ over_bad c.page_count-pages.ensures (omega arith)
    ]

pub loop-j-preserved : goal.loop-j-preserved
loop-j-preserved c =
    let q : c.args.admitted.lent.control.regions - (c.loop-j.j + 1) ≡ c.args.admitted.lent.control.regions - c.loop-j.j - 1 = omega arith in
    rw q (sym (pages_over _ _ (over (goal.at.loop-j-preserved c).Left-pages)) ∙ c.pages.invariant)

pub returns-after-loop-j : goal.returns-after-loop-j
returns-after-loop-j c = sym (from_end _ _ _ (omega arith)) ∙ c.loop-j.invariant ∙ four_each _ _ _ _ _

pub returns-then-not-top_fits : goal.returns-then-not-top_fits
returns-then-not-top_fits c =
    let o = four_shut _ _ c.args.admitted.lent.heap.now _ c.page_count-pages.ensures (c.args.admitted.lent.control.regions - c.loop-j.j) _ (omega arith) (told_false c.top_fits.ensures c.if-not-top_fits.true) in
    cc (four_each c.args.admitted.lent.heap.now c.args.admitted.lent.table.now c.args.admitted.lent.roots.now c.args.admitted.lent.consts.now c.args.admitted.lent.control)

pub returns-then-end-address_behind : goal.returns-then-end-address_behind
returns-then-end-address_behind c =
    sym (four_off (next (goal.at.returns-then-end-address_behind c).After-link_address-base) c.args.admitted.lent.table.now c.loop-j.j c.end_of-end.result.0 _ (cc) c.page_words-size.ensures _ (omega arith) (λ z. omega arith))
    ∙ c.pages.invariant ∙ four_each _ _ _ _ _
