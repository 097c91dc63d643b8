-- `ends::rule9` meets its contract: what is left to test from the present page on is the whole rule.
use mathlib.Core.Path.{◌≡◌, sym, ◌∙◌}
use Prim.Native.Nat.{◌+◌, ◌-◌}
use native.Mathlib.Omega.{arith}
use Rattle.laws.proofs.Turned.{told_true, told_false}
use Rattle.rules.proofs.Chains.{Next, next_page_lem, over_fuel, over_none, over_bad}
use Rattle.rules.proofs.Nests.{pages_over}
use Rattle.ends.proofs.Turns.{nine_open, nine_go, nine_stop}
use Rattle.ends.proofs.rule9.Goals as goal
use Rattle.ends.proofs.rule9.Goals.{After-link_address-base}

next : (c : After-link_address-base) → Next c.args.admitted.lent.control.n c.args.admitted.lent.heap.now (c.page_count-pages.result - c.pages.counter) c.pages.link c.link_address-base.result.0
next c = next_page_lem _ _ _ c.page_count-pages.ensures _ _ _ c.link_address-base.ensures (omega arith) (λ z. omega arith) (omega arith)

pub pages-preserved : goal.pages-preserved
pages-preserved c =
    let q : c.page_count-pages.result - (c.pages.counter + 1) ≡ c.page_count-pages.result - c.pages.counter - 1 = omega arith in
    rw q (sym (nine_go (next (goal.at.pages-preserved c).After-link_address-base) _ c.page_words-size.ensures _ c.address_behind.result.0 c.address_behind-in-pages.result.0 (omega arith) (omega arith) (told_true c.zero_between.ensures c.if-not-zero_between.false)) ∙ c.pages.invariant)

pub returns-after-pages : goal.returns-after-pages
returns-after-pages c = sym (pages_over _ _ (over_fuel (omega arith))) ∙ c.pages.invariant ∙ nine_open _ _ _ _ _ _ c.page_count-pages.ensures

pub returns-then-link-eq0 : goal.returns-then-link-eq0
returns-then-link-eq0 c = sym (pages_over _ _ (over_none (omega arith))) ∙ c.pages.invariant ∙ nine_open _ _ _ _ _ _ c.page_count-pages.ensures

pub returns-then-pages-link : goal.returns-then-pages-link
returns-then-pages-link c = sym (pages_over _ _ (over_bad c.page_count-pages.ensures (omega arith))) ∙ c.pages.invariant ∙ nine_open _ _ _ _ _ _ c.page_count-pages.ensures

pub returns-then-not-zero_between : goal.returns-then-not-zero_between
returns-then-not-zero_between c = sym (nine_stop (next (goal.at.returns-then-not-zero_between c).After-link_address-base) _ c.page_words-size.ensures _ c.address_behind.result.0 c.address_behind-in-pages.result.0 (omega arith) (omega arith) (told_false c.zero_between.ensures c.if-not-zero_between.true)) ∙ c.pages.invariant ∙ nine_open _ _ _ _ _ _ c.page_count-pages.ensures
