-- `chains::free_listed` meets its contract: what is left to test is the whole test, the pages passed with those that are left are all of them, and
-- the last link of those that are left is the last link.
use mathlib.Core.Path.{◌≡◌, refl, sym, ◌∙◌}
use Prim.Native.Nat.{◌+◌, ◌-◌, ◌^◌}
use native.Mathlib.Omega.{arith}
use lib.ListN.{length}
use Rattle.laws.proofs.Tallies.{sum_done, sum_skip, sum_step}
use Rattle.rules.proofs.Limits.{Inside, page_here}
use Rattle.rules.proofs.Chains.{Over, Next, next_page_lem, over_fuel, over_none, over_bad}
use Rattle.chains.proofs.Turns.{chained_page, chained_other, chained_ends, chained_hangs, length_page, length_over, last_page_lem, last_over, list_open, list_length, list_last, free_short, all_listed, not_listed}
use Rattle.chains.proofs.free_listed.Goals as goal
use Rattle.chains.proofs.free_listed.Goals.{else-pages-test, then-pages-test+then-link-eq0, then-pages-test+else-link-eq0+then-pages-link, After-link_address-base, Left-pages}

pub pages-init : goal.pages-init
pages-init c =
    let q : c.page_count-pages.result - 0 ≡ c.page_count-pages.result = omega arith in
    rw q (list_open _ _ _ c.page_count-pages.ensures _, list_length _ _ _ c.page_count-pages.ensures _, list_last _ _ _ c.page_count-pages.ensures _)

next : (c : After-link_address-base) → Next c.args.n c.args.heap.now (c.page_count-pages.result - c.pages.counter) c.pages.link c.link_address-base.result.0
next c = next_page_lem _ _ _ c.page_count-pages.ensures _ _ _ c.link_address-base.ensures (omega arith) (λ z. omega arith) (omega arith)

over : (c : Left-pages) → Over c.args.n c.args.heap.now (c.page_count-pages.result - c.pages.counter) c.pages.link
over c =
    elim c.pages-test.branch [
      | else-pages-test w ↦ over_fuel (omega arith)
      | then-pages-test+then-link-eq0 w ↦ over_none (omega arith)
      | then-pages-test+else-link-eq0+then-pages-link w ↦ over_bad c.page_count-pages.ensures (omega arith)
    ]

here : (c : After-link_address-base) → Inside (2 ^ c.args.n) c.link_address-base.result.0 (length c.args.heap.now)
here c = page_here _ _ _ _ _ c.requires c.page_count-pages.ensures c.link_address-base.ensures (λ z. omega arith) (omega arith)

pub bounds-heap-i : goal.bounds-heap-i
bounds-heap-i c = omega (arith, here (goal.at.bounds-heap-i c).After-link_address-base)

pub returns-then-heap-i-ne0 : goal.returns-then-heap-i-ne0
returns-then-heap-i-ne0 c = not_listed _ _ _ (sym (chained_other _ _ (next (goal.at.returns-then-heap-i-ne0 c).After-link_address-base) (λ z. omega arith)) ∙ c.pages.invariant.0)

pub overflow_add-passed : goal.overflow_add-passed
overflow_add-passed c = omega (arith, free_short c.args.n c.args.heap.now c.args.first c.requires)

pub pages-preserved : goal.pages-preserved
pages-preserved c =
    let x = next (goal.at.pages-preserved c).After-link_address-base in
    let q : c.page_count-pages.result - (c.pages.counter + 1) ≡ c.page_count-pages.result - c.pages.counter - 1 = omega arith in
    rw q (sym (chained_page _ _ x (omega arith)) ∙ c.pages.invariant.0, sum_step _ _ _ _ _ _ c.pages.invariant.1 (length_page x), sym (last_page_lem _ x (omega arith)) ∙ c.pages.invariant.2)

pub returns-then-link-ne0 : goal.returns-then-link-ne0
returns-then-link-ne0 c = not_listed _ _ _ (sym (chained_hangs _ _ (over (goal.at.returns-then-link-ne0 c).Left-pages) (λ z. omega arith)) ∙ c.pages.invariant.0)

pub returns : goal.returns
returns c =
    let o = over (goal.at.returns c).Left-pages in
    all_listed _ _ _ _ _ (sym (chained_ends _ _ o (omega arith)) ∙ c.pages.invariant.0) (sum_done _ _ _ (sum_skip _ _ _ _ c.pages.invariant.1 (length_over o)) refl) (sym (last_over _ o) ∙ c.pages.invariant.2)
