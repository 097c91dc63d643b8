-- `fields::records_pass` meets its contract: at each of the four levels what is left to test, with what the outer levels have left, is the whole test.
use mathlib.Core.Path.{◌≡◌, sym, ◌∙◌}
use mathlib.Core.List.{[]}
use Prim.Native.Nat.{◌+◌, ◌-◌, ◌^◌, ◌≤◌}
use native.Mathlib.Nat.{le_refl}
use native.Mathlib.Omega.{arith}
use lib.ListN.{length}
use Rattle.laws.proofs.Tests.{part_all, from_end, fields_end, fields_go, fields_stop}
use Rattle.laws.proofs.Turned.{told_true, told_false}
use Rattle.rules.specs.Words.{vals_in}
use Rattle.rules.proofs.Headers.{fit_of}
use Rattle.rules.proofs.Limits.{Inside, page_here}
use Rattle.rules.proofs.Stepping.{vals_none, vals_stop, values_over, raw_go, record_go}
use Rattle.rules.proofs.Chains.{Over, Next, next_page_lem, over_fuel, over_none, over_bad}
use Rattle.rules.proofs.Nests.{pages_over, regions_go}
use Rattle.fields.proofs.Turns.{page_records}
use Rattle.fields.proofs.records_pass.Given.{Over as Bound}
use Rattle.fields.proofs.records_pass.Goals as goal
use Rattle.fields.proofs.records_pass.Goals.{Left-values, else-values-test, then-values-test+then-not-fits, After-address_behind-end, After-address_behind-next, After-address_behind-first, After-link_address-base, Left-pages, else-pages-test, then-pages-test+else-link-eq0+then-pages-link, then-pages-test+then-link-eq0}

pub pages-init : goal.pages-init
pages-init g c =
    let q : c.page_count-pages.result - 0 ≡ c.page_count-pages.result = omega arith in
    rw q (sym (regions_go _ _ _ _ c.args.admitted.lent.table.now _ c.loop-j.j c.first_link-link.result c.page_count-pages.ensures (cc) (omega arith)) ∙ c.loop-j.invariant)

next : (g : Bound) (c : After-link_address-base g) → Next c.args.admitted.lent.control.n c.args.admitted.lent.heap.now (c.page_count-pages.result - c.pages.counter) c.pages.link c.link_address-base.result.0
next g c = next_page_lem _ _ _ c.page_count-pages.ensures _ _ _ c.link_address-base.ensures (omega arith) c.if-link-eq0.false c.if-pages-link.false

over : (g : Bound) (c : Left-pages g) → Over c.args.admitted.lent.control.n c.args.admitted.lent.heap.now (c.page_count-pages.result - c.pages.counter) c.pages.link
over g c =
    elim c.pages-test.branch [
      | else-pages-test w ↦ over_fuel (omega arith)
      | then-pages-test+then-link-eq0 w ↦ over_none (omega arith)
      | then-pages-test+else-link-eq0+then-pages-link w ↦ over_bad c.page_count-pages.ensures (omega arith)
    ]

-- the page lies inside
inside : (g : Bound) (c : After-address_behind-end g) → c.address_behind-end.result.0 ≤ length c.args.admitted.lent.heap.now
inside g c =
    let page : Inside (2 ^ c.args.admitted.lent.control.n) c.link_address-base.result.0 (length c.args.admitted.lent.heap.now) = page_here _ _ _ _ _ c.args.admitted.fits.paged c.page_count-pages.ensures c.link_address-base.ensures c.if-link-eq0.false c.if-pages-link.false in
    omega (arith, page, c.page_words-size.ensures)

-- so does the value
within : (g : Bound) (c : After-address_behind-next g) → c.address_behind-end.result.0 ≤ length c.args.admitted.lent.heap.now → c.address_behind-next.result.0 ≤ length c.args.admitted.lent.heap.now
within g c end = let f = (fit_of _ _ (told_true c.fits.ensures c.if-not-fits.false)).1 in omega (arith, end)

pub values-init : goal.values-init
values-init g c = sym (page_records (next g (goal.at.values-init g c).After-link_address-base) _ _ c.page_words-size.ensures _ _ _ c.address_behind-at.ensures c.address_behind-end.ensures) ∙ c.pages.invariant

pub values-preserved-then-not-is_record : goal.values-preserved-then-not-is_record
values-preserved-then-not-is_record g c = sym (raw_go _ _ _ _ _ c.values-test.true (inside g (goal.at.values-preserved-then-not-is_record g c).After-address_behind-end) (told_true c.fits.ensures c.if-not-fits.false) _ c.address_behind-next.ensures (told_false c.is_record.ensures c.if-not-is_record.true)) ∙ c.values.invariant

pub slice_bounds-w-items-end : goal.slice_bounds-w-items-end
slice_bounds-w-items-end g c = omega (arith, within g (goal.at.slice_bounds-w-items-end g c).After-address_behind-next (inside g (goal.at.slice_bounds-w-items-end g c).After-address_behind-end))

-- the code's first field is the word behind the header
first : (g : Bound) (c : After-address_behind-first g) → c.address_behind-first.result.0 ≡ c.values.at.0 + 1
first g c = omega arith

pub loop-w-init : goal.loop-w-init
loop-w-init g c =
    let record_ = record_go _ _ _ _ _ c.values-test.true (inside g (goal.at.loop-w-init g c).After-address_behind-end) (told_true c.fits.ensures c.if-not-fits.false) _ c.address_behind-next.ensures (told_true c.is_record.ensures c.if-not-is_record.false) _ (first g (goal.at.loop-w-init g c).After-address_behind-first) in
    sym (record_ ∙ part_all _ _ c.address_behind-first.result.0 c.address_behind-next.result.0 _ (omega arith)) ∙ c.values.invariant

pub loop-w-preserved : goal.loop-w-preserved
loop-w-preserved g c = sym (fields_go _ _ _ _ _ c.loop-w-test.true (le_refl _) (sym (c.requires.1.1.1 _ _ c.test.ensures) ∙ c.if-not-test.false)) ∙ c.loop-w.invariant

pub values-preserved : goal.values-preserved
values-preserved g c = sym (fields_end _ _ _ _ _ c.loop-w-test.false) ∙ c.loop-w.invariant

-- no value stands where the loop stopped
ended : (g : Bound) (c : Left-values g) → c.address_behind-end.result.0 ≤ length c.args.admitted.lent.heap.now → vals_in c.args.admitted.lent.heap.now c.values.at.0 c.address_behind-end.result.0 ≡ []
ended g c end =
    elim c.values-test.branch [
      | else-values-test w ↦ vals_none _ _ _ w.values-test.false
      | then-values-test+then-not-fits w ↦ vals_stop _ _ _ w.values-test.true end (told_false w.fits.ensures w.if-not-fits.true)
    ]

pub pages-preserved : goal.pages-preserved
pages-preserved g c =
    let q : c.page_count-pages.result - (c.pages.counter + 1) ≡ c.page_count-pages.result - c.pages.counter - 1 = omega arith in
    let none = ended g (goal.at.pages-preserved g c).Left-values (inside g (goal.at.pages-preserved g c).After-address_behind-end) in
    rw q (sym (values_over _ _ _ _ _ none) ∙ c.values.invariant)

pub loop-j-preserved : goal.loop-j-preserved
loop-j-preserved g c =
    let q : c.args.below - (c.loop-j.j + 1) ≡ c.args.below - c.loop-j.j - 1 = omega arith in
    rw q (sym (pages_over _ _ (over g (goal.at.loop-j-preserved g c).Left-pages)) ∙ c.pages.invariant)

pub returns-after-loop-j : goal.returns-after-loop-j
returns-after-loop-j g c = sym (from_end _ _ _ (omega arith)) ∙ c.loop-j.invariant

pub returns-then-not-test : goal.returns-then-not-test
returns-then-not-test g c = sym (fields_stop _ _ _ _ _ c.loop-w-test.true (le_refl _) (sym (c.requires.1.1.1 _ _ c.test.ensures) ∙ c.if-not-test.true)) ∙ c.loop-w.invariant
