-- `regions::push` meets its contract: after the tests a page is there to be taken, it lies inside the heap, and what is taken and written is what
-- `push_on` says of it.
use Rattle.std.specs.Prelude.{Err}
use Rattle.std.proofs.lemmas.Result.{err_from_is_err_and}
use Prim.Native.Nat.{◌≤◌, ◌<◌}
use native.Mathlib.Omega.{arith}
use native.Mathlib.Numerals.{add-one}
use borrow.Author.Tests.{le-leb, lt-leb, eq-eqb, ne_eqb}
use lib.ListN.{length}
use Rattle.rules.specs.Refusals.{outcome}
use Rattle.rules.specs.Calls.{push, push_on}
use Rattle.rules.proofs.Limits.{page_number}
use Rattle.pages.specs.Taking.{PageFree}
use Rattle.limits.proofs.First.{tests_refuse, tests_pass, tests_admit}
use Rattle.pages.proofs.Taking.{free_page, free_inside, page_free}
use Rattle.laws.proofs.Turned.{turned}
use Rattle.regions.proofs.push.Goals as goal
use Rattle.regions.proofs.push.Goals.{Else-c-eq0, Else-c-ge64}

pub returns-in_err-first_tests : goal.returns-in_err-first_tests
unfolding push
returns-in_err-first_tests c =
    let a = c.args in
    let p = err_from_is_err_and c.from_residual.result c.from_residual.ensures.1 in
    rw (p.1, p.2) (tests_refuse _ _ _ _ _ c.first_tests.ensures (λ e. outcome (Err e) a.heap.now a.table.now a.roots.now a.consts.now) _ c.in_err-first_tests.was)

pub returns-then-c-ge64 : goal.returns-then-c-ge64
unfolding push
returns-then-c-ge64 c =
    let f = tests_pass _ _ _ _ _ c.first_tests.ensures c.in_ok-first_tests.was in
    let full : 64 ≤ c.args.c.regions = search turned in
    rw (f.0, f.1, le-leb _ _ full)

room : (c : Else-c-ge64) → c.args.c.regions < 64
room c = search turned

pub returns-then-c-eq0 : goal.returns-then-c-eq0
unfolding push
returns-then-c-eq0 c = let f = tests_pass _ _ _ _ _ c.first_tests.ensures c.in_ok-first_tests.was in rw (f.0, f.1, lt-leb _ _ (room (goal.at.returns-then-c-eq0 c).Else-c-ge64), eq-eqb _ _ c.if-c-eq0.true)

free : (c : Else-c-eq0) → PageFree (length c.args.heap.now) c.args.c
free c = page_free _ _ _ _ _ (tests_admit _ _ _ _ _ c.first_tests.ensures c.in_ok-first_tests.was) c.if-c-eq0.false

pub link_page-k-requires : goal.link_page-k-requires
link_page-k-requires c = (free (goal.at.link_page-k-requires c).Else-c-eq0).some_first

pub link_fits-requires : goal.link_fits-requires
link_fits-requires c = ((free (goal.at.link_fits-requires c).Else-c-eq0).paged, free_page _ _ _ (free (goal.at.link_fits-requires c).Else-c-eq0) c.link_page-k.ensures)

pub returns-then-not-link_fits : goal.returns-then-not-link_fits
unfolding push
returns-then-not-link_fits c = let f = tests_pass _ _ _ _ _ c.first_tests.ensures c.in_ok-first_tests.was in rw (f.0, f.1, lt-leb _ _ (room (goal.at.returns-then-not-link_fits c).Else-c-ge64), ne_eqb _ _ c.if-c-eq0.false, ← c.link_page-k.ensures, ← c.link_fits.ensures, c.if-not-link_fits.true)

pub take_page-taken-requires : goal.take_page-taken-requires
take_page-taken-requires c = (free (goal.at.take_page-taken-requires c).Else-c-eq0, c.link_page-k.ensures, omega (arith, room (goal.at.take_page-taken-requires c).Else-c-ge64, c.region_numbered-j.ensures))

pub page_end-requires : goal.page_end-requires
page_end-requires c = let i = page_number _ _ _ (free (goal.at.page_end-requires c).Else-c-eq0).paged (free_page _ _ _ (free (goal.at.page_end-requires c).Else-c-eq0) c.link_page-k.ensures) in (i.0, (free (goal.at.page_end-requires c).Else-c-eq0).paged.low, i.1)

pub page_address-requires : goal.page_address-requires
page_address-requires c = page_number _ _ _ (free (goal.at.page_address-requires c).Else-c-eq0).paged (free_page _ _ _ (free (goal.at.page_address-requires c).Else-c-eq0) c.link_page-k.ensures)

pub body_address-requires : goal.body_address-requires
body_address-requires c = page_number _ _ _ (free (goal.at.body_address-requires c).Else-c-eq0).paged (free_page _ _ _ (free (goal.at.body_address-requires c).Else-c-eq0) c.link_page-k.ensures)

pub set_row-requires : goal.set_row-requires
set_row-requires c =
    let a = tests_admit _ _ _ _ _ c.first_tests.ensures c.in_ok-first_tests.was in
    let i = free_inside _ _ _ (free (goal.at.set_row-requires c).Else-c-eq0) c.link_page-k.ensures in
    omega (arith, room (goal.at.set_row-requires c).Else-c-ge64, c.region_numbered-j.ensures, c.page_end.ensures, c.page_address.ensures, c.body_address.ensures)

pub overflow_add-regions : goal.overflow_add-regions
overflow_add-regions c = omega (arith, room (goal.at.overflow_add-regions c).Else-c-ge64)

pub returns : goal.returns
unfolding push push_on
returns c =
    let f = tests_pass _ _ _ _ _ c.first_tests.ensures c.in_ok-first_tests.was in
    rw (f.0, f.1, lt-leb _ _ (room (goal.at.returns c).Else-c-ge64), ne_eqb _ _ c.if-c-eq0.false, ← c.link_page-k.ensures, ← c.link_fits.ensures, c.if-not-link_fits.false, ← c.region_numbered-j.ensures, ← (c.take_page-taken.ensures.run _), c.take_page-taken.ensures.same.0, c.set_row.ensures, c.page_end.ensures, c.page_address.ensures, c.body_address.ensures, add-one c.region_numbered-j.result.0)
