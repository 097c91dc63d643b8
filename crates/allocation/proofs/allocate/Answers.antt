-- `allocation::allocate` meets its contract: after the tests in their order all that placing the value asks for is known.
use Rattle.std.specs.Prelude.{Err}
use Rattle.std.proofs.lemmas.Result.{err_from_is_err_and}
use Prim.Native.Nat.{◌+◌, ◌^◌, ◌<◌, ◌≤◌}
use native.Mathlib.Omega.{arith}
use borrow.Author.Tests.{le-leb, lt-leb, lt-ltb, le-ltb}
use lib.ListN.{length}
use Rattle.laws.proofs.Turned.{told_true}
use Rattle.rules.specs.Refusals.{Paged, Admitted, outcome}
use Rattle.rules.specs.Calls.{allocate}
use Rattle.rules.proofs.Limits.{paged_size}
use Rattle.limits.proofs.First.{tests_refuse, tests_pass, tests_admit}
use Rattle.allocation.proofs.Placing.{fitted}
use Rattle.allocation.proofs.allocate.Goals as goal
use Rattle.allocation.proofs.allocate.Goals.{Else-c-j, Else-page_words-words, In_ok-first_tests}

pub returns-in_err-first_tests : goal.returns-in_err-first_tests
unfolding allocate
returns-in_err-first_tests c =
    let a = c.args in
    let p = err_from_is_err_and c.from_residual.result c.from_residual.ensures.1 in
    rw (p.1, p.2) (tests_refuse _ _ _ _ _ c.first_tests.ensures (λ e. outcome (Err e) a.heap.now a.table.now a.roots.now a.consts.now) _ c.in_err-first_tests.was)

pub returns-then-c-j : goal.returns-then-c-j
unfolding allocate
returns-then-c-j c = let f = tests_pass _ _ _ _ _ c.first_tests.ensures c.in_ok-first_tests.was in rw (f.0, f.1, le-leb c.args.c.regions c.args.j.0 (omega (arith, c.if-c-j.true)))

known : (c : In_ok-first_tests) → Admitted (length c.args.heap.now) (length c.args.table.now) (length c.args.roots.now) (length c.args.consts.now) c.args.c
known c = tests_admit _ _ _ _ _ c.first_tests.ensures c.in_ok-first_tests.was

below : (c : Else-c-j) → c.args.j.0 < c.args.c.regions
below c = omega (arith, c.if-c-j.false)

region : (c : In_ok-first_tests) → c.args.j.0 < c.args.c.regions → c.args.j.0 < 64
region c below = omega (arith, (known c).regions)

pub row_fits-requires : goal.row_fits-requires
row_fits-requires c = let a = known (goal.at.row_fits-requires c).In_ok-first_tests in (a.table, region (goal.at.row_fits-requires c).In_ok-first_tests (below (goal.at.row_fits-requires c).Else-c-j), a.paged.low, a.paged.high)

pub returns-then-not-row_fits : goal.returns-then-not-row_fits
unfolding allocate
returns-then-not-row_fits c = let f = tests_pass _ _ _ _ _ c.first_tests.ensures c.in_ok-first_tests.was in rw (f.0, f.1, lt-leb _ _ (below (goal.at.returns-then-not-row_fits c).Else-c-j), ← c.row_fits.ensures, c.if-not-row_fits.true)

pub page_words-requires : goal.page_words-requires
page_words-requires c = let a = known (goal.at.page_words-requires c).In_ok-first_tests in (a.paged.low, a.paged.high)

pub overflow_sub-page_words : goal.overflow_sub-page_words
overflow_sub-page_words c = let a = known (goal.at.overflow_sub-page_words c).In_ok-first_tests in let s = paged_size _ _ a.paged in omega (arith, c.page_words.ensures)

pub returns-then-page_words-words : goal.returns-then-page_words-words
unfolding allocate
returns-then-page_words-words c =
    let f = tests_pass _ _ _ _ _ c.first_tests.ensures c.in_ok-first_tests.was in
    rw (f.0, f.1, lt-leb _ _ (below (goal.at.returns-then-page_words-words c).Else-c-j), ← c.row_fits.ensures, c.if-not-row_fits.false, lt-ltb (2 ^ c.args.c.n) (length c.args.words.now + 3) (omega (arith, c.page_words.ensures, c.if-page_words-words.true)))

short : (c : Else-page_words-words) → Paged c.args.c.n (length c.args.heap.now) → length c.args.words.now + 3 ≤ 2 ^ c.args.c.n
short c paged = let s = paged_size _ _ paged in omega (arith, c.page_words.ensures, c.if-page_words-words.false)

pub words_fit-requires : goal.words_fit-requires
words_fit-requires c = let a = known (goal.at.words_fit-requires c).In_ok-first_tests in (a.paged, a.consts)

pub returns-then-not-words_fit : goal.returns-then-not-words_fit
unfolding allocate
returns-then-not-words_fit c =
    let f = tests_pass _ _ _ _ _ c.first_tests.ensures c.in_ok-first_tests.was in
    rw (f.0, f.1, lt-leb _ _ (below (goal.at.returns-then-not-words_fit c).Else-c-j), ← c.row_fits.ensures, c.if-not-row_fits.false, le-ltb (2 ^ c.args.c.n) (length c.args.words.now + 3) (short (goal.at.returns-then-not-words_fit c).Else-page_words-words (known (goal.at.returns-then-not-words_fit c).In_ok-first_tests).paged), ← (c.words_fit.ensures _ _), c.if-not-words_fit.true)

pub header_for-requires : goal.header_for-requires
header_for-requires c = let a = known (goal.at.header_for-requires c).In_ok-first_tests in let s = paged_size _ _ a.paged in omega (arith, short (goal.at.header_for-requires c).Else-page_words-words (known (goal.at.header_for-requires c).In_ok-first_tests).paged)

pub put_value-requires : goal.put_value-requires
put_value-requires c = fitted _ _ _ _ _ _ _ (known (goal.at.put_value-requires c).In_ok-first_tests) (region (goal.at.put_value-requires c).In_ok-first_tests (below (goal.at.put_value-requires c).Else-c-j)) (told_true c.row_fits.ensures c.if-not-row_fits.false) (short (goal.at.put_value-requires c).Else-page_words-words (known (goal.at.put_value-requires c).In_ok-first_tests).paged)

pub returns : goal.returns
unfolding allocate
returns c =
    let f = tests_pass _ _ _ _ _ c.first_tests.ensures c.in_ok-first_tests.was in
    rw (f.0, f.1, lt-leb _ _ (below (goal.at.returns c).Else-c-j), ← c.row_fits.ensures, c.if-not-row_fits.false, le-ltb (2 ^ c.args.c.n) (length c.args.words.now + 3) (short (goal.at.returns c).Else-page_words-words (known (goal.at.returns c).In_ok-first_tests).paged), ← (c.words_fit.ensures _ _), c.if-not-words_fit.false, ← c.header_for.ensures) (c.put_value.ensures _ _)
