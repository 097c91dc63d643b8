-- `access::set_root` meets its contract: the tests in their order, and one word written inside the roots.
use Rattle.std.specs.Prelude.{Err}
use Rattle.std.proofs.lemmas.Result.{err_from_is_err_and}
use borrow.Author.Tests.{le-leb, lt-leb}
use Rattle.rules.specs.Calls.{set_root}
use Rattle.rules.specs.Refusals.{outcome}
use Rattle.limits.proofs.First.{tests_refuse, tests_pass, tests_admit}
use Rattle.access.proofs.set_root.Goals as goal

pub returns-in_err-first_tests : goal.returns-in_err-first_tests
unfolding set_root
returns-in_err-first_tests c =
    let a = c.args in
    let p = err_from_is_err_and c.from_residual.result c.from_residual.ensures.1 in
    rw (p.1, p.2) (tests_refuse _ _ _ _ _ c.first_tests.ensures (λ e. outcome (Err e) a.heap.now a.table.now a.roots.now a.consts.now) _ c.in_err-first_tests.was)

pub returns-then-roots-root : goal.returns-then-roots-root
unfolding set_root
returns-then-roots-root c = let f = tests_pass _ _ _ _ _ c.first_tests.ensures c.in_ok-first_tests.was in rw (f.0, f.1, le-leb _ _ c.if-roots-root.true)

pub invariant_of-good_word : goal.invariant_of-good_word
invariant_of-good_word c = let a = tests_admit _ _ _ _ _ c.first_tests.ensures c.in_ok-first_tests.was in record { paged = a.paged; few = a.consts }

pub returns-then-not-good_word : goal.returns-then-not-good_word
unfolding set_root
returns-then-not-good_word c = let f = tests_pass _ _ _ _ _ c.first_tests.ensures c.in_ok-first_tests.was in search (f.0, f.1, lt-leb _ _ c.if-roots-root.false, ← c.good_word.ensures, c.if-not-good_word.true)

pub returns : goal.returns
unfolding set_root
returns c = let f = tests_pass _ _ _ _ _ c.first_tests.ensures c.in_ok-first_tests.was in rw (f.0, f.1, lt-leb _ _ c.if-roots-root.false, ← c.good_word.ensures, c.if-not-good_word.false)
