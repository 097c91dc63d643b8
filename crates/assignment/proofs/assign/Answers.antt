-- `assignment::assign` meets its contract: the first tests, and then what `assign_into` does.
use Rattle.std.specs.Prelude.{Err}
use Rattle.std.proofs.lemmas.Result.{err_from_is_err_and}
use Rattle.rules.specs.Calls.{assign}
use Rattle.rules.specs.Refusals.{outcome}
use Rattle.limits.proofs.First.{tests_refuse, tests_pass, tests_admit}
use Rattle.assignment.proofs.assign.Goals as goal

pub returns-in_err-first_tests : goal.returns-in_err-first_tests
unfolding assign
returns-in_err-first_tests c =
    let a = c.args in
    let p = err_from_is_err_and c.from_residual.result c.from_residual.ensures.1 in
    rw (p.1, p.2) (tests_refuse _ _ _ _ _ c.first_tests.ensures (λ e. outcome (Err e) a.heap.now a.table.now a.roots.now a.consts.now) _ c.in_err-first_tests.was)

pub assign_into-requires : goal.assign_into-requires
assign_into-requires c = let a = tests_admit _ _ _ _ _ c.first_tests.ensures c.in_ok-first_tests.was in (a.paged, a.consts)

pub returns : goal.returns
unfolding assign
returns c = let f = tests_pass _ _ _ _ _ c.first_tests.ensures c.in_ok-first_tests.was in rw (f.0, f.1) (c.assign_into.ensures _ _)
