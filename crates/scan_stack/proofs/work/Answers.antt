-- `scan_stack::work` meets its contract: the loop runs the definition's, and a turn is what `one_step` does.
use mathlib.Core.Path.{sym, ◌∙◌}
use Rattle.std.proofs.Common.{rules}
use Rattle.std.proofs.lemmas.Result.{err_from_is_err_and}
use Rattle.scan_stack.proofs.Working.{work_more, work_finished, work_lacks, work_end}
use Rattle.scan_stack.proofs.work.Goals as goal

pub returns-in_err-next-clause-worked : goal.returns-in_err-next-clause-worked
returns-in_err-next-clause-worked c =
    let p = err_from_is_err_and c.from_residual.result c.from_residual.ensures.1 in
    let step = rw c.loop.invariant.same.exponent at c.in_err-next.ensures.step in
    rw p.1 (sym (work_lacks _ _ _ _ _ _ _ _ c.loop-test.true step) ∙ c.loop.invariant.runs)

pub returns-in_default-clause-worked : goal.returns-in_default-clause-worked
returns-in_default-clause-worked c =
    let step = rw (c.in_default.is, c.loop.invariant.same.exponent) at c.in_ok-next.ensures.step in
    sym (work_finished _ _ _ _ _ _ _ c.loop-test.true step) ∙ c.loop.invariant.runs

pub loop-preserved : goal.loop-preserved
loop-preserved c =
    let step = rw (c.in-Some.is, c.loop.invariant.same.exponent) at c.in_ok-next.ensures.step in
    record {
      runs = sym (work_more _ _ _ _ _ _ _ _ c.loop-test.true step) ∙ c.loop.invariant.runs;
      fitting = rw c.in-Some.is at c.in_ok-next.ensures.narrow;
      same = search rules;
    }

pub returns-clause-worked : goal.returns-clause-worked
returns-clause-worked c = sym (work_end _ _ _ _ _ c.loop-test.false) ∙ c.loop.invariant.runs
