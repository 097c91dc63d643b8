-- `attempting::freshen` meets its contract: a region that finds no page ends `each`.
use mathlib.Core.Path.{sym, ◌∙◌}
use Rattle.std.proofs.lemmas.Result.{err_from_is_err_and}
use Rattle.attempting.proofs.Turns.{fresh_over}
use Rattle.attempting.proofs.freshen.Goals as goal

pub returns-in_err-fresh-clause-fresh : goal.returns-in_err-fresh-clause-fresh
returns-in_err-fresh-clause-fresh c =
    let p = err_from_is_err_and c.from_residual.result c.from_residual.ensures.1 in
    let fresh = rw (c.region_numbered.ensures, c.loop-j.invariant.same.exponent) at c.in_err-fresh.ensures.fresh in
    rw p.1 (sym (fresh_over _ _ _ _ _ c.loop-j-test.true fresh) ∙ c.loop-j.invariant.runs)
