-- `attempting::move_roots` meets its contract: a root whose value finds no page ends the definition's loop.
use mathlib.Core.Path.{sym, ◌∙◌}
use Rattle.std.proofs.lemmas.Result.{err_from_is_err_and}
use Rattle.attempting.proofs.Turns.{root_over}
use Rattle.attempting.proofs.move_roots.Goals as goal

pub returns-in_err-move_root-clause-moved : goal.returns-in_err-move_root-clause-moved
returns-in_err-move_root-clause-moved c =
    let p = err_from_is_err_and c.from_residual.result c.from_residual.ensures.1 in
    let moved = rw c.loop-w.invariant.same.exponent at c.in_err-move_root.ensures.moved in
    rw p.1 (sym (root_over _ _ _ _ _ c.loop-w-test.true moved) ∙ c.loop-w.invariant.runs)
