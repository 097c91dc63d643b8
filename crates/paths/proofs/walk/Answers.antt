-- `paths::walk` meets its contract: the first tests, the root's number, and then the walk from the root's word.
use borrow.Author.Tests.{le-leb, lt-leb}
use Rattle.std.specs.Prelude.{Err}
use Rattle.std.proofs.lemmas.Result.{err_from_is_err_and}
use Rattle.rules.specs.Calls.{walk}
use Rattle.rules.specs.Memory.{store}
use Rattle.limits.proofs.First.{refused_first, admitted_first}
use Rattle.paths.proofs.walk.Goals as goal

pub returns-in_err-admit : goal.returns-in_err-admit
unfolding walk
returns-in_err-admit c =
    let p = err_from_is_err_and c.from_residual.result c.from_residual.ensures.1 in
    rw (p.1, p.2) (refused_first (store c.args.lent) Err _ c.in_err-admit.ensures)

pub returns-then-roots-root : goal.returns-then-roots-root
unfolding walk
returns-then-roots-root c = rw (admitted_first (store c.args.lent) _ _ c.in_ok-admit.ensures.1, le-leb _ _ c.if-roots-root.true)

pub returns-in-Ok : goal.returns-in-Ok
unfolding walk
returns-in-Ok c = rw (admitted_first (store c.args.lent) _ _ c.in_ok-admit.ensures.1, lt-leb _ _ c.if-roots-root.false, ← c.in-Ok.ensures)

pub returns-in-Err : goal.returns-in-Err
unfolding walk
returns-in-Err c = rw (admitted_first (store c.args.lent) _ _ c.in_ok-admit.ensures.1, lt-leb _ _ c.if-roots-root.false, ← c.in-Err.ensures)
