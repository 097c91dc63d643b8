-- `due::due` meets its contract: the first tests, and then the one comparison.
use Rattle.std.specs.Prelude.{Err}
use Rattle.std.proofs.lemmas.Result.{err_from_is_err_and}
use Rattle.rules.specs.Memory.{store}
use Rattle.rules.specs.Calls.{due}
use Rattle.limits.proofs.First.{refused_first, admitted_first}
use Rattle.due.proofs.due.Goals as goal

pub returns-in_err-admit : goal.returns-in_err-admit
unfolding due
returns-in_err-admit c =
    let p = err_from_is_err_and c.from_residual.result c.from_residual.ensures.1 in
    rw (p.1, p.2) (refused_first (store c.args.lent) Err _ c.in_err-admit.ensures)

pub returns : goal.returns
unfolding due
returns c = rw (admitted_first (store c.args.lent) _ _ c.in_ok-admit.ensures.1, c.due_at.ensures, c.page_count.ensures)
