-- `access::fetch_refusal` meets its contract: a value that is there has at least its header, so the part is empty only where there is none.
use Rattle.std.specs.Prelude.{Err}
use Rattle.std.proofs.lemmas.Result.{err_from_is_err_and}
use native.Mathlib.Omega.{arith}
use Rattle.rules.specs.Calls.{fetch_refusal}
use Rattle.rules.specs.Memory.{store}
use Rattle.rules.proofs.Looks.{there_none, there_some}
use Rattle.limits.proofs.First.{refused_first, admitted_first}
use Rattle.access.proofs.fetch_refusal.Goals as goal

pub returns-in_err-admit : goal.returns-in_err-admit
unfolding fetch_refusal
returns-in_err-admit c =
    let p = err_from_is_err_and c.from_residual.result c.from_residual.ensures.1 in
    rw (p.1, p.2) (refused_first (store c.args.lent) Err _ c.in_err-admit.ensures)

pub returns-then-value-eq0 : goal.returns-then-value-eq0
unfolding fetch_refusal
returns-then-value-eq0 c =
    rw (admitted_first (store c.args.lent) _ _ c.in_ok-admit.ensures.1, ← c.look-value.ensures, there_none c.look-value.result.now (omega (arith, c.if-value-eq0.true)))

pub returns : goal.returns
unfolding fetch_refusal
returns c =
    rw (admitted_first (store c.args.lent) _ _ c.in_ok-admit.ensures.1, ← c.look-value.ensures, there_some c.look-value.result.now (λ z. omega (arith, c.if-value-eq0.false)))
