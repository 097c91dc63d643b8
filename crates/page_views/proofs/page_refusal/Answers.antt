-- `page_views::page_refusal` meets its contract: the first tests, and then the one test of its own.
use Prim.Native.Nat.{◌≤◌, ◌<◌}
use borrow.Author.Tests.{le-leb, lt-leb}
use Rattle.std.specs.Prelude.{Err}
use Rattle.std.proofs.lemmas.Result.{err_from_is_err_and}
use Rattle.rules.specs.Calls.{page_refusal}
use Rattle.rules.specs.Memory.{store}
use Rattle.limits.proofs.First.{refused_first, admitted_first}
use Rattle.laws.proofs.Turned.{turned}
use Rattle.page_views.proofs.page_refusal.Goals as goal

pub returns-in_err-admit : goal.returns-in_err-admit
unfolding page_refusal
returns-in_err-admit c =
    let p = err_from_is_err_and c.from_residual.result c.from_residual.ensures.1 in
    rw (p.1, p.2) (refused_first (store c.args.lent) Err _ c.in_err-admit.ensures)

pub returns-then-page_count-k : goal.returns-then-page_count-k
unfolding page_refusal
returns-then-page_count-k c =
    let none : c.page_count.result ≤ c.args.k.0 = search turned in
    rw (admitted_first (store c.args.lent) _ _ c.in_ok-admit.ensures.1, ← c.page_count.ensures, le-leb _ _ none)

pub returns : goal.returns
unfolding page_refusal
returns c =
    let below : c.args.k.0 < c.page_count.result = search turned in
    rw (admitted_first (store c.args.lent) _ _ c.in_ok-admit.ensures.1, ← c.page_count.ensures, lt-leb _ _ below)
