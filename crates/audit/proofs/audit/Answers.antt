-- `audit::audit` meets its contract: the first tests, and then the first broken rule, if there is one.
use Rattle.std.specs.Prelude.{Err}
use Rattle.std.proofs.lemmas.Result.{err_from_is_err_and}
use mathlib.Core.Path.{refl, sym, ap, ◌∙◌}
use Rattle.rules.specs.Memory.{store}
use Rattle.rules.specs.Audit.{broken_rule}
use Rattle.rules.specs.Calls.{audit as auditOf}
use Rattle.limits.specs.First.{tests_of}
use Rattle.limits.proofs.First.{refused_first, tests_pass}
use Rattle.audit.proofs.Order.{audit_broken, audit_passes}
use Rattle.audit.proofs.audit.Goals as goal

pub returns-in_err-admit : goal.returns-in_err-admit
unfolding auditOf
returns-in_err-admit c =
    let p = err_from_is_err_and c.from_residual.result c.from_residual.ensures.1 in
    rw (p.1, p.2) (refused_first (store c.args.lent) Err _ c.in_err-admit.ensures)

-- the first tests are passed, and the rule is the first broken one
pub returns-in-Some : goal.returns-in-Some
returns-in-Some c =
    let f = tests_pass _ _ _ _ _ {t = tests_of (store c.args.lent)} refl c.in_ok-admit.ensures.1 in
    let b = rw c.in-Some.is at c.broken_rule.ensures in
    audit_broken (store c.args.lent) f.0 f.1 _ (b.0 ∙ ap (λ l. broken_rule (store l)) c.in_ok-admit.ensures.0) b.1

pub returns-in-None : goal.returns-in-None
returns-in-None c =
    let f = tests_pass _ _ _ _ _ {t = tests_of (store c.args.lent)} refl c.in_ok-admit.ensures.1 in
    let b = rw c.in-None.is at c.broken_rule.ensures in
    audit_passes (store c.args.lent) f.0 f.1 _ (sym b ∙ ap (λ l. broken_rule (store l)) c.in_ok-admit.ensures.0) refl
