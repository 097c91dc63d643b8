-- `access::fetch` meets its contract: after the first tests it hands back what `look` does.
use mathlib.Core.Path.{◌∙◌}
use mathlib.Core.List.{[]}
use Rattle.rules.specs.Calls.{fetch}
use Rattle.rules.specs.Memory.{store}
use Rattle.limits.proofs.First.{refused_first, admitted_first}
use Rattle.access.proofs.fetch.Goals as goal

pub returns-in_default : goal.returns-in_default
unfolding fetch
returns-in_default c = c.nothing.ensures ∙ refused_first (store c.args.lent) (λ e. []) _ c.in_default.ensures

pub returns : goal.returns
unfolding fetch
returns c = rw (admitted_first (store c.args.lent) _ _ c.in-Ok.ensures.1) c.look.ensures
