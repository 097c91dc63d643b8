-- `values::good_const` meets its contract: the constants are one run of words, from address 0 to their length.
use mathlib.Core.Path.{sym, ◌∙◌}
use Rattle.rules.proofs.Good.{const_go}
use Rattle.values.proofs.good_const.Goals as goal

pub returns : goal.returns
returns c = rw (← c.address_numbered.ensures, ← c.address_numbered-2.ensures) c.stands.ensures ∙ sym (const_go _ _)
