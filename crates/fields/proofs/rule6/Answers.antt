-- `fields::rule6` meets its contract: the fields of all regions are tested for what the rule says.
use Rattle.rules.specs.Audit.{rule6}
use Rattle.fields.proofs.rule6.Goals as goal

pub returns : goal.returns
unfolding rule6
returns c = c.records_pass.ensures
