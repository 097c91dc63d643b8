-- `fields::rule7` meets its contract: the roots are tested for what the rule says.
use Rattle.rules.specs.Audit.{rule7}
use Rattle.fields.proofs.rule7.Goals as goal

pub returns : goal.returns
unfolding rule7
returns c = c.words_pass.ensures
