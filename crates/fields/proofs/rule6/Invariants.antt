-- `fields::rule6` tests the fields for what the rule says.
use Rattle.rules.specs.Words.{good_in}
use Rattle.fields.proofs.rule6.Given as goal

abbrev pub ghost-records_pass : goal.ghost-records_pass
ghost-records_pass a = let m = a.test.now.0 in good_in m.c.n m.c.regions m.heap.now m.consts.now
