-- `fields::rule7` tests the roots for what the rule says.
use Rattle.rules.specs.Words.{good_in}
use Rattle.fields.proofs.rule7.Given as goal

abbrev pub ghost-words_pass : goal.ghost-words_pass
ghost-words_pass a = let m = a.test.now.0 in good_in m.c.n m.c.regions m.heap.now m.consts.now
