-- `fields::let_go` meets its contract: the roots, then the fields of the regions below.
use mathlib.Core.Path.{sym, ◌∙◌}
use Rattle.laws.proofs.Turned.{told_true, told_false}
use Rattle.fields.proofs.Turns.{go_off, go_at}
use Rattle.fields.proofs.let_go.Goals as goal

pub returns-then-words_pass : goal.returns-then-words_pass
returns-then-words_pass c = c.records_pass.ensures ∙ sym (go_at _ _ _ _ _ (told_true c.words_pass.ensures c.if-words_pass.true))

pub returns-else-words_pass : goal.returns-else-words_pass
returns-else-words_pass c = c.if-words_pass.false ∙ sym (go_off _ _ _ _ _ (told_false c.words_pass.ensures c.if-words_pass.false))
