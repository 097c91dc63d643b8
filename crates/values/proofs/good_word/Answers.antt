-- `values::good_word` meets its contract: a word's remainder by 4 says whether it is a heap pointer, a constant pointer or a number.
use mathlib.Core.Path.{sym, ap, ◌∙◌}
use Rattle.rules.specs.Words.{good_heap, good_const}
use Rattle.rules.proofs.Good.{word_heap, word_const, word_number}
use Rattle.values.proofs.good_word.Goals as goal

pub returns-then-w-eq0 : goal.returns-then-w-eq0
returns-then-w-eq0 c = c.good_heap.ensures ∙ ap (good_heap _ _ _) c.pointer_address.ensures ∙ sym (word_heap _ _ _ _ _ c.if-w-eq0.true)

pub returns-then-w-eq2 : goal.returns-then-w-eq2
returns-then-w-eq2 c = c.good_const.ensures ∙ ap (good_const _) c.pointer_address-then-w-eq2.ensures ∙ sym (word_const _ _ _ _ _ c.if-w-eq2.true)

pub returns : goal.returns
returns c = sym (word_number _ _ _ _ _ c.if-w-eq0.false c.if-w-eq2.false)
