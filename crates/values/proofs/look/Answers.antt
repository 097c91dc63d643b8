-- `values::look` meets its contract: the remainder by 4 says which memory the address is of, and a good pointer's value fits there.
use mathlib.Core.Path.{sym, ◌∙◌}
use Rattle.laws.proofs.Turned.{told_true, told_false}
use Rattle.rules.proofs.Looks.{good_fits, const_fits, look_heap, look_no_heap, look_const, look_no_const, look_number}
use Rattle.values.proofs.look.Goals as goal

pub returns-then-not-good_heap : goal.returns-then-not-good_heap
returns-then-not-good_heap c = c.nothing.ensures
    ∙ sym (look_no_heap _ _ _ _ _ _ c.pointer_address-a.ensures c.if-w-eq0.true (told_false c.good_heap.ensures c.if-not-good_heap.true))

pub value_at-requires : goal.value_at-requires
value_at-requires c = good_fits _ _ _ _ c.args.memory.paged (told_true c.good_heap.ensures c.if-not-good_heap.false)

pub returns-then-w-eq0 : goal.returns-then-w-eq0
returns-then-w-eq0 c = c.value_at.ensures
    ∙ sym (look_heap _ _ _ _ _ _ c.pointer_address-a.ensures c.if-w-eq0.true (told_true c.good_heap.ensures c.if-not-good_heap.false))

pub returns-then-not-good_const : goal.returns-then-not-good_const
returns-then-not-good_const c = c.nothing-then-not-good_const.ensures
    ∙ sym (look_no_const _ _ _ _ _ _ c.pointer_address-a.ensures c.if-w-eq2.true (told_false c.good_const.ensures c.if-not-good_const.true))

pub value_at-requires-then-w-eq2 : goal.value_at-requires-then-w-eq2
value_at-requires-then-w-eq2 c = const_fits _ _ (told_true c.good_const.ensures c.if-not-good_const.false)

pub returns-then-w-eq2 : goal.returns-then-w-eq2
returns-then-w-eq2 c = c.value_at-then-w-eq2.ensures
    ∙ sym (look_const _ _ _ _ _ _ c.pointer_address-a.ensures c.if-w-eq2.true (told_true c.good_const.ensures c.if-not-good_const.false))

pub returns : goal.returns
returns c = c.nothing-2.ensures ∙ sym (look_number _ _ _ _ _ c.if-w-eq0.false c.if-w-eq2.false)
