-- `assignment::assign_into` meets its contract: its tests are the definition's, in its order, and a field of a good record lies inside the heap.
use native.Mathlib.Omega.{arith}
use Rattle.rules.proofs.Looks.{word_is_number, word_is_const, word_is_heap}
use Rattle.assignment.proofs.Assigning.{Lies, lies, to_number, to_no_const, to_const, to_no_heap, to_raw, to_no_field, no_word, assigned}
use Rattle.assignment.proofs.assign_into.Goals as goal
use Rattle.assignment.proofs.assign_into.Goals.{Else-not-good_heap}

pub returns-then-w-eq1 : goal.returns-then-w-eq1
returns-then-w-eq1 c t u = to_number _ t u _ _ _ _ _ (word_is_number _ c.if-w-eq1.true)

pub returns-then-not-good_const : goal.returns-then-not-good_const
returns-then-not-good_const c t u = to_no_const _ t u _ _ _ _ _ _ (word_is_const _ _ c.pointer_address-a.ensures c.if-w-eq2.true) c.good_const.ensures c.if-not-good_const.true

pub returns-then-w-eq2 : goal.returns-then-w-eq2
returns-then-w-eq2 c t u = to_const _ t u _ _ _ _ _ _ (word_is_const _ _ c.pointer_address-a.ensures c.if-w-eq2.true) c.good_const.ensures c.if-not-good_const.false

pub returns-then-not-good_heap : goal.returns-then-not-good_heap
returns-then-not-good_heap c t u = to_no_heap _ t u _ _ _ _ _ _ (word_is_heap _ _ c.pointer_address-a.ensures c.if-w-eq1.false c.if-w-eq2.false) c.good_heap.ensures c.if-not-good_heap.true

-- the target lies inside the heap
inside : (c : Else-not-good_heap) → Lies c.args.heap.now c.pointer_address-a.result.0
inside c = lies _ _ _ _ c.requires.0 c.good_heap.ensures c.if-not-good_heap.false

pub bounds-heap-i : goal.bounds-heap-i
bounds-heap-i c = (inside (goal.at.bounds-heap-i c).Else-not-good_heap).header

pub returns-then-not-is_record : goal.returns-then-not-is_record
returns-then-not-is_record c t u = to_raw _ t u _ _ _ _ _ _ (word_is_heap _ _ c.pointer_address-a.ensures c.if-w-eq1.false c.if-w-eq2.false) c.good_heap.ensures c.if-not-good_heap.false c.is_record.ensures c.if-not-is_record.true

pub overflow_cast-header : goal.overflow_cast-header
overflow_cast-header c = let l = inside (goal.at.overflow_cast-header c).Else-not-good_heap in omega arith

pub returns-then-header-field : goal.returns-then-header-field
returns-then-header-field c t u = to_no_field _ t u _ _ _ _ _ _ (word_is_heap _ _ c.pointer_address-a.ensures c.if-w-eq1.false c.if-w-eq2.false) c.good_heap.ensures c.if-not-good_heap.false c.is_record.ensures c.if-not-is_record.false (omega (arith, c.if-header-field.true))

pub returns-then-not-good_word : goal.returns-then-not-good_word
returns-then-not-good_word c t u = no_word _ t u _ _ _ _ _ _ (word_is_heap _ _ c.pointer_address-a.ensures c.if-w-eq1.false c.if-w-eq2.false) c.good_heap.ensures c.if-not-good_heap.false c.is_record.ensures c.if-not-is_record.false (omega (arith, c.if-header-field.false)) c.good_word.ensures c.if-not-good_word.true

pub overflow_add-heap : goal.overflow_add-heap
overflow_add-heap c = let l = inside (goal.at.overflow_add-heap c).Else-not-good_heap in omega arith

pub overflow_add-heap-2 : goal.overflow_add-heap-2
overflow_add-heap-2 c = let l = inside (goal.at.overflow_add-heap-2 c).Else-not-good_heap in omega arith

pub offset_bounds-heap-i-2 : goal.offset_bounds-heap-i-2
offset_bounds-heap-i-2 c = let l = inside (goal.at.offset_bounds-heap-i-2 c).Else-not-good_heap in omega arith

pub bounds-heap-i-2 : goal.bounds-heap-i-2
bounds-heap-i-2 c = let l = inside (goal.at.bounds-heap-i-2 c).Else-not-good_heap in omega arith

pub returns : goal.returns
returns c t u = assigned _ t u _ _ _ _ _ _ (word_is_heap _ _ c.pointer_address-a.ensures c.if-w-eq1.false c.if-w-eq2.false) c.good_heap.ensures c.if-not-good_heap.false c.is_record.ensures c.if-not-is_record.false (omega (arith, c.if-header-field.false)) c.good_word.ensures _ (omega arith) c.if-not-good_word.false
