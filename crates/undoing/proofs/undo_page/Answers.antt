-- `undoing::undo_page` meets its contract: the loop runs the definition's, and a turn is what `undo_value` does.
use native.Mathlib.Omega.{arith}
use mathlib.Core.Path.{sym, ◌∙◌}
use Rattle.undoing.proofs.Undone.{undo_more, undo_past, undo_zero, undo_all, undo_out}
use Rattle.undoing.proofs.undo_page.Goals as goal

pub loop-init : goal.loop-init
loop-init c = undo_all _ _ _ _ _ _ c.page_words-end.ensures c.page_end-past.ensures c.body_address-x.ensures

pub returns-then-past-x : goal.returns-then-past-x
returns-then-past-x c = sym (undo_past _ _ _ _ (omega arith) c.if-past-x.true) ∙ c.loop.invariant

pub returns-then-w-eq0 : goal.returns-then-w-eq0
returns-then-w-eq0 c = sym (undo_zero _ _ _ _ _ (omega arith) c.if-past-x.false c.word-w.ensures.0 c.if-w-eq0.true) ∙ c.loop.invariant

pub loop-preserved : goal.loop-preserved
loop-preserved c =
    sym (undo_more _ _ _ _ _ _ _ (omega arith) c.if-past-x.false c.word-w.ensures.0 c.if-w-eq0.false c.undo_value-x.ensures) ∙
    c.loop.invariant

pub returns : goal.returns
returns c = sym (undo_out _ _ _ _ c.loop-test.false) ∙ c.loop.invariant
