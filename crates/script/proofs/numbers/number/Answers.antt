-- `script::numbers::number` meets its contract: what is left of the token gives, after the number so far, what the whole token gives from 0.
use Rattle.std.proofs.Common.{sym, ◌∙◌, arith, rules}
use Rattle.script.proofs.Digits.{number_turn, number_without, number_beyond, number_of_none, number_of_some, number_end}
use Rattle.script.proofs.numbers.number.Goals as goal

pub returns-then-is_empty-clause-value : goal.returns-then-is_empty-clause-value
returns-then-is_empty-clause-value c = sym (number_of_none _ _ (sym c.is_empty.ensures ∙ c.if-is_empty.true))

pub returns-in_err-d-clause-value : goal.returns-in_err-d-clause-value
returns-in_err-d-clause-value c =
    let none = number_without _ c.loop-b.x _ _ c.loop-b-test.true (sym c.in_err-d.was ∙ c.digit.ensures.value) in
    c.from_residual.ensures ∙ sym none ∙ c.loop-b.invariant.told ∙ sym (number_of_some _ _ (sym c.is_empty.ensures ∙ c.if-is_empty.false))

pub returns-then-base-d-clause-value : goal.returns-then-base-d-clause-value
returns-then-base-d-clause-value c =
    let none = number_beyond _ c.loop-b.x _ _ c.loop-b-test.true _ (sym c.in_ok-d.was ∙ c.digit.ensures.value) c.if-base-d.true in
    sym none ∙ c.loop-b.invariant.told ∙ sym (number_of_some _ _ (sym c.is_empty.ensures ∙ c.if-is_empty.false))

pub loop-b-preserved : goal.loop-b-preserved
loop-b-preserved c =
    let turn = number_turn _ c.loop-b.x _ _ c.loop-b-test.true _ (sym c.in_ok-d.was ∙ c.digit.ensures.value) c.if-base-d.false in
    record { told = grind (arith, turn, c.min-x.ensures, c.from.ensures, c.from-in-loop-b.ensures) ∙ c.loop-b.invariant.told; bounded = search rules }

pub returns-clause-value : goal.returns-clause-value
returns-clause-value c =
    sym (number_end c.args.base c.loop-b.x c.args.token.now c.loop-b.b-index (omega (arith, c.loop-b-test.false))) ∙ c.loop-b.invariant.told
    ∙ sym (number_of_some _ _ (sym c.is_empty.ensures ∙ c.if-is_empty.false))
