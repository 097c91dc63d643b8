-- `scanning::number` meets its contract: a turn takes one digit more, and each leaves room for those to come.
use Prim.Native.Nat.{◌+◌, ◌-◌, ◌^◌, ◌<◌}
use mathlib.Core.Path.{◌≡◌, sym, ap, ◌∙◌}
use native.Mathlib.Nat.{pow-le-pow_right}
use native.Mathlib.Omega.{arith}
use Rattle.std.specs.Prelude.{unwrap_or}
use Rattle.laws.specs.Lists.{at}
use Rattle.scanning.specs.Places.{digit, digit_value}
use Rattle.scanning.proofs.Digits.{digit_small, number_turn, number_end, number_room, number_whole}
use Rattle.scanning.proofs.number.Goals as goal
use Rattle.scanning.proofs.number.Goals.{After-unwrap_or}

counted : (c : After-unwrap_or) → c.unwrap_or.result ≡ digit_value (at c.args.text.now c.loop-i.i)
counted c = c.unwrap_or.ensures ∙ ap (λ o. unwrap_or o 0) (c.digit.ensures ∙ ap digit c.byte_at.ensures)

small : (c : After-unwrap_or) → c.unwrap_or.result < 16
small c = rw (counted c) (digit_small _)

pub overflow_mul-v : goal.overflow_mul-v
overflow_mul-v c =
    let a = c.args in
    let r = number_room (a.from + a.m - c.loop-i.i) c.loop-i.v 0 (16 ^ a.m) (omega arith) (omega arith) c.loop-i.invariant.1 in
    omega (arith, r.1, pow-le-pow_right {n = 16} (omega arith) c.requires.0)

pub overflow_add-v : goal.overflow_add-v
overflow_add-v c =
    let a = c.args in
    let r = number_room (a.from + a.m - c.loop-i.i) c.loop-i.v _ (16 ^ a.m) (omega arith) (small (goal.at.overflow_add-v c).After-unwrap_or) c.loop-i.invariant.1 in
    omega (arith, r.1, pow-le-pow_right {n = 16} (omega arith) c.requires.0)

pub loop-i-preserved : goal.loop-i-preserved
loop-i-preserved c =
    let a = c.args in
    let b = (goal.at.loop-i-preserved c).After-unwrap_or in
    let l : 0 < a.from + a.m - c.loop-i.i = omega arith in
    let q : a.from + a.m - (c.loop-i.i + 1) ≡ a.from + a.m - c.loop-i.i - 1 = omega arith in
    rw q (sym (number_turn _ _ _ _ _ l (counted b)) ∙ c.loop-i.invariant.0, (number_room _ _ _ _ l (small b) c.loop-i.invariant.1).0)

pub returns : goal.returns
returns c =
    let a = c.args in
    let e = number_end (a.from + a.m - c.loop-i.i) c.loop-i.v a.text.now c.loop-i.i (omega arith) in
    (sym e ∙ c.loop-i.invariant.0, number_whole (a.from + a.m - c.loop-i.i) _ _ (omega arith) c.loop-i.invariant.1)
