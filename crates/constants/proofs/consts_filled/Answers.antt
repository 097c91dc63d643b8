-- `constants::consts_filled` meets its contract: the zeros after the values that are left are those after all values.
use mathlib.Core.Path.{◌≡◌, sym, ◌∙◌}
use Prim.Native.Nat.{◌≤◌}
use native.Mathlib.Omega.{arith}
use lib.ListN.{length}
use Rattle.laws.proofs.Turned.{told_true, told_false}
use Rattle.rules.proofs.Stepping.{vals_none, vals_stop}
use Rattle.contents.proofs.Turns.{zeros_over, zeros_step}
use Rattle.constants.proofs.Constants.{filled_all}
use Rattle.rules.specs.Words.{vals_in}
use mathlib.Core.List.{[]}
use Rattle.constants.proofs.consts_filled.Goals as goal
use Rattle.constants.proofs.consts_filled.Goals.{Left-values, else-values-test, then-values-test+then-not-fits, After-address_numbered-end}

pub values-init : goal.values-init
values-init c = filled_all _ _ _ c.address_numbered-at.ensures c.address_numbered-end.ensures

whole : (c : After-address_numbered-end) → c.address_numbered-end.result.0 ≤ length c.args.consts.now
whole c = omega arith

pub values-preserved : goal.values-preserved
values-preserved c = sym (zeros_step _ _ _ (omega arith) (whole (goal.at.values-preserved c).After-address_numbered-end) (told_true c.fits.ensures c.if-not-fits.false) _ c.address_behind-at.ensures) ∙ c.values.invariant

-- no value stands where the loop stopped
ended : (c : Left-values) → c.address_numbered-end.result.0 ≤ length c.args.consts.now → vals_in c.args.consts.now c.values.at.0 c.address_numbered-end.result.0 ≡ []
ended c end =
    elim c.values-test.branch [
      | else-values-test w ↦ vals_none _ _ _ w.values-test.false
      | then-values-test+then-not-fits w ↦ vals_stop _ _ _ w.values-test.true end (told_false w.fits.ensures w.if-not-fits.true)
    ]

pub returns : goal.returns
returns c =
    let none = ended (goal.at.returns c).Left-values (whole (goal.at.returns c).After-address_numbered-end) in
    c.zero_between.ensures ∙ sym (zeros_over _ _ _ none) ∙ c.values.invariant
