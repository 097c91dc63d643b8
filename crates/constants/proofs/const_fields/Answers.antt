-- `constants::const_fields` meets its contract: at each level what is left to test, with what the outer level has left, is the whole test.
use mathlib.Core.Path.{sym, ◌∙◌}
use Prim.Native.Nat.{◌≤◌}
use native.Mathlib.Nat.{le_refl}
use native.Mathlib.Omega.{arith}
use lib.ListN.{length}
use Rattle.laws.proofs.Tests.{part_all, fields_end, fields_go, fields_stop}
use Rattle.laws.proofs.Turned.{told_true, told_false}
use Rattle.rules.proofs.Headers.{fit_of}
use Rattle.rules.proofs.Stepping.{vals_none, vals_stop, values_over, raw_go, record_go}
use Rattle.constants.proofs.Constants.{consts_all}
use Rattle.constants.proofs.const_fields.Goals as goal
use Rattle.constants.proofs.const_fields.Goals.{After-address_behind-next, After-address_numbered-end}

pub values-init : goal.values-init
values-init c = consts_all _ _ _ c.address_numbered-at.ensures c.address_numbered-end.ensures _

whole : (c : After-address_numbered-end) → c.address_numbered-end.result.0 ≤ length c.args.consts.now
whole c = omega arith

within : (c : After-address_behind-next) → c.address_behind-next.result.0 ≤ length c.args.consts.now
within c = let f = (fit_of _ _ (told_true c.fits.ensures c.if-not-fits.false)).1 in omega arith

pub values-preserved-then-not-is_record : goal.values-preserved-then-not-is_record
values-preserved-then-not-is_record c = sym (raw_go _ _ _ _ _ c.values-test.true (whole (goal.at.values-preserved-then-not-is_record c).After-address_numbered-end) (told_true c.fits.ensures c.if-not-fits.false) _ c.address_behind-next.ensures (told_false c.is_record.ensures c.if-not-is_record.true)) ∙ c.values.invariant

pub slice_bounds-w-items-end : goal.slice_bounds-w-items-end
slice_bounds-w-items-end c = omega (arith, within (goal.at.slice_bounds-w-items-end c).After-address_behind-next)

pub loop-w-init : goal.loop-w-init
loop-w-init c = sym (record_go _ _ _ _ _ c.values-test.true (whole (goal.at.loop-w-init c).After-address_numbered-end) (told_true c.fits.ensures c.if-not-fits.false) _ c.address_behind-next.ensures (told_true c.is_record.ensures c.if-not-is_record.false) _ c.address_behind-first.ensures ∙ part_all _ _ c.address_behind-first.result.0 c.address_behind-next.result.0 _ (omega arith)) ∙ c.values.invariant

pub loop-w-preserved : goal.loop-w-preserved
loop-w-preserved c = sym (fields_go _ _ _ _ _ c.loop-w-test.true (le_refl _) (told_true c.const_field.ensures c.if-not-const_field.false)) ∙ c.loop-w.invariant

pub values-preserved : goal.values-preserved
values-preserved c = sym (fields_end _ _ _ _ _ c.loop-w-test.false) ∙ c.loop-w.invariant

pub returns-after-values : goal.returns-after-values
returns-after-values c = sym (values_over _ _ _ _ _ (vals_none _ _ _ c.values-test.false)) ∙ c.values.invariant

pub returns-then-not-fits : goal.returns-then-not-fits
returns-then-not-fits c = sym (values_over _ _ _ _ _ (vals_stop _ _ _ c.values-test.true (whole (goal.at.returns-then-not-fits c).After-address_numbered-end) (told_false c.fits.ensures c.if-not-fits.true))) ∙ c.values.invariant

pub returns-then-not-const_field : goal.returns-then-not-const_field
returns-then-not-const_field c = sym (fields_stop _ _ _ _ _ c.loop-w-test.true (le_refl _) (told_false c.const_field.ensures c.if-not-const_field.true)) ∙ c.loop-w.invariant
