-- `used::values_used` meets its contract. The invariant: the words counted and those of the values from the present address on are the whole,
-- and the words counted are those passed. The measure is what is left up to the end.
use Prim.Native.Nat.{◌+◌, ◌/◌, ◌≤◌}
use native.Mathlib.Omega.{arith}
use lib.ListN.{get_or}
use Rattle.laws.proofs.Turned.{told_true, told_false}
use Rattle.rules.proofs.Headers.{fit_of}
use Rattle.rules.proofs.Stepping.{vals_none, vals_stop}
use Rattle.used.proofs.Turns.{used_over, used_step}
use Rattle.used.proofs.values_used.Goals as goal
use Rattle.used.proofs.values_used.Goals.{Else-not-fits}

pub loop-at-init : goal.loop-at-init
loop-at-init c = (omega arith, omega arith, omega arith)

pub returns-then-not-fits : goal.returns-then-not-fits
returns-then-not-fits c = (used_over _ _ _ _ _ c.loop-at.invariant.0 (vals_stop _ _ _ c.loop-at-test.true c.requires.1 (told_false c.fits.ensures c.if-not-fits.true)), omega arith)

inside : (c : Else-not-fits) → c.loop-at.at.0 + (1 + get_or c.args.words.now c.loop-at.at.0 0 / 8) ≤ c.args.end.0
inside c = let f = (fit_of _ _ (told_true c.fits.ensures c.if-not-fits.false)).1 in omega arith

pub overflow_cast-fields : goal.overflow_cast-fields
overflow_cast-fields c = omega (arith, inside (goal.at.overflow_cast-fields c).Else-not-fits)

pub overflow_add-used-in-loop-at : goal.overflow_add-used-in-loop-at
overflow_add-used-in-loop-at c = omega (arith, inside (goal.at.overflow_add-used-in-loop-at c).Else-not-fits)

pub overflow_add-fields : goal.overflow_add-fields
overflow_add-fields c = omega (arith, inside (goal.at.overflow_add-fields c).Else-not-fits)

pub address_behind-at-requires : goal.address_behind-at-requires
address_behind-at-requires c = omega (arith, inside (goal.at.address_behind-at-requires c).Else-not-fits)

pub loop-at-preserved : goal.loop-at-preserved
loop-at-preserved c = (used_step _ _ _ _ _ c.loop-at.invariant.0 c.loop-at-test.true c.requires.1 (told_true c.fits.ensures c.if-not-fits.false) _ _ c.address_behind-at.ensures (omega arith), omega arith, omega (arith, inside (goal.at.loop-at-preserved c).Else-not-fits))

pub returns : goal.returns
returns c = (used_over _ _ _ _ _ c.loop-at.invariant.0 (vals_none _ _ _ c.loop-at-test.false), omega arith)
