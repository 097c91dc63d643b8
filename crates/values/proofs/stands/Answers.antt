-- `values::stands` meets its contract. The invariant: whether the goal is landed on from the present address is the whole answer. The measure
-- is what is left up to the end.
use mathlib.Core.Path.{◌≡◌, sym, ◌∙◌}
use mathlib.Core.Bool.{Bool}
use Prim.Native.Nat.{ℕ}
use native.Mathlib.Nat.{add_assoc}
use native.Mathlib.Omega.{arith}
use Rattle.rules.specs.Words.{fits}
use Rattle.rules.proofs.Stepping.{vals_none, vals_stop, stands_over, stands_here, stands_go}
use Rattle.values.proofs.stands.Goals as goal

-- whether it fits into the m words that are left
there : (h m k : ℕ) {r b : Bool} → r ≡ fits h m → r ≡ b → m ≡ k → fits h k ≡ b
there h m k tested found left = rw (← left) (sym tested ∙ found)

pub returns-then-not-fits : goal.returns-then-not-fits
returns-then-not-fits c = sym (stands_over _ _ _ _ (vals_stop _ _ _ c.loop-at-test.true c.requires.0 (there _ _ _ c.fits.ensures c.if-not-fits.true (omega arith)))) ∙ c.loop-at.invariant

pub returns-then-a-at : goal.returns-then-a-at
returns-then-a-at c = sym (stands_here _ _ _ _ c.loop-at-test.true c.requires.0 (there _ _ _ c.fits.ensures c.if-not-fits.false (omega arith)) c.if-a-at.true) ∙ c.loop-at.invariant

pub loop-at-smaller : goal.loop-at-smaller
loop-at-smaller c = omega (arith, c.address_behind-at.ensures)

pub loop-at-preserved : goal.loop-at-preserved
loop-at-preserved c = let next = c.address_behind-at.ensures ∙ sym (add_assoc _ _ _) in
    rw next (sym (stands_go _ _ _ _ c.loop-at-test.true c.requires.0 (there _ _ _ c.fits.ensures c.if-not-fits.false (omega arith)) c.if-a-at.false) ∙ c.loop-at.invariant)

pub returns : goal.returns
returns c = sym (stands_over _ _ _ _ (vals_none _ _ _ c.loop-at-test.false)) ∙ c.loop-at.invariant
