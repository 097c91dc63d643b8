-- `values::stands` meets its contract. The invariant: whether the goal is landed on from the present address is the whole answer. The measure
-- is what is left up to the end.
use mathlib.Core.Path.{◌≡◌}
use Prim.Native.Nat.{◌-◌}
use Rattle.rules.specs.Words.{stands_at, vals_in}
use Rattle.values.proofs.stands.Given as goal

abbrev pub invariant-loop-at : goal.invariant-loop-at
invariant-loop-at l = stands_at l.a.0 (vals_in l.words l.at.0 l.end.0) ≡ stands_at l.a.0 (vals_in l.words l.initial.at.0 l.end.0)

abbrev pub decreases-loop-at : goal.decreases-loop-at
decreases-loop-at l = l.end.0 - l.at.0
