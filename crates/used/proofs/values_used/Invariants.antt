-- `used::values_used` meets its contract. The invariant: the words counted and those of the values from the present address on are the whole,
-- and the words counted are those passed. The measure is what is left up to the end.
use mathlib.Core.Path.{◌≡◌}
use Prim.Native.Nat.{◌+◌, ◌-◌, ◌≤◌}
use Rattle.rules.specs.Words.{vals_in, used_of}
use Rattle.used.proofs.values_used.Given as goal

abbrev pub invariant-loop-at : goal.invariant-loop-at
invariant-loop-at l = (l.used + used_of (vals_in l.words l.at.0 l.end.0) ≡ used_of (vals_in l.words l.initial.at.0 l.end.0)) × (l.initial.at.0 + l.used ≡ l.at.0) × (l.at.0 ≤ l.end.0)

abbrev pub decreases-loop-at : goal.decreases-loop-at
decreases-loop-at l = l.end.0 - l.at.0
