-- `constants::consts_filled` meets its contract: the zeros after the values that are left are those after all values.
use mathlib.Core.Path.{◌≡◌}
use Prim.Native.Nat.{◌-◌}
use Rattle.rules.specs.Audit.{filled}
use Rattle.contents.proofs.Turns.{Zeros}
use Rattle.constants.proofs.consts_filled.Given as goal

abbrev pub invariant-values : goal.invariant-values
invariant-values l = Zeros l.consts l.at.0 l.end.0 ≡ filled 0 l.consts

abbrev pub decreases-values : goal.decreases-values
decreases-values l = l.end.0 - l.at.0
