-- `writing::write_digits` meets its contract: a turn stores the next digit, and storing the digits that are left makes the whole.
use Prim.Native.Nat.{◌+◌}
use mathlib.Core.Path.{◌≡◌}
use lib.Seq.{sets}
use Rattle.rules.specs.Image.{hex}
use Rattle.writing.proofs.write_digits.Given as goal

abbrev pub invariant-loop-behind : goal.invariant-loop-behind
invariant-loop-behind l =
    (sets l.bytes l.i (hex l.behind l.w) ≡ sets l.initial.bytes l.at (hex l.m l.w)) × (l.i + l.behind ≡ l.at + l.m)
