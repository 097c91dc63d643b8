-- `scanning::number` meets its contract: a turn takes one digit more, and each leaves room for those to come.
use Prim.Native.Nat.{◌+◌, ◌-◌, ◌*◌, ◌^◌, ◌≤◌}
use mathlib.Core.Path.{◌≡◌}
use Rattle.scanning.specs.Places.{number_at}
use Rattle.scanning.proofs.number.Given as goal

abbrev pub invariant-loop-i : goal.invariant-loop-i
invariant-loop-i l =
    (number_at (l.i-end - l.i) l.v l.text l.i ≡ number_at l.m 0 l.text l.from) × ((l.v + 1) * 16 ^ (l.i-end - l.i) ≤ 16 ^ l.m)
