-- `script::filling::fill` is safe and ends: n nears the lent part's end.
use Rattle.std.proofs.Common.{◌-◌, ◌≤◌, length}
use Rattle.script.proofs.filling.fill.Given as goal

abbrev pub invariant-loop-n : goal.invariant-loop-n
invariant-loop-n g l = l.n ≤ length l.bytes

abbrev pub decreases-loop-n : goal.decreases-loop-n
decreases-loop-n g l = length l.bytes - l.n
