-- `leaves::copy` meets its contract: the m words at a, pasted at b, are the definition's, since they lie in the heap.
use Rattle.std.proofs.Common.{◌+◌, ◌≤◌, length, rules}
use native.Mathlib.Omega.{arith}
use Rattle.laws.proofs.Copies.{copy_done}
use Rattle.motion.specs.Leaves.{copied}
use Rattle.leaves.proofs.copy.Goals as goal

pub returns-then-apart : goal.returns-then-apart
unfolding copied
returns-then-apart c =
    let within : c.args.a.0 + c.args.m ≤ length c.args.heap.now = search rules in
    rw (c.copy_within.ensures.after, ← c.apart.ensures, c.if-apart.true) (copy_done _ _ _ _ _ (omega arith) (omega arith) within)

pub returns-else-apart : goal.returns-else-apart
unfolding copied
returns-else-apart c = rw (← c.apart.ensures, c.if-apart.false)
