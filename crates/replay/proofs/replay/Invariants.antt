-- `replay` is safe: as many words are lent of each part as it has.
use Rattle.std.proofs.Common.{◌≤◌, length}
use Rattle.replay.proofs.replay.Given as goal

abbrev pub invariant-loop : goal.invariant-loop
invariant-loop g l =
    (l.lent.heap ≤ length l.heap)
    × (l.lent.table ≤ length l.table)
    × (l.lent.roots ≤ length l.roots)
    × (l.lent.consts ≤ length l.consts)
