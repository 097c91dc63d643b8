-- `Lines::next_line` meets its contract: what is kept of a line fits its part, a read leaves the chunk its length, and a turn that met no newline has
-- used the chunk up.
use Rattle.std.proofs.Common.{◌≡◌, ◌≤◌, ◌<◌, length}
use Rattle.script.proofs.lines.Lines.next_line.Given as goal

abbrev pub invariant-loop : goal.invariant-loop
invariant-loop g l =
    (l.used ≤ length l.line)
    × (length l.self.chunk.now ≡ length l.initial.self.chunk.now)
    × (0 < l.counter → l.self.end ≤ l.self.from)
