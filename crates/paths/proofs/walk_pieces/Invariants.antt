-- `paths::walk_pieces` meets its contract: the walk of the whole path from w is the walk of what is left from the word reached. The measure is what
-- is left of the path.
use mathlib.Core.Path.{◌≡◌}
use lib.ListN.{length}
use Rattle.rules.specs.Calls.{walk_from}
use Rattle.rules.specs.Words.{look as look_of}
use Rattle.paths.proofs.walk_pieces.Given as goal

abbrev pub invariant-loop-piece : goal.invariant-loop-piece
invariant-loop-piece l =
    let view = look_of l.memory.c.n l.memory.c.regions l.memory.heap.now l.memory.consts.now in
    walk_from view l.w l.path ≡ walk_from view l.at l.rest

abbrev pub decreases-loop-piece : goal.decreases-loop-piece
decreases-loop-piece l = length l.rest
