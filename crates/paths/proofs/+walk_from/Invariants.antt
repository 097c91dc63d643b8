-- The measure of the walk is the path's length: the path handed on is the path without its first field.
use Rattle.std.proofs.Common.{length}
use Rattle.paths.proofs.+walk_from.Given as goal

abbrev pub decreases-walk_from : goal.decreases-walk_from
decreases-walk_from l = length l.path.now
