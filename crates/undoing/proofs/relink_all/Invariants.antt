-- `undoing::relink_all` meets its contract: what is left of the walk along the links that the origin words have kept leaves what the whole leaves.
use Rattle.leaves.proofs.Walks.{Walking}
use Rattle.rules.specs.Memory.{origin}
use Rattle.motion.specs.Whole.{relink}
use Rattle.undoing.proofs.relink_all.Given as goal

abbrev pub invariant-loop-k : goal.invariant-loop-k
invariant-loop-k l = Walking origin (relink l.pages.n) l.pages l.taken l.first l.initial.heap l.heap l.chain

abbrev pub decreases-loop-k : goal.decreases-loop-k
decreases-loop-k l = l.chain.left
