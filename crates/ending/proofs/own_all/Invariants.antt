-- `ending::own_all` meets its contract: the regions below i are done, and what is left of the walk along region j's chain leaves what the whole leaves.
use mathlib.Core.Path.{◌≡◌}
use Rattle.leaves.proofs.Walks.{Walking}
use Rattle.rules.specs.Memory.{link, first_link}
use Rattle.motion.specs.Whole.{own, own_all}
use Rattle.ending.proofs.own_all.Given as goal

abbrev pub invariant-loop-i : goal.invariant-loop-i
invariant-loop-i l = l.heap ≡ own_all l.pages.n l.pages.count l.i l.notes l.initial.heap

abbrev pub invariant-loop-k : goal.invariant-loop-k
invariant-loop-k l = Walking link (own l.pages.n l.j.0) l.pages l.pages.count (first_link l.pages.n l.notes l.j.0) l.initial.heap l.heap l.chain

abbrev pub decreases-loop-k : goal.decreases-loop-k
decreases-loop-k l = l.chain.left
