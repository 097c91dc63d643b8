-- `ending::give_all` meets its contract: the regions below i are done, and what is left of the walk along region i's chain leaves what the whole leaves.
use mathlib.Core.Path.{◌≡◌}
use Rattle.leaves.proofs.Walks.{Walking}
use Rattle.rules.specs.Memory.{first_link}
use Rattle.motion.specs.Leaves.{desk}
use Rattle.motion.specs.Whole.{link_on, give_back, give_all}
use Rattle.ending.proofs.give_all.Given as goal

abbrev pub invariant-loop-i : goal.invariant-loop-i
invariant-loop-i l = desk l.heap l.notes ≡ give_all l.pages.n l.pages.count l.i l.table (desk l.initial.heap l.initial.notes)

abbrev pub invariant-loop-k : goal.invariant-loop-k
invariant-loop-k l =
    Walking link_on (give_back l.pages.n) l.pages l.pages.count (first_link l.pages.n l.table l.i) (desk l.initial.heap l.initial.notes)
    (desk l.heap l.notes) l.chain

abbrev pub decreases-loop-k : goal.decreases-loop-k
decreases-loop-k l = l.chain.left
