-- `undoing::undo_headers` meets its contract: the regions below i are done, and what is left of the walk along region i's chain leaves what the whole leaves.
use mathlib.Core.Path.{◌≡◌}
use Rattle.leaves.proofs.Walks.{Walking}
use Rattle.rules.specs.Memory.{link, first_link}
use Rattle.motion.specs.Whole.{undo_page, undo_headers}
use Rattle.undoing.proofs.undo_headers.Given as goal

abbrev pub invariant-loop-i : goal.invariant-loop-i
invariant-loop-i l = l.heap ≡ undo_headers l.pages.n l.pages.count l.i l.table l.initial.heap

abbrev pub invariant-loop-k : goal.invariant-loop-k
invariant-loop-k l =
    Walking link (undo_page l.pages.n) l.pages l.pages.count (first_link l.pages.n l.table l.i) l.initial.heap
    l.heap l.chain

abbrev pub decreases-loop-k : goal.decreases-loop-k
decreases-loop-k l = l.chain.left
