-- `undoing::undo_headers` meets its contract: the regions below i are done, and what is left of the walk along region i's chain leaves what the whole leaves.
use Rattle.leaves.proofs.Walks.{goes_on}
use Rattle.undoing.proofs.undo_headers.Goals as goal

pub loop-k-preserved : goal.loop-k-preserved
loop-k-preserved c = goes_on _ _ _ _ _ _ _ _ _ _ _ c.loop-k.invariant c.in-Some.ensures c.undo_page.ensures
