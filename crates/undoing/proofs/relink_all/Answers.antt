-- `undoing::relink_all` meets its contract: what is left of the walk along the links that the origin words have kept leaves what the whole leaves.
use Rattle.leaves.proofs.Walks.{goes_on}
use Rattle.undoing.proofs.relink_all.Goals as goal

pub loop-k-preserved : goal.loop-k-preserved
loop-k-preserved c = goes_on _ _ _ _ _ _ _ _ _ _ _ c.loop-k.invariant c.in-Some.ensures c.relink.ensures
