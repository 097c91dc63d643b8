-- `ending::own_all` meets its contract: the regions below i are done, and what is left of the walk along region j's chain leaves what the whole leaves.
use Rattle.leaves.proofs.Walks.{goes_on}
use Rattle.ending.proofs.own_all.Goals as goal

pub loop-k-preserved : goal.loop-k-preserved
loop-k-preserved c = goes_on _ _ _ _ _ _ _ _ _ _ _ c.loop-k.invariant c.in-Some.ensures c.own.ensures
