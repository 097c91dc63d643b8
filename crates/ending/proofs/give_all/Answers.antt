-- `ending::give_all` meets its contract: the regions below i are done, and what is left of the walk along region i's chain leaves what the whole leaves.
use Rattle.leaves.proofs.Walks.{goes_on, arrives, region_done}
use Rattle.ending.proofs.give_all.Goals as goal

pub loop-k-preserved : goal.loop-k-preserved
loop-k-preserved c = goes_on _ _ _ _ _ _ _ _ _ _ _ c.loop-k.invariant c.in-Some.ensures c.give_back.ensures

pub loop-i-preserved : goal.loop-i-preserved
loop-i-preserved c = region_done _ _ _ _ _ c.loop-i.invariant (arrives _ _ _ _ _ _ _ _ c.loop-k.invariant c.in_default.ensures.1)
