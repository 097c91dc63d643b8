-- `samples::census::Census::values` is safe and ends: the address grows up to the page's end.
use Rattle.std.proofs.Common.{◌-◌}
use Rattle.samples.proofs.census.Census.values.Given as goal

abbrev pub decreases-loop-at : goal.decreases-loop-at
decreases-loop-at l = l.end.0 - l.at.0
