-- `attempting::move_roots` meets its contract: the roots from the index on are still to be moved.
use mathlib.Core.Path.{◌≡◌}
use lib.ListN.{drop}
use Rattle.laws.specs.Each.{each_of}
use Rattle.motion.specs.Desks.{laid, Same}
use Rattle.motion.specs.Whole.{move_root}
use Rattle.attempting.proofs.move_roots.Given as goal

abbrev pub invariant-loop-w : goal.invariant-loop-w
invariant-loop-w l = record {
  runs : each_of (move_root l.fn.desk.n) (drop l.w-index l.roots) (laid l.desk) ≡ each_of (move_root l.fn.desk.n) l.roots (laid l.fn.desk);
  same : Same l.fn.desk l.desk;
}
