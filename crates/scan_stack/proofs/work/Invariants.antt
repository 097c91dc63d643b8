-- `scan_stack::work` meets its contract: the loop runs the definition's, and a turn is what `one_step` does.
use Prim.Native.Nat.{◌-◌}
use mathlib.Core.Path.{◌≡◌}
use Rattle.motion.specs.Leaves.{Fitting}
use Rattle.motion.specs.Desks.{laid, Same}
use Rattle.motion.specs.Run.{scanning, work as work_def}
use Rattle.scan_stack.proofs.work.Given as goal

abbrev pub invariant-loop : goal.invariant-loop
invariant-loop l = record {
  runs :
      work_def l.fn.desk.n (l.fuel - l.counter) (scanning l.at.region.0 l.at.address.0 (laid l.desk)) ≡
      work_def l.fn.desk.n l.fuel (scanning l.fn.first.region.0 l.fn.first.address.0 (laid l.fn.desk));
  fitting : Fitting l.at;
  same : Same l.fn.desk l.desk;
}
