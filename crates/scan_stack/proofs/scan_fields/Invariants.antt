-- `scan_stack::scan_fields` meets its contract: the loop runs `each`, and a turn is what `evacuate` does.
use Prim.Native.Nat.{◌+◌, ◌-◌}
use mathlib.Core.Path.{◌≡◌}
use Rattle.laws.specs.Each.{each}
use Rattle.motion.specs.Desks.{laid, Same}
use Rattle.motion.specs.Run.{evacuate as evacuate_def}
use Rattle.scan_stack.proofs.scan_fields.Given as goal

abbrev pub invariant-loop-i : goal.invariant-loop-i
invariant-loop-i l = record {
  runs : each (l.l - l.i) (evacuate_def l.fn.desk.n) (l.x.0 + l.i) (laid l.desk) ≡ each l.l (evacuate_def l.fn.desk.n) l.x.0 (laid l.fn.desk);
  same : Same l.fn.desk l.desk;
}
