-- `attempting::freshen` meets its contract: the loop runs `each`, and a turn is what `fresh` does.
use Prim.Native.Nat.{◌-◌}
use mathlib.Core.Path.{◌≡◌}
use Rattle.laws.specs.Each.{each}
use Rattle.motion.specs.Desks.{laid, Same}
use Rattle.motion.specs.Whole.{fresh as fresh_def}
use Rattle.attempting.proofs.freshen.Given as goal

abbrev pub invariant-loop-j : goal.invariant-loop-j
invariant-loop-j l = record {
  runs : each (l.regions - l.j) (fresh_def l.fn.desk.n) l.j (laid l.desk) ≡ each l.regions (fresh_def l.fn.desk.n) 0 (laid l.fn.desk);
  same : Same l.fn.desk l.desk;
}
