-- `undoing::undo_page` meets its contract: the loop runs the definition's, and a turn is what `undo_value` does.
use Prim.Native.Nat.{◌-◌}
use mathlib.Core.Path.{◌≡◌}
use Rattle.laws.specs.Each.{after}
use Rattle.motion.specs.Whole.{undo_vals, undo_page}
use Rattle.undoing.proofs.undo_page.Given as goal

abbrev pub invariant-loop : goal.invariant-loop
invariant-loop l = undo_vals (l.end - l.counter) l.past.0 (after l.x.0 l.heap) ≡ undo_page l.n l.fn.k.0 l.initial.heap
