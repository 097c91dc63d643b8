-- `fields::records_pass` meets its contract: at each of the four levels what is left to test, with what the outer levels have left, is the whole test.
use mathlib.Core.Path.{◌≡◌}
use mathlib.Core.Bool.{◌&&◌}
use Prim.Native.Nat.{◌+◌, ◌-◌}
use lib.ListN.{length, get_or}
use lib.Seq.{slice}
use Rattle.laws.specs.Lists.{all}
use Rattle.rules.specs.Memory.{chain}
use Rattle.rules.specs.Words.{vals_in, fields_pass}
use Rattle.rules.specs.Audit.{page_pass}
use Rattle.fields.proofs.Turns.{Records}
use Rattle.fields.proofs.records_pass.Given as goal

abbrev pub invariant-loop-w : goal.invariant-loop-w
invariant-loop-w g l = (all g.p (slice l.w-index (length l.w-items) l.w-items) && (all (fields_pass g.p) (vals_in l.heap l.next.0 l.end.0) && (all (page_pass g.p l.n l.heap) (chain (l.pages - l.counter - 1) l.n l.heap (get_or l.heap l.base.0 0)) && Records g.p l.n l.heap l.table (l.below - l.j - 1) (l.j + 1)))) ≡ Records g.p l.n l.heap l.table l.below 0

abbrev pub invariant-values : goal.invariant-values
invariant-values g l = (all (fields_pass g.p) (vals_in l.heap l.at.0 l.end.0) && (all (page_pass g.p l.n l.heap) (chain (l.pages - l.counter - 1) l.n l.heap (get_or l.heap l.base.0 0)) && Records g.p l.n l.heap l.table (l.below - l.j - 1) (l.j + 1))) ≡ Records g.p l.n l.heap l.table l.below 0

abbrev pub decreases-values : goal.decreases-values
decreases-values g l = l.end.0 - l.at.0

abbrev pub invariant-pages : goal.invariant-pages
invariant-pages g l = (all (page_pass g.p l.n l.heap) (chain (l.pages - l.counter) l.n l.heap l.link) && Records g.p l.n l.heap l.table (l.below - l.j - 1) (l.j + 1)) ≡ Records g.p l.n l.heap l.table l.below 0

abbrev pub invariant-loop-j : goal.invariant-loop-j
invariant-loop-j g l = Records g.p l.n l.heap l.table (l.below - l.j) l.j ≡ Records g.p l.n l.heap l.table l.below 0
