-- `writing::pages_length` meets its contract: a turn adds a page's frame, and what was added with what is left is the whole.
use Prim.Native.Nat.{◌+◌, ◌-◌, ◌*◌, ◌≤◌}
use mathlib.Core.Path.{◌≡◌}
use lib.ListN.{length}
use Rattle.rules.specs.Image.{page_frames}
use Rattle.writing.proofs.pages_length.Given as goal

abbrev pub invariant-loop-k : goal.invariant-loop-k
invariant-loop-k l =
    (l.total + length (page_frames l.n l.heap (l.pages - l.k) l.k) ≡ length (page_frames l.n l.heap l.pages 0)) × (l.total ≤ 2055 * l.k)
