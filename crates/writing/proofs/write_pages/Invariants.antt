-- `writing::write_pages` meets its contract: a turn writes the next page's frame, and writing the frames that are left makes the whole.
use Prim.Native.Nat.{◌+◌, ◌-◌, ◌≤◌}
use mathlib.Core.Path.{◌≡◌}
use lib.ListN.{length}
use lib.Seq.{sets}
use Rattle.rules.specs.Image.{page_frames}
use Rattle.writing.proofs.write_pages.Given as goal

abbrev pub invariant-loop-k : goal.invariant-loop-k
invariant-loop-k l =
    (sets l.bytes l.i (page_frames l.n l.heap (l.pages - l.k) l.k) ≡ sets l.initial.bytes l.at (page_frames l.n l.heap l.pages 0))
    × (l.i + length (page_frames l.n l.heap (l.pages - l.k) l.k) ≤ length l.bytes)
