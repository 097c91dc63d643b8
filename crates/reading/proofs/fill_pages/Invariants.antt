-- `reading::fill_pages` meets its contract: a turn fills the next page, and filling the pages that are left makes the whole.
use Prim.Native.Nat.{◌+◌, ◌-◌, ◌*◌, ◌^◌, ◌≤◌}
use mathlib.Core.Path.{◌≡◌}
use lib.Seq.{sets}
use Rattle.reading.specs.Parts.{pages_at}
use Rattle.reading.proofs.fill_pages.Given as goal

abbrev pub invariant-loop-k : goal.invariant-loop-k
invariant-loop-k l =
    (sets l.heap (l.k * 2 ^ l.n) (pages_at (l.pages - l.k) (2 ^ l.n) l.text l.i) ≡ sets l.initial.heap 0 (pages_at l.pages (2 ^ l.n) l.text l.from))
    × (l.i ≤ l.from + 524287 * l.k)
