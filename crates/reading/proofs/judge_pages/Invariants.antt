-- `reading::judge_pages` meets its contract: a turn passes one page's frame, and the frames that are left decide as the whole does.
use Prim.Native.Nat.{◌+◌, ◌-◌, ◌*◌, ◌≤◌}
use mathlib.Core.Path.{◌≡◌}
use lib.ListN.{drop, replicate}
use Rattle.rules.specs.Image.{expected, read_frames}
use Rattle.reading.specs.Parts.{rest_of}
use Rattle.reading.proofs.judge_pages.Given as goal

abbrev pub invariant-loop : goal.invariant-loop
invariant-loop l =
    (rest_of (read_frames l.here.line (replicate (l.pages - l.counter) (expected 5 l.most)) (drop l.here.at l.text))
    ≡ rest_of (read_frames l.initial.here.line (replicate l.pages (expected 5 l.most)) (drop l.initial.here.at l.text)))
    × (l.here.at ≤ l.initial.here.at + 524287 * l.counter) × (l.here.line ≡ l.initial.here.line + l.counter)
