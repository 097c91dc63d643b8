-- `reading::fill_part` meets its contract: a turn stores the next word, and storing the words that are left makes the whole.
use Prim.Native.Nat.{◌+◌}
use mathlib.Core.Path.{◌≡◌}
use lib.ListN.{length, drop}
use lib.Seq.{sets}
use Rattle.laws.specs.Lists.{padded}
use Rattle.scanning.specs.Places.{words_at}
use Rattle.reading.proofs.fill_part.Given as goal

abbrev pub invariant-loop-i : goal.invariant-loop-i
invariant-loop-i l =
    sets l.part l.i (drop l.i (padded (length l.initial.part) (words_at l.count l.text (l.from + 6))))
    ≡ sets l.initial.part 0 (padded (length l.initial.part) (words_at l.count l.text (l.from + 6)))
