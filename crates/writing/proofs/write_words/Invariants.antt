-- `writing::write_words` meets its contract: a turn stores the next word's digits, and storing the words that are left makes the whole.
use Prim.Native.Nat.{◌+◌, ◌*◌}
use mathlib.Core.Path.{◌≡◌}
use lib.ListN.{drop}
use lib.Seq.{sets}
use Rattle.rules.specs.Image.{hex_words}
use Rattle.writing.proofs.write_words.Given as goal

abbrev pub invariant-loop-i : goal.invariant-loop-i
invariant-loop-i l = sets l.bytes (l.at + 8 * l.i) (hex_words (drop l.i l.words)) ≡ sets l.initial.bytes l.at (hex_words l.words)
