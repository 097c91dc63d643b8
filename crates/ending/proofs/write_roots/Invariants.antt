-- `ending::write_roots` meets its contract: the words before w are the new words, and the others are as they were.
use mathlib.Core.Path.{◌≡◌}
use mathlib.Core.List.{map}
use lib.Seq.{paste}
use Rattle.motion.specs.Whole.{root_word}
use Rattle.ending.proofs.write_roots.Given as goal

abbrev pub invariant-loop-w : goal.invariant-loop-w
invariant-loop-w l = l.roots ≡ paste l.initial.roots 0 (map (root_word l.heap) l.initial.roots) l.w-index
