-- The desk of the code, as the definitions see it: they take the page exponent by itself.
use Rattle.std.specs.Prelude.{◌≡◌, length}
use Rattle.motion.specs.declared.Desk as Code
use Rattle.motion.specs.Leaves.{Desk, desk}

-- what lies on it
abbrev pub laid : Code.Desk → Desk
laid d = desk d.heap.now d.notes.now

-- it is the same desk, whatever was written there
pub record Same (d d' : Code.Desk) : Type 0 where
  pub exponent : d'.n ≡ d.n
  pub heap : d'.heap.ghost_name ≡ d.heap.ghost_name
  pub notes : d'.notes.ghost_name ≡ d.notes.ghost_name
  pub heap_words : length d'.heap.now ≡ length d.heap.now
  pub note_words : length d'.notes.now ≡ length d.notes.now
