-- What the program has ready to print.
use Rattle.std.specs.Prelude.{ℕ, ◌≤◌, ◌≡◌, List, ◌++◌, length, drop}
use Rattle.rules.specs.Memory.{Store}
use Rattle.rules.specs.Collection.{collect}
use Rattle.rules.specs.Image.{collected_text}

-- "The longest legal text" of an image that the program takes: a table of 64 regions, 1,024 roots, 1,024 constants, 256 pages of 16 words.
abbrev pub longest : ℕ
longest = 53084

-- the text stands at the front of the lent bytes, which else stay as they were; r is its length
pub record Printed (text before after : List ℕ) (r : ℕ) : Type 0 where
  pub bytes : after ≡ text ++ drop r before
  pub count : r ≡ length text
  pub fits : r ≤ length after

-- what is printed of a heap that was read
abbrev pub collected_from : Store → List ℕ
collected_from s = collected_text (collect s) (collect s).answer
