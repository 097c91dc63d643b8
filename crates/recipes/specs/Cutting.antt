-- The parts of a text that stand round its bars, and before its first space.
use Rattle.std.specs.Prelude.{ℕ, List, ◌==◌}
use Rattle.std.specs.List.{before_first, after_first}

-- what stands before the first bar, or the whole text
abbrev pub before_bar : List ℕ → List ℕ
before_bar = before_first (λ b. b == 124)

-- what stands behind the first bar, or nothing
abbrev pub behind_bar : List ℕ → List ℕ
behind_bar = after_first (λ b. b == 124)

-- the word before the first space, or the whole text
abbrev pub first_word : List ℕ → List ℕ
first_word = before_first (λ b. b == 32)
