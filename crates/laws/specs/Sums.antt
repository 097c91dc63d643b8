-- Sums over a list of numbers.
use Rattle.std.specs.Prelude.{ℕ, zero, ◌+◌, List, [], ◌∷◌}

-- f summed over the list
unfoldable pub sum_over : (ℕ → ℕ) → List ℕ → ℕ
sum_over f [] = zero
sum_over f (x ∷ xs) = f x + sum_over f xs
