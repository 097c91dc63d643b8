-- Sums over lists of numbers: where two functions agree, over two lists, and of ones. By recursion on the list.
use Prim.Native.Nat.{ℕ, ◌+◌}
use native.Mathlib.Omega.{arith}
use mathlib.Core.Path.{◌≡◌, refl, ap}
use mathlib.Core.List.{List, [], ◌∷◌, ◌++◌, map, sum, Memᴰ}
use lib.ListN.{length}
use Rattle.laws.specs.Sums.{sum_over}

-- the kit's word for it
pub sum_over_lem : (f : ℕ → ℕ) (xs : List ℕ) → sum_over f xs ≡ sum ◌+◌ 0 (map f xs)
unfolding sum_over sum
sum_over_lem f [] = refl
sum_over_lem f (x ∷ xs) = ap (λ r. f x + r) (sum_over_lem f xs)

pub sum_same : (f g : ℕ → ℕ) (xs : List ℕ) → ((x : ℕ) → Memᴰ x xs → f x ≡ g x) → sum_over f xs ≡ sum_over g xs
unfolding sum_over
sum_same f g [] e = refl
sum_same f g (x ∷ xs) e = rw (e x (Memᴰ.head refl), sum_same f g xs (λ y m. e y (Memᴰ.tail m)))

pub sum_append : (f : ℕ → ℕ) (xs ys : List ℕ) → sum_over f (xs ++ ys) ≡ sum_over f xs + sum_over f ys
unfolding sum_over
sum_append f [] ys = omega arith
sum_append f (x ∷ xs) ys = rw (sum_append f xs ys) (omega arith)

pub sum_ones : (xs : List ℕ) → sum_over (λ x. 1) xs ≡ length xs
unfolding sum_over
sum_ones [] = refl
sum_ones (x ∷ xs) = let e = sum_ones xs in omega arith
