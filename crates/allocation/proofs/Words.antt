-- The test that a chain of iterators makes of all words is the test of a definition: both test one word, and then the others.
use mathlib.Core.Path.{◌≡◌, refl, sym}
use mathlib.Core.Bool.{Bool}
use mathlib.Core.List.{List, [], ◌∷◌}
use Rattle.std.specs.List.{list_all}
use Rattle.laws.specs.Lists.{all}
use Rattle.laws.proofs.Tests.{then_and}

pub all_tested : {A : Type 0} (p : A → Bool) (xs : List A) → list_all p xs ≡ all p xs
unfolding all
all_tested p [] = refl
all_tested p (x ∷ xs) = rw (all_tested p xs) (sym (then_and (p x) (all p xs)))
