-- The test that a chain of iterators makes of all words is the test for zeros: both test one word, and then the others.
use mathlib.Core.Path.{◌≡◌, refl, sym}
use Prim.Native.Nat.{ℕ}
use mathlib.Core.List.{List, [], ◌∷◌}
use Rattle.std.specs.List.{list_all}
use lib.Dec.{eqb}
use Rattle.laws.specs.Lists.{zeros}
use Rattle.laws.proofs.Tests.{then_and}

pub zeros_tested : (ws : List ℕ) → list_all (λ w. eqb w 0) ws ≡ zeros ws
unfolding zeros
zeros_tested [] = refl
zeros_tested (w ∷ ws) = rw (zeros_tested ws) (sym (then_and (eqb w 0) (zeros ws)))
