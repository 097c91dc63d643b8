-- Words with zeros behind them: `padded m ws` has m words, and each is that of ws, 0 behind them. By recursion on both.
use Prim.Native.Nat.{ℕ, zero, suc, ◌<◌}
use mathlib.Core.Path.{◌≡◌, refl, ap}
use mathlib.Core.List.{List, [], ◌∷◌}
use native.Mathlib.Omega.{arith}
use lib.ListN.{length}
use Rattle.laws.specs.Lists.{at, padded}

pub length_padded : (m : ℕ) (ws : List ℕ) → length (padded m ws) ≡ m
unfolding padded
length_padded zero ws = refl
length_padded (suc m) [] = ap suc (length_padded m [])
length_padded (suc m) (w ∷ ws) = ap suc (length_padded m ws)

pub at_padded : (m : ℕ) (ws : List ℕ) (i : ℕ) → i < m → at (padded m ws) i ≡ at ws i
unfolding padded
at_padded zero ws i b = absurd (omega arith)
at_padded (suc m) [] zero b = refl
at_padded (suc m) [] (suc i) b = at_padded m [] i (omega arith)
at_padded (suc m) (w ∷ ws) zero b = refl
at_padded (suc m) (w ∷ ws) (suc i) b = at_padded m ws i (omega arith)
