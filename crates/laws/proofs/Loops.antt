-- The laws of `loop`: one turn more, a turn that ends it, no fuel left.
-- They hold because `loop` is one recursion on its fuel.
use Prim.Native.Nat.{ℕ, zero, suc, ◌-◌, ◌<◌, ◌≤◌}
use mathlib.Core.Path.{◌≡◌, refl}
use native.Mathlib.Omega.{arith}
use native.Mathlib.Numerals.{sub-one}
use Rattle.laws.specs.Loop.{Turn, more, over, loop}

module _ {S R : Type 0} where
  pub loop_more : (f : ℕ) (turn : S → Turn S R) (last : S → R) (s s' : S) → 0 < f → turn s ≡ more s' → loop f turn last s ≡ loop (f - 1) turn last s'
  unfolding loop
  loop_more zero turn last s s' l e = absurd (omega arith)
  loop_more (suc f) turn last s s' l e = rw (sub-one (suc f), e)

  pub loop_over : (f : ℕ) (turn : S → Turn S R) (last : S → R) (s : S) (r : R) → 0 < f → turn s ≡ over r → loop f turn last s ≡ r
  unfolding loop
  loop_over zero turn last s r l e = absurd (omega arith)
  loop_over (suc f) turn last s r l e = rw e

  pub loop_end : (f : ℕ) (turn : S → Turn S R) (last : S → R) (s : S) → f ≤ 0 → loop f turn last s ≡ last s
  unfolding loop
  loop_end zero turn last s l = refl
  loop_end (suc f) turn last s l = absurd (omega arith)
