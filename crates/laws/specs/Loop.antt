-- One recursion for every loop: a turn goes on with a next state, or is over with an answer; when the fuel is used up, `last` answers.
use Rattle.std.specs.Prelude.{ℕ, zero, suc}

pub data Turn (S R : Type 0) : Type 0 where
  more : S → Turn S R
  over : R → Turn S R

abbrev pub on_turn : {S R A : Type 0} → Turn S R → (S → A) → (R → A) → A
on_turn (more s) f g = f s
on_turn (over r) f g = g r

unfoldable pub loop : {S R : Type 0} → ℕ → (S → Turn S R) → (S → R) → S → R
loop zero turn last s = last s
loop (suc fuel) turn last s = on_turn (turn s) (λ s'. loop fuel turn last s') (λ r. r)
