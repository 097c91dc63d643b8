-- A test says the same however it is turned: what lets a proof stand on the fact that a test tells, and not on how the test is written. It holds
-- because a test passes exactly where its fact holds.
use Prim.Native.Nat.{ℕ}
use mathlib.Core.Path.{◌≡◌, sym, ◌∙◌}
use mathlib.Core.Bool.{Bool, true, false}
use borrow.Author.Rules.{rules}
use borrow.Author.Tests.{leb-true, eqb-true, eq-eqb, not-true, not-false}
use lib.Dec.{eqb}
use Rattle.laws.proofs.Facts.{same_test}

-- finds a bound, whether the code tests it, its opposite, or the same with numbers one apart
pub ruleset turned = (rules, leb-true, not-true, not-false)

pub eqb_turned : (a b : ℕ) → eqb a b ≡ eqb b a
eqb_turned a b = same_test (eqb a b) (eqb b a) (λ t. eq-eqb b a (sym (eqb-true a b t))) (λ t. eq-eqb a b (sym (eqb-true b a t)))

-- the test t, where the code asked a call for it and the answer r says how it came out
pub told_true : {r t : Bool} → r ≡ t → r ≡ true → t ≡ true
told_true e came = sym e ∙ came

pub told_false : {r t : Bool} → r ≡ t → r ≡ false → t ≡ false
told_false e came = sym e ∙ came
