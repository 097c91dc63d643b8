-- What holds on both ways of a test holds of the choice, and of two choices by the same test; and a choice that is not one way's is the
-- other's. By the two cases of the test.
use mathlib.Core.Bool.{Bool, true, false}
use mathlib.Core.Path.{◌≡◌, refl}
use Rattle.laws.specs.Choice.{◌⇒◌∣◌}

-- each way with what the test says
pub choice_keeps : {A : Type 0} (P : A → Type 0) (b : Bool) (x y : A) → (b ≡ true → P x) → (b ≡ false → P y) → P (b ⇒ x ∣ y)
choice_keeps P true x y f g = f refl
choice_keeps P false x y f g = g refl

-- the first ways agree and the second ways agree
pub choices_agree : {A B : Type 0} (P : A → B → Type 0) (b : Bool) {x x' : A} {y y' : B} → P x y → P x' y' → P (b ⇒ x ∣ x') (b ⇒ y ∣ y')
choices_agree P true p q = p
choices_agree P false p q = q

-- what is chosen says how the test went
pub first_chosen : {A : Type 0} (b : Bool) {x y z : A} → x ≡ (b ⇒ y ∣ z) → (x ≡ z → ⊥) → (b ≡ true) × (x ≡ y)
first_chosen true e ne = (refl, e)
first_chosen false e ne = absurd (ne e)

pub second_chosen : {A : Type 0} (b : Bool) {x y z : A} → x ≡ (b ⇒ y ∣ z) → (x ≡ y → ⊥) → (b ≡ false) × (x ≡ z)
second_chosen true e ne = absurd (ne e)
second_chosen false e ne = (refl, e)
