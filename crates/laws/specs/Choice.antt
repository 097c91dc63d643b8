-- Tests in order: `test ⇒ answer ∣ rest` is the answer where the test holds, and else the rest.
use Rattle.std.specs.Prelude.{Bool, true, false}

infixr 20 ◌⇒◌∣◌
abbrev pub ◌⇒◌∣◌ : {A : Type 0} → Bool → A → A → A
true ⇒ a ∣ b = a
false ⇒ a ∣ b = b
