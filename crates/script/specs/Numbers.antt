-- The numbers that tokens spell.
use Rattle.std.specs.Prelude.{ℕ, ◌+◌, ◌-◌, ◌*◌, ◌^◌, min, ℤ, pos, neg_ℤ, Bool, false, List, [], ◌∷◌, Option, Some, None, if◌then◌else◌, ltb, eqb}
use Rattle.std.specs.Option.{option_map}

-- a digit's value, in lower case
unfoldable pub digit_value : ℕ → Option ℕ
digit_value b =
    if ltb b 48 then None else if ltb b 58 then Some (b - 48) else if ltb b 97 then None else if ltb b 103 then Some (b - 87) else None

-- it stands for every number that is larger
abbrev pub large : ℕ
large = 2 ^ 32

-- the number that digits of a base give after those that gave x, and nothing where a byte is no digit of it
unfoldable pub number_from : ℕ → ℕ → List ℕ → Option ℕ
number_from base x [] = Some x
number_from base x (b ∷ rest) = elim (digit_value b) [
  | None ↦ None
  | Some d ↦ if ltb d base then number_from base (min large (x * base + d)) rest else None
]

-- of at least one digit
unfoldable pub number_of : ℕ → List ℕ → Option ℕ
number_of base [] = None
number_of base (b ∷ rest) = number_from base 0 (b ∷ rest)

abbrev pub decimal_of : List ℕ → Option ℕ
decimal_of token = number_of 10 token

-- a number of 32 bits, and nothing where it has more
unfoldable pub of_32_bits : Option ℕ → Option ℕ
of_32_bits None = None
of_32_bits (Some x) = if ltb x (2 ^ 32) then Some x else None

abbrev pub small_of : List ℕ → Option ℕ
small_of token = of_32_bits (decimal_of token)

-- a minus sign, or none, and a decimal
unfoldable pub signed_of : List ℕ → Option ℤ
signed_of [] = None
signed_of (b ∷ rest) =
    if eqb b 45 then option_map (λ x. neg_ℤ (pos x)) (decimal_of rest) else option_map pos (decimal_of (b ∷ rest))

-- a zero, and something behind it
unfoldable pub padded_by_zero : List ℕ → Bool
padded_by_zero [] = false
padded_by_zero (b ∷ []) = false
padded_by_zero (b ∷ c ∷ rest) = eqb b 48

unfoldable pub word_of : List ℕ → Option ℕ
word_of token = if padded_by_zero token then None else of_32_bits (number_of 16 token)

-- two digits, the high one first
unfoldable pub byte_of : ℕ → ℕ → Option ℕ
byte_of high low = elim (digit_value high) [ None ↦ None | Some h ↦ option_map (λ l. h * 16 + l) (digit_value low) ]
