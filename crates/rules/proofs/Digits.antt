-- A byte's value by the range that the byte lies in, and digits there and back: a digit is a byte of one of two ranges, and each range
-- is the values moved on by a constant.
use Prim.Native.Nat.{ℕ, ◌+◌, ◌-◌, ◌≤◌, ◌<◌}
use mathlib.Core.Path.{◌≡◌, sym, ◌∙◌}
use mathlib.Core.Option.{none, some, none-ne-some}
use native.Mathlib.Omega.{arith}
use native.Mathlib.Decide.{dec_lt}
use borrow.Author.Tests.{lt-ltb, le-ltb}
use Rattle.rules.specs.Image.{digit_of, value_of}

-- ---- a byte's value

module _ (b : ℕ) where
  pub below_digits : b < 48 → value_of b ≡ none
  unfolding value_of
  below_digits h = rw (lt-ltb b 48 h)

  pub a_digit : 48 ≤ b → b < 58 → value_of b ≡ some (b - 48)
  unfolding value_of
  a_digit l h = rw (le-ltb b 48 l, lt-ltb b 58 h)

  pub between_digits : 58 ≤ b → b < 97 → value_of b ≡ none
  unfolding value_of
  between_digits l h = rw (le-ltb b 48 (omega arith), le-ltb b 58 l, lt-ltb b 97 h)

  pub a_letter : 97 ≤ b → b < 103 → value_of b ≡ some (b - 87)
  unfolding value_of
  a_letter l h = rw (le-ltb b 48 (omega arith), le-ltb b 58 (omega arith), le-ltb b 97 l, lt-ltb b 103 h)

  pub above_digits : 103 ≤ b → value_of b ≡ none
  unfolding value_of
  above_digits l = rw (le-ltb b 48 (omega arith), le-ltb b 58 (omega arith), le-ltb b 97 (omega arith), le-ltb b 103 l)

-- ---- there and back

pub value_digit : (d : ℕ) → d < 16 → value_of (digit_of d) ≡ some d
unfolding digit_of
value_digit d b = go (dec_lt d 10)
  where
    go : Dec (d < 10) → value_of (digit_of d) ≡ some d
    go (yes l) =
        let q : 48 + d - 48 ≡ d = omega arith in
        rw (lt-ltb d 10 l, a_digit (48 + d) (omega arith) (omega arith), q)
    go (no f) =
        let q : 87 + d - 87 ≡ d = omega arith in
        rw (le-ltb d 10 (omega arith), a_letter (87 + d) (omega arith) (omega arith), q)

-- a byte that has a value is that value's digit
pub digit_value_lem : (b d : ℕ) → value_of b ≡ some d → (b ≡ digit_of d) × (d < 16)
unfolding digit_of
digit_value_lem b d e = go (dec_lt b 48) (dec_lt b 58) (dec_lt b 97) (dec_lt b 103)
  where
    none_there : value_of b ≡ none → (b ≡ digit_of d) × (d < 16)
    none_there q = absurd (none-ne-some _ (sym q ∙ e))

    go : Dec (b < 48) → Dec (b < 58) → Dec (b < 97) → Dec (b < 103) → (b ≡ digit_of d) × (d < 16)
    go (yes w) x y z = none_there (below_digits b w)
    go (no w) (yes x) y z =
        let s : some (b - 48) ≡ some d = sym (a_digit b (omega arith) x) ∙ e in
        let q : b - 48 ≡ d = cc in
        (rw (lt-ltb d 10 (omega arith)) (omega arith), omega arith)
    go (no w) (no x) (yes y) z = none_there (between_digits b (omega arith) y)
    go (no w) (no x) (no y) (yes z) =
        let s : some (b - 87) ≡ some d = sym (a_letter b (omega arith) z) ∙ e in
        let q : b - 87 ≡ d = cc in
        (rw (le-ltb d 10 (omega arith)) (omega arith), omega arith)
    go (no w) (no x) (no y) (no z) = none_there (above_digits b (omega arith))
