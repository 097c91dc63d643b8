-- Digits and numbers by places: whether a byte is a digit, and one turn of reading a number. A number of m digits is below 16 ^ m,
-- since each digit is below 16.
use Prim.Native.Nat.{ℕ, zero, suc, ◌+◌, ◌-◌, ◌*◌, ◌^◌, ◌≤◌, ◌<◌}
use mathlib.Core.Path.{◌≡◌, refl, ap}
use mathlib.Core.Bool.{Bool, true, false}
use mathlib.Core.Option.{Option, none, some}
use mathlib.Core.List.{List}
use native.Mathlib.Nat.{pow-succ', mul-le-mul_right, mul-le-mul_left, mul_assoc, mul-one, one-le-pow}
use native.Mathlib.Numerals.{sub-one}
use native.Mathlib.Omega.{arith}
use Rattle.std.specs.Prelude.{IsTrue, ◌↔◌}
use Rattle.laws.proofs.Facts.{same_test, from_of}
use Rattle.laws.proofs.Tests.{from_in}
use Rattle.laws.specs.Lists.{at}
use Rattle.rules.specs.Image.{value_of}
use Rattle.rules.proofs.Digits.{digit_value_lem}
use Rattle.scanning.specs.Places.{digit, is_digit, digit_value, all_digits, number_at}

-- ---- a byte

module _ (b : ℕ) where
  pub no_digit : value_of b ≡ none → (is_digit b ≡ false) × (digit_value b ≡ 0)
  unfolding digit
  no_digit e = rw (digit, e) (refl, refl)

  pub has_value : (d : ℕ) → value_of b ≡ some d → (is_digit b ≡ true) × (digit_value b ≡ d)
  unfolding digit
  has_value d e = rw (digit, e) (refl, refl)

-- digits from a place on, as what each place holds
pub all_told : (m from : ℕ) (text : List ℕ) (r : Bool) → (IsTrue r ↔ ((k : ℕ) → from ≤ k → k < from + m → is_digit (at text k) ≡ true))
    → r ≡ all_digits m text from
all_told m from text r h = same_test r (all_digits m text from) (λ t. from_of _ m from (h.0 t)) (λ t. h.1 (from_in _ m from t))

-- ---- a number

pub number_turn : (m v : ℕ) (text : List ℕ) (i d : ℕ) → 0 < m → d ≡ digit_value (at text i) → number_at m v text i ≡ number_at (m - 1) (16 * v + d) text (i + 1)
unfolding number_at
number_turn m v text i d l e = let q : m ≡ suc (m - 1) = omega arith in rw e (ap (λ k. number_at k v text i) q)

pub number_end : (m v : ℕ) (text : List ℕ) (i : ℕ) → m ≤ 0 → number_at m v text i ≡ v
unfolding number_at
number_end m v text i b = let q : m ≡ 0 = omega arith in rw q

-- a number with room for m more digits below the bound: what one digit leaves
pub number_room : (m v d bound : ℕ) → 0 < m → d < 16 → (v + 1) * 16 ^ m ≤ bound → ((16 * v + d + 1) * 16 ^ (m - 1) ≤ bound) × (16 * v + d < bound)
number_room zero v d bound l b h = absurd (omega arith)
number_room (suc m) v d bound l b h = rw sub-one (fits, below)
  where
    here : (v + 1) * 16 ^ suc m ≡ (16 * v + 16) * 16 ^ m
    here = rw (pow-succ' 16 m, ← mul_assoc (v + 1) 16 (16 ^ m)) (ap (λ k. k * 16 ^ m) (omega arith))

    more : (16 * v + d + 1) * 16 ^ m ≤ (16 * v + 16) * 16 ^ m
    more = mul-le-mul_right (16 ^ m) (omega arith)

    fits : (16 * v + d + 1) * 16 ^ m ≤ bound
    fits = omega (arith, here, more)

    below : 16 * v + d < bound
    below = omega (arith, fits, mul-le-mul_left (16 * v + d + 1) (one-le-pow m 16 (omega arith)), mul-one (16 * v + d + 1))

pub number_whole : (m v bound : ℕ) → m ≤ 0 → (v + 1) * 16 ^ m ≤ bound → v < bound
number_whole m v bound b h = let q : m ≡ 0 = omega arith in omega (arith, mul-one (v + 1), ap (λ k. (v + 1) * 16 ^ k) q)

-- ---- bounds

pub digit_small : (b : ℕ) → digit_value b < 16
digit_small b = go (value_of b) refl
  where
    go : (o : Option ℕ) → value_of b ≡ o → digit_value b < 16
    go none e = omega (arith, (no_digit b e).1)
    go (some d) e = omega (arith, (has_value b d e).1, (digit_value_lem b d e).1)

pub number_bound : (m v : ℕ) (text : List ℕ) (i bound : ℕ) → (v + 1) * 16 ^ m ≤ bound → number_at m v text i < bound
unfolding number_at
number_bound zero v text i bound h = number_whole 0 v bound (omega arith) h
number_bound (suc m) v text i bound h =
    let q : suc m - 1 ≡ m = omega arith in
    number_bound m (16 * v + digit_value (at text i)) text (i + 1) bound
    (rw q at (number_room (suc m) v (digit_value (at text i)) bound (omega arith) (digit_small (at text i)) h).0)
