-- Numbers digit by digit: one turn of reading a number, and where it stops. Each is one step of the definition, at the byte that comes next.
use Rattle.std.specs.Prelude.{◌≡◌, ◌==◌, ◌&&◌, Bool, true, false, ℕ, pos, neg_ℤ, eqb, take, ◌+◌, ◌*◌, ◌<◌, ◌≤◌, min, List, [], ◌∷◌, length, drop, get_or, Some, None}
use Rattle.std.proofs.Common.{refl, ap, sym, ◌∙◌, drop-cons, add-one, arith}
use mathlib.Core.Bool.{true≢false, false≢true, and-eq-true_iff}
use Rattle.std.proofs.lemmas.List.{drop_all}
use borrow.Author.Tests.{lt-ltb, le-ltb, le-leb, lt-leb, eq-eqb, ne_eqb}
use Rattle.script.specs.Numbers.{digit_value, large, number_from, number_of, decimal_of, signed_of}
use Rattle.std.specs.Option.{option_map}
use lib.Pointwise.{pointwise}

-- what turns the tests of a definition into the tests that the code made
pub ruleset tests = (lt-ltb, le-ltb, le-leb, lt-leb, eq-eqb, ne_eqb)

module _ (base x : ℕ) (s : List ℕ) (i : ℕ) (l : i < length s) where
  pub number_turn : (d : ℕ) → Some d ≡ digit_value (get_or s i 0) → d < base
      → number_from base x (drop i s) ≡ number_from base (min large (x * base + d)) (drop (i + 1) s)
  unfolding number_from
  number_turn d e b = rw (add-one i, drop-cons s i 0 l, number_from, ← e, lt-ltb d base b) refl

  pub number_without : None ≡ digit_value (get_or s i 0) → number_from base x (drop i s) ≡ None
  unfolding number_from
  number_without e = rw (drop-cons s i 0 l, number_from, ← e) refl

  pub number_beyond : (d : ℕ) → Some d ≡ digit_value (get_or s i 0) → base ≤ d → number_from base x (drop i s) ≡ None
  unfolding number_from
  number_beyond d e b = rw (drop-cons s i 0 l, number_from, ← e, le-ltb d base b) refl

module _ (base : ℕ) where
  pub number_of_none : (s : List ℕ) → (length s == 0) ≡ true → number_of base s ≡ None
  unfolding number_of
  number_of_none [] e = refl
  number_of_none (b ∷ s) e = grind (arith, e)

  pub number_of_some : (s : List ℕ) → (length s == 0) ≡ false → number_of base s ≡ number_from base 0 s
  unfolding number_of
  number_of_some [] e = absurd (true≢false e)
  number_of_some (b ∷ s) e = refl

  pub number_end : (x : ℕ) (s : List ℕ) (i : ℕ) → length s ≤ i → number_from base x (drop i s) ≡ Some x
  unfolding number_from
  number_end x s i l = rw (drop_all i s l) refl

-- ---- a sign

pub signed_negative : (s rest : List ℕ) → pointwise eqb (take 1 s) (45 ∷ []) ≡ true → rest ≡ drop 1 s
    → signed_of s ≡ option_map (λ x. neg_ℤ (pos x)) (decimal_of rest)
unfolding signed_of
signed_negative [] rest e q = absurd (false≢true e)
signed_negative (b ∷ s) rest e q =
    let t : eqb b 45 ≡ true = ((and-eq-true_iff (eqb b 45) true).0 e).0 in
    rw (t, q) refl

pub signed_positive : (s : List ℕ) → pointwise eqb (take 1 s) (45 ∷ []) ≡ false → signed_of s ≡ option_map pos (decimal_of s)
unfolding signed_of number_of
signed_positive [] e = refl
signed_positive (b ∷ s) e = go (eqb b 45) refl
  where
    go : (t : Bool) → eqb b 45 ≡ t → signed_of (b ∷ s) ≡ option_map pos (decimal_of (b ∷ s))
    go true h = absurd (true≢false (sym (ap (λ t. t && true) h) ∙ e))
    go false h = rw h refl
