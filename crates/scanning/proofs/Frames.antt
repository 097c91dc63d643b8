-- The frames of document 01, by places: reading digits, words or a frame from the bytes at a place gives what stands at that place, or
-- nothing. By recursion on the number of digits and of words.
use Prim.Native.Nat.{ℕ, zero, suc, ◌+◌, ◌-◌, ◌*◌, ◌≤◌, ◌<◌}
use mathlib.Core.Path.{◌≡◌, refl, ap, ◌∙◌}
use mathlib.Core.Bool.{Bool, true, false, ◌&&◌, not}
use mathlib.Core.Option.{Option, none, some}
use mathlib.Core.List.{List}
use native.Mathlib.Nat.{add-zero}
use native.Mathlib.Numerals.{add-one}
use native.Mathlib.Omega.{arith}
use native.Mathlib.Decide.{dec_lt}
use borrow.Author.Tests.{le-leb, lt-leb}
use lib.Dec.{eqb}
use lib.ListN.{length, drop, drop_of_length-le, get_or-eq_default}
use lib.Seq.{drop-cons}
use Rattle.laws.specs.Choice.{◌⇒◌∣◌}
use Rattle.laws.specs.Lists.{at, all_from}
use Rattle.laws.proofs.Tests.{from_add, from_end}
use Rattle.rules.specs.Image.{value_of, digits, words, end_frame, read_words, read_frame, trimmed, part_fits}
use Rattle.scanning.specs.Places.{is_digit, all_digits, number_at, words_at, count_at, words_of, after_frame, frame_shape, frame_fits}
use Rattle.rules.proofs.Digits.{below_digits}
use Rattle.scanning.proofs.Digits.{no_digit, has_value}

-- ---- digits

abbrev found : {A : Type 0} → Bool → A → List ℕ → Option (A × List ℕ)
found b x rest = b ⇒ some (x, rest) ∣ none

pub digits_at : (m v : ℕ) (text : List ℕ) (i : ℕ) → digits m v (drop i text) ≡ found (all_digits m text i) (number_at m v text i) (drop (i + m) text)
unfolding digits number_at all_from
digits_at zero v text i = rw add-zero
digits_at (suc m) v text i = go (dec_lt i (length text)) (λ w. digits_at m w text (i + 1))
  where
    inside : i < length text → (o : Option ℕ) → value_of (at text i) ≡ o → ((w : ℕ) → digits m w (drop (i + 1) text) ≡ found (all_digits m text (i + 1)) (number_at m w text (i + 1)) (drop (i + 1 + m) text))
        → digits (suc m) v (drop i text) ≡ found (all_digits (suc m) text i) (number_at (suc m) v text i) (drop (i + suc m) text)
    inside l none e r = rw (drop-cons text i 0 l, digits, e, all_from, (no_digit (at text i) e).0)
    inside l (some d) e r =
        let q : i + suc m ≡ i + 1 + m = omega arith in
        let h = has_value (at text i) d e in
        rw (drop-cons text i 0 l, digits, e, all_from, h.0, h.1, q, ← add-one i) (r (16 * v + d))

    go : Dec (i < length text) → ((w : ℕ) → digits m w (drop (i + 1) text) ≡ found (all_digits m text (i + 1)) (number_at m w text (i + 1)) (drop (i + 1 + m) text))
        → digits (suc m) v (drop i text) ≡ found (all_digits (suc m) text i) (number_at (suc m) v text i) (drop (i + suc m) text)
    go (yes l) r = inside l (value_of (at text i)) refl r
    go (no f) r =
        let b : length text ≤ i = omega arith in
        let z : at text i ≡ 0 = get_or-eq_default text 0 b in
        rw (drop_of_length-le text b, all_from, z, (no_digit 0 (below_digits 0 (omega arith))).0)

-- ---- words

pub words_at_lem : (m : ℕ) (text : List ℕ) (i : ℕ) → words m (drop i text) ≡ found (all_digits (8 * m) text i) (words_at m text i) (drop (i + 8 * m) text)
unfolding words words_at
words_at_lem zero text i = rw (add-zero, from_end (λ k. is_digit (at text k)) 0 i (omega arith))
words_at_lem (suc m) text i = go (all_digits 8 text i) refl (all_digits (8 * m) text (i + 8)) refl (words_at_lem m text (i + 8))
  where
    cut : all_digits (8 * suc m) text i ≡ (all_digits 8 text i && all_digits (8 * m) text (i + 8))
    cut = let q : 8 * suc m ≡ 8 + 8 * m = omega arith in ap (λ k. all_digits k text i) q ∙ from_add (λ k. is_digit (at text k)) 8 (8 * m) i

    go : (b : Bool) → all_digits 8 text i ≡ b → (d : Bool) → all_digits (8 * m) text (i + 8) ≡ d
        → words m (drop (i + 8) text) ≡ found (all_digits (8 * m) text (i + 8)) (words_at m text (i + 8)) (drop (i + 8 + 8 * m) text)
        → words (suc m) (drop i text) ≡ found (all_digits (8 * suc m) text i) (words_at (suc m) text i) (drop (i + 8 * suc m) text)
    go false e d f r = rw (cut, e, words, digits_at 8 0 text i, e)
    go true e false f r = rw (cut, e, f, words, digits_at 8 0 text i, e, r, f)
    go true e true f r = let q : i + 8 * suc m ≡ i + 8 + 8 * m = omega arith in rw (cut, e, f, words, digits_at 8 0 text i, e, r, f, q)

pub end_at : (ws text : List ℕ) (i : ℕ) → end_frame ws (drop i text) ≡ found (eqb (at text i) 10) ws (drop (i + 1) text)
unfolding end_frame
end_at ws text i = go (dec_lt i (length text))
  where
    go : Dec (i < length text) → end_frame ws (drop i text) ≡ found (eqb (at text i) 10) ws (drop (i + 1) text)
    go (yes l) = rw (drop-cons text i 0 l, add-one i)
    go (no f) = let b : length text ≤ i = omega arith in rw (drop_of_length-le text b, get_or-eq_default text 0 b)

-- ---- a frame

pub read_words_lem : (fits : List ℕ → Bool) (m : ℕ) (text : List ℕ) (i : ℕ)
    → read_words fits m (drop i text)
    ≡ found ((all_digits (8 * m) text i && eqb (at text (i + 8 * m)) 10) && fits (words_at m text i)) (words_at m text i) (drop (i + 8 * m + 1) text)
unfolding read_words
read_words_lem fits m text i = go (all_digits (8 * m) text i) refl (eqb (at text (i + 8 * m)) 10) refl (fits (words_at m text i)) refl
  where
    go : (b : Bool) → all_digits (8 * m) text i ≡ b → (n : Bool) → eqb (at text (i + 8 * m)) 10 ≡ n → (f : Bool) → fits (words_at m text i) ≡ f
        → read_words fits m (drop i text)
        ≡ found ((all_digits (8 * m) text i && eqb (at text (i + 8 * m)) 10) && fits (words_at m text i)) (words_at m text i) (drop (i + 8 * m + 1) text)
    go false e n q f p = rw (read_words, words_at_lem m text i, e)
    go true e false q false p = rw (read_words, words_at_lem m text i, e, q, p)
    go true e false q true p = rw (read_words, words_at_lem m text i, e, p, end_at (words_at m text i) text (i + 8 * m), q)
    go true e true q false p = rw (read_words, words_at_lem m text i, e, q, p)
    go true e true q true p = rw (read_words, words_at_lem m text i, e, p, end_at (words_at m text i) text (i + 8 * m), q)

pub read_frame_lem : (kind : ℕ) (fits : List ℕ → Bool) (text : List ℕ) (i : ℕ)
    → read_frame kind fits (drop i text) ≡ found (frame_fits kind fits text i) (words_of text i) (drop (after_frame text i) text)
unfolding read_frame frame_fits frame_shape
read_frame_lem kind fits text i = go (all_digits 2 text i) refl (all_digits 4 text (i + 2)) refl (eqb (number_at 2 0 text i) kind) refl
  where
    six : all_digits 6 text i ≡ (all_digits 2 text i && all_digits 4 text (i + 2))
    six = from_add (λ k. is_digit (at text k)) 2 4 i

    go : (b : Bool) → all_digits 2 text i ≡ b → (d : Bool) → all_digits 4 text (i + 2) ≡ d → (k : Bool) → eqb (number_at 2 0 text i) kind ≡ k
        → read_frame kind fits (drop i text) ≡ found (frame_fits kind fits text i) (words_of text i) (drop (after_frame text i) text)
    go false e d q k p = rw (read_frame, digits_at 2 0 text i, e, six, e)
    go true e false q false p = rw (read_frame, digits_at 2 0 text i, e, p, six, e, q)
    go true e true q false p = rw (read_frame, digits_at 2 0 text i, e, p, six, e, q)
    go true e false q true p = rw (read_frame, digits_at 2 0 text i, e, p, digits_at 4 0 text (i + 2), q, six, e, q)
    go true e true q true p =
        let s : i + 2 + 4 ≡ i + 6 = omega arith in
        let a : i + 7 + 8 * count_at text i ≡ i + 6 + 8 * count_at text i + 1 = omega arith in
        rw (read_frame, digits_at 2 0 text i, e, p, digits_at 4 0 text (i + 2), q, six, e, q, s, a) (read_words_lem fits (count_at text i) text (i + 6))

-- ---- what fits a part

pub length_words_at : (m : ℕ) (text : List ℕ) (i : ℕ) → length (words_at m text i) ≡ m
unfolding words_at
length_words_at zero text i = refl
length_words_at (suc m) text i = ap suc (length_words_at m text (i + 8))

trimmed_at : (m : ℕ) (text : List ℕ) (i : ℕ) → trimmed (words_at (suc m) text i) ≡ not (eqb (number_at 8 0 text (i + 8 * m)) 0)
unfolding trimmed words_at
trimmed_at zero text i = rw add-zero
trimmed_at (suc m) text i = let q : i + 8 + 8 * m ≡ i + 8 * suc m = omega arith in trimmed_at m text (i + 8) ∙ ap (λ k. not (eqb (number_at 8 0 text k) 0)) q

module _ (most m : ℕ) (text : List ℕ) (i : ℕ) where
  pub fits_long : most < m → part_fits most (words_at m text i) ≡ false
  unfolding part_fits
  fits_long b = rw (length_words_at m text i, lt-leb m most b)

  pub fits_none : m ≡ 0 → part_fits most (words_at m text i) ≡ true
  unfolding part_fits trimmed words_at
  fits_none z = rw z (rw (le-leb 0 most (omega arith)))

  pub fits_last : m ≤ most → (m ≡ 0 → ⊥) → part_fits most (words_at m text i) ≡ not (eqb (number_at 8 0 text (i + 8 * (m - 1))) 0)
  unfolding part_fits
  fits_last b z =
      let q : m ≡ suc (m - 1) = omega arith in
      rw (length_words_at m text i, le-leb m most b) (ap (λ k. trimmed (words_at k text i)) q ∙ trimmed_at (m - 1) text i)
