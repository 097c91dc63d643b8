-- Filling by places: a word of a frame by its number, and one turn of filling a part and of filling the pages. A part that is filled
-- from place i on has the words before i, and storing the rest makes the whole.
use Prim.Native.Nat.{ℕ, zero, suc, ◌+◌, ◌-◌, ◌*◌, ◌^◌, ◌≤◌, ◌<◌}
use mathlib.Core.Path.{◌≡◌, sym, ap, ◌∙◌}
use mathlib.Core.List.{List, ◌++◌}
use native.Mathlib.Nat.{add-zero, zero-mul, suc-mul, add-mul, one-mul}
use native.Mathlib.Numerals.{add-one}
use native.Mathlib.Omega.{arith}
use lib.ListN.{length, take, drop, set, length-append, drop_of_length-le, get_or-eq_default}
use lib.Seq.{sets, drop-cons}
use Rattle.laws.specs.Lists.{at, padded}
use Rattle.laws.proofs.Writes.{sets_append, sets_next, sets_whole, put_sets}
use Rattle.laws.proofs.Padded.{length_padded, at_padded}
use Rattle.rules.proofs.Pages.{page_lent, page_left}
use Rattle.scanning.specs.Places.{number_at, words_at, words_of, after_frame}
use Rattle.reading.specs.Parts.{part_at, pages_at}
use Rattle.scanning.proofs.Frames.{length_words_at}

-- ---- a word by its number

pub words_outside : (m : ℕ) (text : List ℕ) (i k : ℕ) → m ≤ k → at (words_at m text i) k ≡ 0
words_outside m text i k b = get_or-eq_default (words_at m text i) 0 (rw (length_words_at m text i) b)

pub words_inside : (m : ℕ) (text : List ℕ) (i k : ℕ) → k < m → at (words_at m text i) k ≡ number_at 8 0 text (i + 8 * k)
unfolding words_at
words_inside zero text i k b = absurd (omega arith)
words_inside (suc m) text i zero b = rw add-zero
words_inside (suc m) text i (suc k) b =
    let q : i + 8 + 8 * k ≡ i + 8 * suc k = omega arith in
    words_inside m text (i + 8) k (omega arith) ∙ ap (λ x. number_at 8 0 text x) q

-- ---- a part

module _ (part : List ℕ) (m : ℕ) (ws : List ℕ) (i : ℕ) where
  pub part_turn : (v : ℕ) → i < m → v ≡ at ws i → sets part i (drop i (padded m ws)) ≡ sets (set part i v) (i + 1) (drop (i + 1) (padded m ws))
  part_turn v b e =
      ap (sets part i) (drop-cons (padded m ws) i 0 (rw (length_padded m ws) b))
      ∙ sets_next part i (at (padded m ws) i) (drop (suc i) (padded m ws))
      ∙ rw (at_padded m ws i b, e, add-one i)

  pub part_end : (whole : List ℕ) → m ≤ i → length whole ≡ m → sets part i (drop i (padded m ws)) ≡ sets whole 0 (padded m ws) → part ≡ padded m ws
  part_end whole b l e =
      let q : length (padded m ws) ≤ i = omega (arith, length_padded m ws) in
      sym (ap (sets part i) (drop_of_length-le (padded m ws) q)) ∙ e ∙ sets_whole whole (padded m ws) (length_padded m ws ∙ sym l)

-- ---- the pages

pub pages_at_length : (m P : ℕ) (text : List ℕ) (i : ℕ) → length (pages_at m P text i) ≡ m * P
unfolding pages_at
pages_at_length zero P text i = sym (zero-mul P)
pages_at_length (suc m) P text i =
    length-append (part_at P text i) (pages_at m P text (after_frame text i))
    ∙ (let a = length_padded P (words_of text i) in let b = pages_at_length m P text (after_frame text i) in omega (arith, suc-mul m P))

module _ (n k : ℕ) (heap text : List ℕ) (i m : ℕ) where
  module _ (a p j : ℕ) (ys : List ℕ) (qa : a ≡ k * 2 ^ n) (qp : p ≡ 2 ^ n) (b : k * 2 ^ n + 2 ^ n ≤ length heap)
      (e : ys ≡ part_at (length (take (a + p - a) (drop a heap))) text i) where
    page_filled_lem : take a heap ++ (ys ++ drop (a + p - a) (drop a heap)) ≡ sets heap (k * 2 ^ n) (part_at (2 ^ n) text i)
    page_filled_lem =
        let y : ys ≡ part_at (2 ^ n) text i = e ∙ ap (λ x. part_at x text i) (page_lent n heap k a p qa qp b) in
        let l : length ys ≡ 2 ^ n = ap length y ∙ length_padded (2 ^ n) (words_of text i) in
        page_left n heap k a p qa qp b ys l ∙ put_sets heap (k * 2 ^ n) ys (omega arith) ∙ ap (sets heap (k * 2 ^ n)) y

    pub pages_fill_turn : 0 < m → j ≡ after_frame text i
        → sets heap (k * 2 ^ n) (pages_at m (2 ^ n) text i) ≡ sets (take a heap ++ (ys ++ drop (a + p - a) (drop a heap))) ((k + 1) * 2 ^ n) (pages_at (m - 1) (2 ^ n) text j)
    unfolding pages_at
    pages_fill_turn l q =
        let g : m ≡ suc (m - 1) = omega arith in
        let w : length (part_at (2 ^ n) text i) ≡ 2 ^ n = length_padded (2 ^ n) (words_of text i) in
        let z : k * 2 ^ n + length (part_at (2 ^ n) text i) ≡ (k + 1) * 2 ^ n = omega (arith, add-mul k 1 (2 ^ n), one-mul (2 ^ n)) in
        ap (λ x. sets heap (k * 2 ^ n) (pages_at x (2 ^ n) text i)) g
        ∙ sets_append heap (k * 2 ^ n) (part_at (2 ^ n) text i) (pages_at (m - 1) (2 ^ n) text (after_frame text i))
        ∙ rw (z, page_filled_lem, q)

  pub pages_fill_end : m ≤ 0 → sets heap (k * 2 ^ n) (pages_at m (2 ^ n) text i) ≡ heap
  unfolding pages_at
  pages_fill_end b = let g : m ≡ 0 = omega arith in rw g
