-- What a good pointer names: the value lies inside its memory, since the stepping that lands on it tests that; and the turn laws of `look`.
use Prim.Native.Nat.{ℕ, suc, ◌+◌, ◌-◌, ◌*◌, ◌/◌, ◌%◌, ◌^◌, ◌<◌}
use mathlib.Core.Path.{◌≡◌, refl, sym, ap, ◌∙◌}
use mathlib.Core.Bool.{true, false, ◌&&◌, false≢true}
use mathlib.Core.List.{List, [], ◌∷◌}
use native.Mathlib.Omega.{arith}
use native.Mathlib.Decide.{dec_le}
use lib.Dec.{leb}
use lib.ListN.{length, take, drop}
use Rattle.laws.specs.Lists.{at}
use Rattle.laws.proofs.Tests.{both, then_and}
use Rattle.rules.specs.Calls.{is_there}
use Rattle.rules.specs.Memory.{origin}
use Rattle.rules.specs.Refusals.{Paged}
use Rattle.rules.specs.Words.{number, in_heap, in_const, word_of, fits, page_vals, stands_at, good_on, good_heap, good_const, value_at, look}
use Rattle.rules.proofs.Chains.{page_vals_lem}
use Rattle.rules.proofs.Good.{good_out, const_go}
use Rattle.rules.proofs.Headers.{fits_more, fits_words}
use Rattle.rules.proofs.Limits.{in_page}
use Rattle.rules.proofs.Steps.{stands_fits}
use Rattle.rules.proofs.Pointers.{heap_word, const_word, number_word}

-- ---- what a word is

pub word_is_number : (w : ℕ) → w % 2 ≡ 1 → word_of w ≡ number
word_is_number w odd = number_word w (λ e. omega arith) (λ e. omega arith)

-- over code that has the address as a
pub word_is_const : (w a : ℕ) → a ≡ w / 4 → w % 4 ≡ 2 → word_of w ≡ in_const a
word_is_const w a q m = rw q (const_word w m)

pub word_is_heap : (w a : ℕ) → a ≡ w / 4 → (w % 2 ≡ 1 → ⊥) → (w % 4 ≡ 2 → ⊥) → word_of w ≡ in_heap a
word_is_heap w a q even ne = rw q (heap_word w (omega arith))

-- ---- the value that a good pointer names

-- a good pointer's value fits into its memory
module _ (n R : ℕ) (h : List ℕ) (a : ℕ) where
  -- its page is a region's, and it stands there
  pub good_parts : good_heap n R h a ≡ true → (leb 1 (origin n h (a / 2 ^ n)) ≡ true) × (leb (origin n h (a / 2 ^ n)) R ≡ true) × (stands_at a (page_vals n h (a / 2 ^ n)) ≡ true)
  unfolding good_heap good_on
  good_parts t =
      let (o, stands) = both (sym (then_and (leb 1 (origin n h (a / 2 ^ n)) && leb (origin n h (a / 2 ^ n)) R) (stands_at a (page_vals n h (a / 2 ^ n)))) ∙ t) in
      let (lo, hi) = both {a = leb 1 (origin n h (a / 2 ^ n))} o in
      (lo, hi, stands)

  pub good_fits : Paged n (length h) → good_heap n R h a ≡ true → (a < length h) × (fits (at h a) (length h - (a + 1)) ≡ true)
  good_fits g t = go (dec_le (suc a) (length h))
    where
      go : Dec (a < length h) → (a < length h) × (fits (at h a) (length h - (a + 1)) ≡ true)
      go (no f) =
          absurd (false≢true (sym (good_out n R h a g (omega arith)) ∙ t))
      go (yes b) =
          let i = in_page n (length h) (2 ^ n) (a / 2 ^ n * 2 ^ n) a refl refl g b in
          let lo = i.low in
          let s = stands_fits a h (a / 2 ^ n * 2 ^ n + 2) (a / 2 ^ n * 2 ^ n + 2 ^ n) (omega arith) i.ends (rw (page_vals_lem n h (a / 2 ^ n)) at (good_parts t).2) in
          (b, fits_more (at h a) (a / 2 ^ n * 2 ^ n + 2 ^ n - (a + 1)) (length h - (a + 1)) s.1 (omega (arith, i.ends)))

pub const_fits : (k : List ℕ) (a : ℕ) → good_const k a ≡ true → (a < length k) × (fits (at k a) (length k - (a + 1)) ≡ true)
const_fits k a t = stands_fits a k 0 (length k) (omega arith) (omega arith) (sym (const_go k a) ∙ t)

-- the part of memory that a value is, by its end
pub value_part : (m : List ℕ) (a k : ℕ) → fits (at m a) k ≡ true → take (a + 1 + at m a / 8 - a) (drop a m) ≡ value_at m a
unfolding value_at
value_part m a k t =
    let q : a + 1 + at m a / 8 - a ≡ suc (at m a / 8) = omega arith in
    ap (λ l. take l (drop a m)) (q ∙ sym (fits_words (at m a) k t))

-- ---- a word's value, over code that has its address as a

module _ (n R : ℕ) (h k : List ℕ) (w a : ℕ) (q : a ≡ w / 4) where
  pub look_heap : w % 4 ≡ 0 → good_heap n R h a ≡ true → look n R h k w ≡ value_at h a
  unfolding look
  look_heap m t = rw (heap_word w m, look, ← q, t)

  pub look_no_heap : w % 4 ≡ 0 → good_heap n R h a ≡ false → look n R h k w ≡ []
  unfolding look
  look_no_heap m t = rw (heap_word w m, look, ← q, t)

  pub look_const : w % 4 ≡ 2 → good_const k a ≡ true → look n R h k w ≡ value_at k a
  unfolding look
  look_const m t = rw (const_word w m, look, ← q, t)

  pub look_no_const : w % 4 ≡ 2 → good_const k a ≡ false → look n R h k w ≡ []
  unfolding look
  look_no_const m t = rw (const_word w m, look, ← q, t)

pub look_number : (n R : ℕ) (h k : List ℕ) (w : ℕ) → (w % 4 ≡ 0 → ⊥) → (w % 4 ≡ 2 → ⊥) → look n R h k w ≡ []
unfolding look
look_number n R h k w a b = rw (number_word w a b, look)

-- a value is there if it has words
pub there_none : (v : List ℕ) → length v ≡ 0 → is_there v ≡ false
there_none [] e = refl
there_none (h ∷ ws) e = absurd (omega arith)

pub there_some : (v : List ℕ) → (length v ≡ 0 → ⊥) → is_there v ≡ true
there_some [] e = absurd (e refl)
there_some (h ∷ ws) e = refl
