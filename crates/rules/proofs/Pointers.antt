-- Pointers and headers read back: what a word or a header says decides what it is. By cases on the remainder by 4, and on what a header says.
use Prim.Native.Nat.{ℕ, zero, suc, ◌+◌, ◌*◌, ◌/◌, ◌%◌}
use native.Mathlib.Nat.{mul-mod_right, mul-div_right}
use native.Mathlib.Omega.{arith}
use native.Mathlib.Decide.{ℕ_discrete}
use mathlib.Core.Path.{◌≡◌, refl, sym, ap, ◌∙◌}
use mathlib.Core.Bool.{true, false, false≢true, true≢false}
use mathlib.Core.Option.{some}
use Rattle.rules.specs.Words.{Word, number, in_heap, in_const, word_of, Head, rec, raw, moved, wrong, head_by, head_of, length_by, record_by, words_by}
use Rattle.rules.specs.Calls.{is_number}

-- ---- words

-- a pointer to the heap
pub pointer : (b : ℕ) → word_of (4 * b) ≡ in_heap b
unfolding word_of
pointer b = rw (mul-mod_right 4 b, mul-div_right b {m = 4} (omega arith))

-- what a word is, and its remainder then
pub data Is (w : ℕ) : Type 0 where
  heap_pointer : w % 4 ≡ 0 → word_of w ≡ in_heap (w / 4) → Is w
  const_pointer : w % 4 ≡ 2 → word_of w ≡ in_const (w / 4) → Is w
  whole_number : w % 2 ≡ 1 → word_of w ≡ number → Is w

pub word_is : (w : ℕ) → Is w
unfolding word_of
word_is w = go (w % 4) refl
  where
    go : (x : ℕ) → w % 4 ≡ x → Is w
    go zero e = heap_pointer e (rw (word_of, e))
    go (suc zero) e = whole_number (omega arith) (rw (word_of, e))
    go (suc (suc zero)) e = const_pointer e (rw (word_of, e))
    go (suc (suc (suc x))) e = whole_number (omega arith) (rw (word_of, e))

-- a word that points to the heap is the pointer to its address
pub pointer_is : (w a : ℕ) → word_of w ≡ in_heap a → w ≡ 4 * a
pointer_is w a e = go (word_is w)
  where
    go : Is w → w ≡ 4 * a
    go (heap_pointer m q) = let t : in_heap (w / 4) ≡ in_heap a = sym q ∙ e in let u : w / 4 ≡ a = cc in omega arith
    go (const_pointer m q) = let t : in_const (w / 4) ≡ in_heap a = sym q ∙ e in absurd (false≢true cc)
    go (whole_number m q) = let t : number ≡ in_heap a = sym q ∙ e in absurd (false≢true cc)

-- a multiple of 4 is a pointer to the heap
pub heap_word : (w : ℕ) → w % 4 ≡ 0 → word_of w ≡ in_heap (w / 4)
unfolding word_of
heap_word w m = rw (word_of, m)

-- what leaves 2 is a pointer to a constant
pub const_word : (w : ℕ) → w % 4 ≡ 2 → word_of w ≡ in_const (w / 4)
unfolding word_of
const_word w m = rw (word_of, m)

-- a word is a number where it is no pointer
pub number_word : (w : ℕ) → (w % 4 ≡ 0 → ⊥) → (w % 4 ≡ 2 → ⊥) → word_of w ≡ number
number_word w a b = go (word_is w)
  where
    go : Is w → word_of w ≡ number
    go (heap_pointer m q) = absurd (a m)
    go (const_pointer m q) = absurd (b m)
    go (whole_number m q) = q

-- a number
pub is_number_lem : (w : ℕ) → is_number (word_of w) ≡ true → word_of w ≡ number
is_number_lem w e = go (word_of w) refl
  where
    go : (x : Word) → word_of w ≡ x → word_of w ≡ number
    go number q = q
    go (in_heap a) q = absurd (false≢true (rw q at e))
    go (in_const a) q = absurd (false≢true (rw q at e))

-- ---- headers

-- what the header of a value of l words is
pub data Heads (x : Head) (l : ℕ) : Type 0 where
  a_record : x ≡ rec l → Heads x l
  raw_words : x ≡ raw l → Heads x l

pub head_is : (x : Head) (l : ℕ) → length_by x ≡ some l → Heads x l
head_is (rec m) l e = let q : m ≡ l = cc in a_record (ap rec q)
head_is (raw m) l e = let q : m ≡ l = cc in raw_words (ap raw q)
head_is (moved b) l e = absurd (false≢true cc)
head_is wrong l e = absurd (false≢true cc)

-- the words that it takes
pub words_of : (x : Head) (l : ℕ) → length_by x ≡ some l → words_by x ≡ suc l
words_of x l e = go (head_is x l e)
  where
    go : Heads x l → words_by x ≡ suc l
    go (a_record q) = rw q
    go (raw_words q) = rw q

-- the header of a record
pub record_head : (x : Head) (l : ℕ) → length_by x ≡ some l → record_by x ≡ true → x ≡ rec l
record_head x l e k = go (head_is x l e)
  where
    go : Heads x l → x ≡ rec l
    go (a_record q) = q
    go (raw_words q) = absurd (false≢true (rw q at k))

-- a header that is none of a record is one of a raw value
pub raw_head : (x : Head) (l : ℕ) → length_by x ≡ some l → record_by x ≡ false → x ≡ raw l
raw_head x l e k = go (head_is x l e)
  where
    go : Heads x l → x ≡ raw l
    go (a_record q) = absurd (true≢false (rw q at k))
    go (raw_words q) = q

-- a forward, read as a header
pub forward_head : (b : ℕ) → head_of (4 * b) ≡ moved b
unfolding head_of
forward_head b = go (ℕ_discrete ((4 * b) % 8) 0)
  where
    go : Dec ((4 * b) % 8 ≡ 0) → head_by ((4 * b) % 8) ((4 * b) / 8) ≡ moved b
    go (yes e) = let q : (4 * b) / 8 * 2 ≡ b = omega arith in rw e (ap moved q)
    go (no ne) =
        let e : (4 * b) % 8 ≡ 4 = omega arith in
        let q : (4 * b) / 8 * 2 + 1 ≡ b = omega arith in
        rw e (ap moved q)
