-- The turn laws of good pointers: each way in which the code decides is what the definition decides. The tests are the same, and an address
-- outside the heap is in a page without an origin.
use Prim.Native.Nat.{ℕ, ◌+◌, ◌*◌, ◌/◌, ◌%◌, ◌^◌, ◌≤◌, ◌<◌}
use mathlib.Core.Path.{◌≡◌, ap}
use mathlib.Core.Bool.{true, false}
use mathlib.Core.List.{List}
use native.Mathlib.Omega.{arith}
use native.Mathlib.Nat.{mul-le-mul_right, le-div_iff_mul-le}
use borrow.Author.Tests.{le-leb, lt-leb}
use lib.Pow.{pow_pos}
use lib.ListN.{length, get_or, get_or-eq_default}
use lib.Seq.{take-length}
use Rattle.rules.specs.Memory.{origin}
use Rattle.rules.specs.Refusals.{Paged}
use Rattle.rules.specs.Words.{vals_in, stands_at, good_on, good_heap, good_const, good_in}
use Rattle.rules.proofs.Chains.{page_vals_lem}
use Rattle.rules.proofs.Limits.{whole_pages}
use Rattle.rules.proofs.Pointers.{heap_word, const_word, number_word}

-- past the last page there is no word
pub past_pages : (n : ℕ) (h : List ℕ) (k i : ℕ) → Paged n (length h) → length h / 2 ^ n ≤ k → get_or h (k * 2 ^ n + i) 0 ≡ 0
past_pages n h k i g b =
    let w = whole_pages n (length h) g in
    let m = mul-le-mul_right (2 ^ n) b in
    get_or-eq_default h 0 {n = k * 2 ^ n + i} (omega arith)

-- the page of an address outside has no origin
pub origin_out : (n : ℕ) (h : List ℕ) (a : ℕ) → Paged n (length h) → length h ≤ a → origin n h (a / 2 ^ n) ≡ 0
unfolding origin
origin_out n h a g b = past_pages n h (a / 2 ^ n) 1 g ((le-div_iff_mul-le {k = 2 ^ n} (pow_pos n)).1 (rw (whole_pages n (length h) g) b))

module _ (n R : ℕ) (h : List ℕ) (a : ℕ) where
  pub good_out : Paged n (length h) → length h ≤ a → good_heap n R h a ≡ false
  unfolding good_heap good_on
  good_out g b = rw (good_on, origin_out n h a g b)

  -- over code that has the address of a's page as base
  module _ (base : ℕ) (e : base ≡ a / 2 ^ n * 2 ^ n) where
    pub good_none : get_or h (base + 1) 0 < 1 → good_heap n R h a ≡ false
    unfolding good_heap good_on origin
    good_none b = rw (← e, good_on, lt-leb 1 (get_or h (base + 1) 0) b)

    pub good_high : R < get_or h (base + 1) 0 → good_heap n R h a ≡ false
    unfolding good_heap good_on origin
    good_high b = rw (← e, good_on, lt-leb (get_or h (base + 1) 0) R b, le-leb 1 (get_or h (base + 1) 0) (omega arith))

    pub good_go : (start end : ℕ) → start ≡ base + 2 → end ≡ base + 2 ^ n → 1 ≤ get_or h (base + 1) 0 → get_or h (base + 1) 0 ≤ R
        → good_heap n R h a ≡ stands_at a (vals_in h start end)
    unfolding good_heap good_on origin
    good_go start end p q b c =
        rw (← e, good_on, le-leb 1 (get_or h (base + 1) 0) b, le-leb (get_or h (base + 1) 0) R c)
        (ap (stands_at a) (rw (p, q, e) (page_vals_lem n h (a / 2 ^ n))))

pub const_go : (h : List ℕ) (a : ℕ) → good_const h a ≡ stands_at a (vals_in h 0 (length h))
unfolding good_const vals_in
const_go h a = rw (take-length h)

module _ (n R : ℕ) (h k : List ℕ) (w : ℕ) where
  pub word_heap : w % 4 ≡ 0 → good_in n R h k w ≡ good_heap n R h (w / 4)
  unfolding good_in
  word_heap m = rw (heap_word w m, good_in)

  pub word_const : w % 4 ≡ 2 → good_in n R h k w ≡ good_const k (w / 4)
  unfolding good_in
  word_const m = rw (const_word w m, good_in)

  pub word_number : (w % 4 ≡ 0 → ⊥) → (w % 4 ≡ 2 → ⊥) → good_in n R h k w ≡ true
  unfolding good_in
  word_number a b = rw (good_in, number_word w a b)
