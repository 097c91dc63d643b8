-- What the limits and the common test say as facts, and that a page of a heap within them lies inside it. Each fact is one of the tests that the
-- limits join, and a heap of whole pages ends with its last page.
use Prim.Native.Nat.{ℕ, zero, suc, zero-le, suc-le-suc, ◌+◌, ◌-◌, ◌*◌, ◌/◌, ◌^◌, ◌≤◌, ◌<◌}
use mathlib.Core.Path.{◌≡◌, refl, sym, ◌∙◌}
use mathlib.Core.Bool.{Bool, true, false, beq, false≢true}
use borrow.Author.Tests.{leb-true, eqb-true, eq-eqb}
use lib.Dec.{eqb}
use Rattle.laws.proofs.Tests.{both, eight_hold}
use native.Mathlib.Omega.{arith}
use native.Mathlib.Nat.{le_trans, le-div_iff_mul-le, mul-le-mul_left, mul-le-mul_right, div-add-mod', div-lt_iff_lt-mul, div-le_self}
use lib.Pow.{pow_pos, pow_mono}
use Rattle.rules.specs.declared.Control.{Control}
use Rattle.rules.specs.Memory.{limits}
use Rattle.rules.specs.Refusals.{common, Paged, Admitted}

pub page_size : (n : ℕ) → 4 ≤ n → n ≤ 8 → (16 ≤ 2 ^ n) × (2 ^ n ≤ 256)
page_size n a b = (pow_mono {i = 4} a, pow_mono {j = 8} b)

pub paged_size : (n h : ℕ) → Paged n h → (16 ≤ 2 ^ n) × (2 ^ n ≤ 256)
paged_size n h g = page_size n g.low g.high

pub whole_pages : (n h : ℕ) → Paged n h → h / 2 ^ n * 2 ^ n ≡ h
whole_pages n h g = let w = g.whole in omega (arith, div-add-mod' h (2 ^ n))

-- a heap of at least two pages has at least two pages
pub two_pages : (n h : ℕ) → Paged n h → 2 * 2 ^ n ≤ h → 2 ≤ h / 2 ^ n
two_pages n h g b = (le-div_iff_mul-le {k = 2 ^ n} (pow_pos n)).1 b

pub record Inside (p base h : ℕ) : Type 0 where
  pub ends : base + p ≤ h
  pub low : 16 ≤ p
  pub high : p ≤ 256
  pub size : h ≤ 65536

-- page k lies inside
pub page_inside : (n h p k : ℕ) → p ≡ 2 ^ n → Paged n h → k < h / 2 ^ n → Inside p (k * p) h
page_inside n h p k q g b =
    let z = paged_size n h g in
    rw q
    (record {
      ends = omega (arith, whole_pages n h g, mul-le-mul_right (2 ^ n) b);
      low = z.0;
      high = z.1;
      size = g.size;
    })

-- there are few pages
pub pages_few : (n h N : ℕ) → Paged n h → N ≡ h / 2 ^ n → N ≤ 65536
pages_few n h N g e = let z = g.size in omega (arith, div-le_self h (2 ^ n))

-- a page's number is small enough for its address
pub page_number : (n h k : ℕ) → Paged n h → k < h / 2 ^ n → (k ≤ 65536) × (n ≤ 8)
page_number n h k g b = (omega (arith, pages_few n h (h / 2 ^ n) g refl), g.high)

-- so does the page that the link k names, over code that has N for the number of pages and b for the page's address
pub page_here : (n h N k b : ℕ) → Paged n h → N ≡ h / 2 ^ n → b ≡ (k - 1) * 2 ^ n → (k ≡ 0 → ⊥) → k ≤ N → Inside (2 ^ n) b h
page_here n h N k b g e q z c = rw q (page_inside n h (2 ^ n) (k - 1) refl g (omega arith))

-- the address of such a page, and what is past it, wrap nothing
pub address_small : (n k : ℕ) → k ≤ 65536 → n ≤ 8 → (k * 2 ^ n ≤ 65536 * 256) × (2 ^ n ≤ 256)
address_small n k a b =
    let p : 2 ^ n ≤ 256 = pow_mono {j = 8} b in
    (le_trans (mul-le-mul_right (2 ^ n) a) (mul-le-mul_left 65536 p), p)

-- the page of address a is one of the heap's
pub page_known : (n h a : ℕ) → Paged n h → a < h → a / 2 ^ n < h / 2 ^ n
page_known n h a g b = (div-lt_iff_lt-mul {k = 2 ^ n} (pow_pos n)).1 (rw (whole_pages n h g) b)

-- and lies inside
pub in_page : (n h p base a : ℕ) → p ≡ 2 ^ n → base ≡ a / 2 ^ n * 2 ^ n → Paged n h → a < h → Inside p base h
in_page n h p base a q e g b = rw (e, q) (page_inside n h (2 ^ n) (a / 2 ^ n) refl g (page_known n h a g b))

-- ---- the tests of every call, as facts

pub record Within (n h t r k : ℕ) : Type 0 where
  pub paged : Paged n h
  pub two : 2 * 2 ^ n ≤ h
  pub table : t ≡ 256
  pub roots : r ≤ 1024
  pub consts : k ≤ 65535

-- parts of the same lengths are within the limits too
pub within_same : {n h t r k h' t' r' k' : ℕ} → h' ≡ h → t' ≡ t → r' ≡ r → k' ≡ k → Within n h t r k → Within n h' t' r' k'
within_same a b c d w = rw (a, b, c, d) w

pub within : (n h t r k : ℕ) → limits n h t r k ≡ true → Within n h t r k
unfolding limits
within n h t r k l =
    let (n4, n8, w1, w2, h1, t1, r1, k1) = eight_hold l in
    record {
      paged = record { low = leb-true _ _ n4; high = leb-true _ _ n8; size = leb-true _ _ h1; whole = eqb-true _ _ w1 };
      two = leb-true _ _ w2;
      table = eqb-true _ _ t1;
      roots = leb-true _ _ r1;
      consts = leb-true _ _ k1;
    }

-- first and count are 0 together
together : (a b : Bool) → beq a b ≡ true → a ≡ b
together true true e = refl
together true false e = absurd (false≢true e)
together false true e = absurd (false≢true e)
together false false e = refl

both_some : (f k : ℕ) → eqb f 0 ≡ eqb k 0 → 0 < k → 0 < f
both_some zero k e b = let z = eqb-true k 0 (sym e ∙ eq-eqb 0 0 refl) in absurd (omega arith)
both_some (suc f) k e b = suc-le-suc zero-le

pub admits : (h t r k : ℕ) (c : Control) → limits c.n h t r k ≡ true → common (h / 2 ^ c.n) c ≡ true → Admitted h t r k c
unfolding common
admits h t r k c l m =
    let w = within c.n h t r k l in
    let (m3, fk) = both m in
    let (m2, c1) = both m3 in
    let (r64, f1) = both m2 in
    record {
      paged = w.paged;
      two = w.two;
      table = w.table;
      roots = w.roots;
      consts = w.consts;
      regions = leb-true _ _ r64;
      first = leb-true _ _ f1;
      count = leb-true _ _ c1;
      some_page = both_some c.first c.count (together _ _ fk);
      no_page = λ z. eqb-true c.first 0 (together _ _ fk ∙ eq-eqb c.count 0 z);
    }
