-- A value lies in one page. A word inside a value: no value of its page or of another has its header there, since values do not overlap and no
-- word is in two pages. So two heaps that differ in that word alone are stepped through alike.
use Prim.Native.Nat.{ℕ, suc, ◌+◌, ◌*◌, ◌/◌, ◌^◌, ◌≤◌, ◌<◌}
use native.Mathlib.Omega.{arith}
use native.Mathlib.Decide.{ℕ_discrete}
use mathlib.Core.Path.{◌≡◌, sym, ap, ◌∙◌}
use mathlib.Core.Logic.{◌≢◌}
use mathlib.Core.List.{List}
use Rattle.laws.specs.Lists.{at}
use Rattle.laws.proofs.Lists.{one_part}
use Rattle.rules.proofs.Chains.{page_of}
use Rattle.rules.proofs.Steps.{PageSteps, OnPage, here, steps_le, steps_same, stands_same, not_header, steps_inside}

-- a value's page is that of its address
pub page_at : {n : ℕ} {h : List ℕ} {k a l : ℕ} → OnPage n h k a l → a / 2 ^ n ≡ k
page_at {n} {k = k} {a} v = let lo = steps_le v.steps in let hi = v.stands.ends in page_of n k a (omega arith) (omega arith)

-- so values of different pages differ
pub pages_differ : {n : ℕ} {g h : List ℕ} {k m a b l c : ℕ} → OnPage n g k a l → OnPage n h m b c → k ≢ m → a ≢ b
pages_differ {n} u v ne e = ne (sym (page_at u) ∙ ap (λ y. y / 2 ^ n) e ∙ page_at v)

-- word i of the value of l words at address d, in page k
module _ {n : ℕ} {g : List ℕ} {k d l : ℕ} (v : OnPage n g k d l) (i : ℕ) (i_in : i < l) where
  -- a word of another page is not this one
  pub other_page : (m y : ℕ) → m ≢ k → m * 2 ^ n ≤ y → y < m * 2 ^ n + 2 ^ n → y ≢ d + suc i
  other_page m y ne p q e = let lo = steps_le v.steps in let hi = v.stands.ends in one_part (2 ^ n) m k y ne p q (omega arith) (omega arith)

  -- nor is a word of a page's descriptor
  pub no_descriptor : (m y : ℕ) → 2 ≤ 2 ^ n → m * 2 ^ n ≤ y → y < m * 2 ^ n + 2 → y ≢ d + suc i
  no_descriptor m y b p q = go (ℕ_discrete m k)
    where
      go : Dec (m ≡ k) → y ≢ d + suc i
      go (yes e) = let w : m * 2 ^ n ≡ k * 2 ^ n = ap (λ x. x * 2 ^ n) e in let lo = steps_le v.steps in omega arith
      go (no ne) = other_page m y ne p (omega arith)

  -- no header stands there
  pub no_header : {m a b : ℕ} → OnPage n g m a b → a ≢ d + suc i
  no_header {m} {a} u e = go (ℕ_discrete m k)
    where
      go : Dec (m ≡ k) → ⊥
      go (yes q) = not_header v.steps v.stands (omega arith) (omega arith) (rw q at u.steps) e
      go (no ne) = let lo = steps_le u.steps in let hi = u.stands.ends in other_page m a ne (omega arith) (omega arith) e

  -- in a heap with the same words but that one, what is stepped to is the same
  module _ (h : List ℕ) (keep : (y : ℕ) → y ≢ d + suc i → at g y ≡ at h y) where
    pub steps_still : (m a : ℕ) → PageSteps n g m a → a ≤ m * 2 ^ n + 2 ^ n → PageSteps n h m a
    steps_still m a at_a b = go (ℕ_discrete m k)
      where
        go : Dec (m ≡ k) → PageSteps n h m a
        go (yes e) = rw e (steps_inside g h _ _ d l (d + suc i) v.steps v.stands (omega arith) (omega arith) keep here (rw e at at_a))
        go (no ne) = steps_same (λ y p q. keep y (other_page m y ne (omega arith) (omega arith))) at_a

    pub value_still : {m a b : ℕ} → OnPage n g m a b → OnPage n h m a b
    value_still {m} {a} u = let hi = u.stands.ends in record { steps = steps_still m a u.steps (omega arith); stands = stands_same (keep a (no_header u)) u.stands }
