-- Tests in order: a call that is a row of tests and a rest refuses by the first test that holds, and a refusal leaves every lent word and the
-- record as they were. One law of one test more serves all calls.
use Prim.Native.Nat.{ℕ, zero, suc}
use native.Mathlib.Omega.{arith}
use mathlib.Core.Path.{◌≡◌, refl, sym, ap, ◌∙◌}
use mathlib.Core.Logic.{◌↔◌}
use mathlib.Core.Bool.{Bool, true, false, not, true≢false, false≢true}
use mathlib.Core.Option.{Option, none, some, none-ne-some}
use mathlib.Core.List.{List, [], ◌∷◌, Memᴰ}
use lib.Dec.{eqb}
use borrow.Author.Tests.{not-false, ne_eqb}
use Rattle.laws.specs.Choice.{◌⇒◌∣◌}
use Rattle.rules.specs.declared.Refusal.{Refusal}
use Rattle.rules.specs.Memory.{Store}
use Rattle.rules.specs.Audit.{broken_rule}
use Rattle.rules.specs.Refusals.{number_of, within_limits, common_test, admitted, unbroken, audited}
use Rattle.rules.specs.Order.{Test, test, first_refusal, First, this, next, numbers, Refusing, limits_test, record_test, audit_test}

-- ---- tests in order

pub first_is : (ts : List Test) (r : Refusal) → (first_refusal ts ≡ some r) ↔ First ts r
unfolding first_refusal
first_is ts r = (there ts, back)
  where
    there : (ts : List Test) → first_refusal ts ≡ some r → First ts r
    there [] e = absurd (false≢true cc)
    there (t ∷ ts) e = go t.holds refl (λ q. there ts q)
      where
        go : (b : Bool) → t.holds ≡ b → (first_refusal ts ≡ some r → First ts r) → First (t ∷ ts) r
        go true q rest = let e' : some t.why ≡ some r = rw (first_refusal, q) at e in let z : t.why ≡ r = cc in this q z
        go false q rest = next q (rest (rw (first_refusal, q) at e))

    back : {ts : List Test} → First ts r → first_refusal ts ≡ some r
    back (this q e) = rw (first_refusal, q) (ap some e)
    back (next q f) = rw (first_refusal, q) (back f)

-- its number is one of theirs
pub first_number : {ts : List Test} {r : Refusal} → First ts r → Memᴰ (number_of r) (numbers ts)
unfolding numbers
first_number (this q e) = Memᴰ.head (ap number_of (sym e))
first_number (next q f) = Memᴰ.tail (first_number f)

-- the outcome o is decided by the tests: it refuses by the first that holds, and a refusal leaves all as it was
pub record Lawful {O : Type 0} (way : Refusing O) (ts : List Test) (o : O) : Type 0 where
  pub refuses : way.why o ≡ first_refusal ts
  pub leaves : (r : Refusal) → way.why o ≡ some r → o ≡ way.refuse r

-- so a call gives a refusal exactly when its condition holds and none earlier in the order does
pub exactly : {O : Type 0} {way : Refusing O} {ts : List Test} {o : O} → Lawful way ts o → (r : Refusal) → (way.why o ≡ some r) ↔ First ts r
exactly {ts = ts} l r = (λ e. (first_is ts r).0 (sym l.refuses ∙ e), λ f. l.refuses ∙ (first_is ts r).1 f)

-- Q where no test holds
abbrev pub Unless : List Test → Type 0 → Type 0
Unless [] Q = Q
Unless (t ∷ ts) Q = t.holds ≡ false → Unless ts Q

-- what holds of every refusal, and of the outcome where no test holds, holds of the outcome
pub lawful_keeps : {O : Type 0} {way : Refusing O} {ts : List Test} {o : O} (P : O → Type 0) → Lawful way ts o → ((r : Refusal) → P (way.refuse r)) → Unless ts (P o) → P o
unfolding first_refusal
lawful_keeps {way = way} {ts} {o} P l refused rest = go (way.why o) refl
  where
    past : (ts : List Test) → first_refusal ts ≡ none → Unless ts (P o) → P o
    past [] e f = f
    past (t ∷ ts) e f = by t.holds refl (past ts)
      where
        by : (b : Bool) → t.holds ≡ b → (first_refusal ts ≡ none → Unless ts (P o) → P o) → P o
        by true q rest = absurd (none-ne-some t.why (sym e ∙ rw (first_refusal, q)))
        by false q rest = rest (rw (first_refusal, q) at e) (f q)

    go : (x : Option Refusal) → way.why o ≡ x → P o
    go (some r) e = rw (l.leaves r e) (refused r)
    go none e = past ts (sym l.refuses ∙ e) rest

module _ {O : Type 0} {way : Refusing O} where
  -- no test is left, and the call is done
  pub is_done_lem : {o : O} → way.why o ≡ none → Lawful way [] o
  unfolding first_refusal
  is_done_lem e = record { refuses = e; leaves = λ r q. absurd (none-ne-some r (sym e ∙ q)) }

  -- one test more
  pub tested : {b : Bool} {r : Refusal} {ts : List Test} {rest : O} → (b ≡ false → Lawful way ts rest) → Lawful way (test b r ∷ ts) (b ⇒ way.refuse r ∣ rest)
  unfolding first_refusal
  tested {b = true} {r} f =
      record { refuses = way.says r; leaves = λ q e. let e' : some r ≡ some q = sym (way.says r) ∙ e in let z : r ≡ q = cc in ap way.refuse z }
  tested {b = false} f = let l = f refl in record { refuses = l.refuses; leaves = l.leaves }

  -- the test that holds
  pub stopped : {r : Refusal} {ts : List Test} → Lawful way (test true r ∷ ts) (way.refuse r)
  stopped {r} = tested {rest = way.refuse r} (λ e. absurd (true≢false e))

  -- a test that does not hold
  pub passed : {r : Refusal} {ts : List Test} {rest : O} → Lawful way ts rest → Lawful way (test false r ∷ ts) rest
  passed l = tested (λ e. l)

  module _ {ts : List Test} {rest : O} where
    pub after_admission : (s : Store) → (within_limits s ≡ true → common_test s ≡ true → Lawful way ts rest) → Lawful way (limits_test s ∷ record_test s ∷ ts) (admitted way.refuse s rest)
    after_admission s f = tested (λ l. tested (λ c. f (not-false _ l) (not-false _ c)))

    after_rules : (i : ℕ) → (i ≡ 0 → Lawful way ts rest) → Lawful way (test (not (eqb i 0)) (Refusal.Broken i) ∷ ts) (unbroken way.refuse i rest)
    after_rules zero f = passed (f refl)
    after_rules (suc i) f = let q : eqb (suc i) 0 ≡ false = ne_eqb (suc i) 0 (λ (e : suc i ≡ 0). omega arith) in rw q stopped

  pub after_audit : {ts : List Test} {rest : O} (s : Store) → (within_limits s ≡ true → common_test s ≡ true → broken_rule s ≡ 0 → Lawful way ts rest)
      → Lawful way (limits_test s ∷ record_test s ∷ audit_test s ∷ ts) (audited way.refuse s rest)
  after_audit s f = after_admission s (λ l c. after_rules (broken_rule s) (λ b. f l c b))
