-- Tests to facts: what a test over a list or over the numbers below a bound says of each; and one turn of such a test. Each is one recursion or
-- one turn of it: a test of all tests one, and then the rest.
use Prim.Native.Nat.{ℕ, zero, suc, ◌+◌, ◌-◌, ◌≤◌, ◌<◌, zero-le}
use native.Mathlib.Numerals.{sub-one, add-one}
use native.Mathlib.Nat.{zero-add, add-zero}
use native.Mathlib.Omega.{arith}
use native.Mathlib.Decide.{ℕ_discrete}
use mathlib.Core.Path.{◌≡◌, refl, sym, ap, ◌∙◌}
use mathlib.Core.Bool.{Bool, true, false, ◌&&◌, and_assoc, and-eq-true_iff}
use mathlib.Core.List.{List, [], ◌∷◌, Memᴰ}
use lib.ListN.{length, get_or, take, drop}
use lib.Seq.{slice, slice-cons, take-length}
use lib.Dec.{eqb}
use borrow.Author.Tests.{lt-ltb, le-ltb, le-leb, lt-leb, eq-eqb, ne_eqb}
use Rattle.laws.specs.Lists.{all, all_from, all_below}
use Rattle.laws.proofs.Lists.{slice_none, drop_take}

-- what turns the tests of a definition into the tests that the code made
pub ruleset tests = (lt-ltb, le-ltb, le-leb, lt-leb, eq-eqb, ne_eqb)

-- a word x that was read, and what it is: the test of a definition is the test that the code made
pub is_eqb : (x w y : ℕ) → x ≡ w → x ≡ y → eqb w y ≡ true
is_eqb x w y e q = eq-eqb w y (sym e ∙ q)

pub not_eqb : (x w y : ℕ) → x ≡ w → (x ≡ y → ⊥) → eqb w y ≡ false
not_eqb x w y e ne = ne_eqb w y (λ q. ne (e ∙ q))

pub both : {a b : Bool} → (a && b) ≡ true → (a ≡ true) × (b ≡ true)
both {a} {b} e = (and-eq-true_iff a b).0 e

-- eight tests that pass together
pub eight_hold : {a b c d e f g h : Bool} → (a && b && c && d && e && f && g && h) ≡ true
    → (a ≡ true) × (b ≡ true) × (c ≡ true) × (d ≡ true) × (e ≡ true) × (f ≡ true) × (g ≡ true) × (h ≡ true)
eight_hold {a} {b} {c} {d} {e} {f} {g} t =
    let (t₁, ph) = both {a = a && b && c && d && e && f && g} t in
    let (t₂, pg) = both {a = a && b && c && d && e && f} t₁ in
    let (t₃, pf) = both {a = a && b && c && d && e} t₂ in
    let (t₄, pe) = both {a = a && b && c && d} t₃ in
    let (t₅, pd) = both {a = a && b && c} t₄ in
    let (t₆, pc) = both {a = a && b} t₅ in
    let (pa, pb) = both {a = a} t₆ in
    (pa, pb, pc, pd, pe, pf, pg, ph)

-- a test and then the others
pub then_and : (a b : Bool) → (elim a [ true ↦ b | false ↦ false ]) ≡ (a && b)
then_and true b = refl
then_and false b = refl

module _ {A : Type 0} (p : A → Bool) where
  -- one turn of a test of all
  all_step : (x : A) (xs : List A) → all p (x ∷ xs) ≡ (p x && all p xs)
  unfolding all
  all_step x xs = then_and (p x) (all p xs)

  pub all_cons : (x : A) (xs : List A) → all p (x ∷ xs) ≡ true → (p x ≡ true) × (all p xs ≡ true)
  all_cons x xs t = both (sym (all_step x xs) ∙ t)

  pub cons_all : (x : A) (xs : List A) → p x ≡ true → all p xs ≡ true → all p (x ∷ xs) ≡ true
  cons_all x xs e t = all_step x xs ∙ rw (e, t)

  pub all_in : (xs : List A) → all p xs ≡ true → (x : A) → Memᴰ x xs → p x ≡ true
  all_in [] t x m = elim m [ ]
  all_in (y ∷ ys) t x (Memᴰ.head q) = ap p q ∙ (all_cons y ys t).0
  all_in (y ∷ ys) t x (Memᴰ.tail m) = all_in ys (all_cons y ys t).1 x m

  -- and of one with what comes after it
  pub all_turn : (x : A) (xs : List A) (r : Bool) → (all p (x ∷ xs) && r) ≡ (p x && (all p xs && r))
  all_turn x xs r = ap (λ b. b && r) (all_step x xs) ∙ and_assoc (p x) (all p xs) r

pub from_step : (p : ℕ → Bool) (m j : ℕ) → all_from p (suc m) j ≡ (p j && all_from p m (suc j))
unfolding all_from
from_step p m j = then_and (p j) (all_from p m (suc j))

pub from_go : (p : ℕ → Bool) (m j : ℕ) → 0 < m → all_from p m j ≡ (p j && all_from p (m - 1) (j + 1))
from_go p zero j l = absurd (omega arith)
from_go p (suc m) j l = rw (sub-one (suc m), add-one j) (from_step p m j)

pub from_in : (p : ℕ → Bool) (m j : ℕ) → all_from p m j ≡ true → (i : ℕ) → j ≤ i → i < j + m → p i ≡ true
from_in p zero j t i a b = absurd (omega arith)
from_in p (suc m) j t i a b = go (ℕ_discrete i j) (both {a = p j} (sym (from_step p m j) ∙ t)) (λ u. from_in p m (suc j) u)
  where
    go : Dec (i ≡ j) → (p j ≡ true) × (all_from p m (suc j) ≡ true) → (all_from p m (suc j) ≡ true → (i : ℕ) → suc j ≤ i → i < suc j + m → p i ≡ true) → p i ≡ true
    go (yes q) t rest = ap p q ∙ t.0
    go (no ne) t rest = rest t.1 i (omega arith) (omega arith)

pub below_in : (p : ℕ → Bool) (n : ℕ) → all_below p n ≡ true → (i : ℕ) → i < n → p i ≡ true
below_in p n t i b = from_in p n 0 t i zero-le (omega arith)

pub from_stop : (p : ℕ → Bool) (m j : ℕ) → 0 < m → p j ≡ false → all_from p m j ≡ false
from_stop p m j l e = from_go p m j l ∙ ap (λ b. b && all_from p (m - 1) (j + 1)) e

pub from_end : (p : ℕ → Bool) (m j : ℕ) → m ≤ 0 → all_from p m j ≡ true
unfolding all_from
from_end p zero j l = refl
from_end p (suc m) j l = absurd (omega arith)

-- a run of tests, cut in two
pub from_add : (p : ℕ → Bool) (a b j : ℕ) → all_from p (a + b) j ≡ (all_from p a j && all_from p b (j + a))
unfolding all_from
from_add p zero b j = rw (zero-add, add-zero)
from_add p (suc a) b j =
    let q : suc a + b ≡ suc (a + b) = omega arith in
    let k : j + suc a ≡ suc j + a = omega arith in
    rw (q, k)
    (from_step p (a + b) j ∙ ap (λ t. p j && t) (from_add p a b (suc j)) ∙ sym (and_assoc (p j) (all_from p a (suc j)) (all_from p b (suc j + a))) ∙ ap (λ t. t && all_from p b (suc j + a)) (sym (from_step p a j)))

-- fields, from address f up to address e
module _ (p : ℕ → Bool) (h : List ℕ) (f e : ℕ) (r : Bool) where
  pub fields_end : e ≤ f → (all p (slice f e h) && r) ≡ r
  unfolding all
  fields_end b = rw (slice_none f e h b)

  pub fields_go : f < e → e ≤ length h → p (get_or h f 0) ≡ true → (all p (slice f e h) && r) ≡ (all p (slice (f + 1) e h) && r)
  fields_go b c t = rw (slice-cons f e h 0 b c, all_turn p, t, add-one f)

  pub fields_stop : f < e → e ≤ length h → p (get_or h f 0) ≡ false → (all p (slice f e h) && r) ≡ false
  fields_stop b c t = rw (slice-cons f e h 0 b c, all_turn p, t)

-- the words from place f up to place e, taken as a part
pub part_all : (p : ℕ → Bool) (h : List ℕ) (f e : ℕ) (r : Bool) → f ≤ e
    → (all p (slice f e h) && r) ≡ (all p (slice 0 (length (take (e - f) (drop f h))) (take (e - f) (drop f h))) && r)
part_all p h f e r b = let q : f + (e - f) ≡ e = omega arith in rw (take-length (take (e - f) (drop f h)), ← drop_take f (e - f) h, q)
