-- Facts to tests: a test over a list, or over the numbers below a bound, passes where it passes at each; and a list of zeros both ways. By
-- recursion on the list or on the bound.
use Prim.Native.Nat.{ℕ, zero, suc, ◌+◌, ◌-◌, ◌≤◌, ◌<◌, zero-le, suc-le-suc}
use native.Mathlib.Omega.{arith}
use native.Mathlib.Nat.{le_refl}
use mathlib.Core.Path.{◌≡◌, refl, sym, ap, ◌∙◌}
use mathlib.Core.Bool.{Bool, true, false, ◌&&◌, ◌||◌, or-true, true≢false}
use mathlib.Core.List.{List, [], ◌∷◌, Memᴰ}
use lib.ListN.{length, drop, length-drop}
use lib.Seq.{get_or-drop}
use lib.Dec.{eqb}
use borrow.Author.Tests.{eqb-true, eq-eqb}
use Rattle.laws.specs.Lists.{at, all, all_from, all_below, zeros}
use Rattle.laws.proofs.Tests.{both, all_cons, cons_all, from_step, below_in}

pub and_of : {a b : Bool} → a ≡ true → b ≡ true → (a && b) ≡ true
and_of p q = rw (p, q)

pub or_left : (a b : Bool) → a ≡ true → (a || b) ≡ true
or_left a b e = rw e

pub or_right : (a b : Bool) → b ≡ true → (a || b) ≡ true
or_right a b e = rw (e, or-true)

pub not_both : {A : Type 0} {b : Bool} → b ≡ true → b ≡ false → A
not_both p q = absurd (true≢false (sym p ∙ q))

-- two tests that pass together are one
pub same_test : (a b : Bool) → (a ≡ true → b ≡ true) → (b ≡ true → a ≡ true) → a ≡ b
same_test true b f g = sym (f refl)
same_test false true f g = g refl
same_test false false f g = refl

module _ {A : Type 0} (p : A → Bool) where
  pub all_of : (xs : List A) → ((x : A) → Memᴰ x xs → p x ≡ true) → all p xs ≡ true
  unfolding all
  all_of [] f = refl
  all_of (x ∷ xs) f = cons_all p x xs (f x (Memᴰ.head refl)) (all_of xs (λ y m. f y (Memᴰ.tail m)))

-- the same by places
pub all_at : (p : ℕ → Bool) (xs : List ℕ) → all p xs ≡ true → (i : ℕ) → i < length xs → p (at xs i) ≡ true
all_at p [] t i b = absurd (omega arith)
all_at p (x ∷ xs) t zero b = (all_cons p x xs t).0
all_at p (x ∷ xs) t (suc i) b = all_at p xs (all_cons p x xs t).1 i (omega arith)

pub at_all : (p : ℕ → Bool) (xs : List ℕ) → ((i : ℕ) → i < length xs → p (at xs i) ≡ true) → all p xs ≡ true
unfolding all
at_all p [] f = refl
at_all p (x ∷ xs) f = cons_all p x xs (f 0 (suc-le-suc zero-le)) (at_all p xs (λ i b. f (suc i) (suc-le-suc b)))

pub from_of : (p : ℕ → Bool) (m j : ℕ) → ((i : ℕ) → j ≤ i → i < j + m → p i ≡ true) → all_from p m j ≡ true
unfolding all_from
from_of p zero j f = refl
from_of p (suc m) j f = from_step p m j ∙ and_of (f j (le_refl j) (omega arith)) (from_of p m (suc j) (λ i a b. f i (omega arith) (omega arith)))

pub below_of : (p : ℕ → Bool) (n : ℕ) → ((i : ℕ) → i < n → p i ≡ true) → all_below p n ≡ true
below_of p n f = from_of p n 0 (λ i a b. f i (omega arith))

-- two tests below a bound, each and together
pub below_and : (p q : ℕ → Bool) (n : ℕ) → all_below (λ i. p i && q i) n ≡ (all_below p n && all_below q n)
below_and p q n =
    same_test (all_below (λ i. p i && q i) n) (all_below p n && all_below q n)
    (λ t. let each : (i : ℕ) → i < n → (p i ≡ true) × (q i ≡ true) = λ i b. both (below_in (λ i. p i && q i) n t i b) in and_of (below_of p n (λ i b. (each i b).0)) (below_of q n (λ i b. (each i b).1)))
    (λ t. let (a, b) = both {a = all_below p n} t in below_of (λ i. p i && q i) n (λ i l. and_of (below_in p n a i l) (below_in q n b i l)))

-- each word is 0
zeros_all : (ws : List ℕ) → zeros ws ≡ all (λ w. eqb w 0) ws
unfolding zeros all
zeros_all [] = refl
zeros_all (w ∷ ws) = ap (λ r. elim (eqb w 0) [ true ↦ r | false ↦ false ]) (zeros_all ws)

pub zeros_in : (ws : List ℕ) → zeros ws ≡ true → (i : ℕ) → i < length ws → at ws i ≡ 0
zeros_in ws t i b = eqb-true (at ws i) 0 (all_at (λ w. eqb w 0) ws (sym (zeros_all ws) ∙ t) i b)

pub zeros_of : (ws : List ℕ) → ((i : ℕ) → i < length ws → at ws i ≡ 0) → zeros ws ≡ true
zeros_of ws f = zeros_all ws ∙ at_all (λ w. eqb w 0) ws (λ i b. eq-eqb (at ws i) 0 (f i b))

-- the same of the words from place u on
pub zeros_behind : (u : ℕ) (ws : List ℕ) → zeros (drop u ws) ≡ true → (x : ℕ) → u ≤ x → x < length ws → at ws x ≡ 0
zeros_behind u ws t x p q =
    let e : x ≡ u + (x - u) = omega arith in
    ap (at ws) e ∙ sym (get_or-drop u ws (x - u) 0) ∙ zeros_in (drop u ws) t (x - u) (omega (arith, length-drop u ws))

pub behind_zeros : (u : ℕ) (ws : List ℕ) → ((x : ℕ) → u ≤ x → x < length ws → at ws x ≡ 0) → zeros (drop u ws) ≡ true
behind_zeros u ws f = zeros_of (drop u ws) (λ i b. get_or-drop u ws i 0 ∙ f (u + i) (omega arith) (omega (arith, length-drop u ws)))
