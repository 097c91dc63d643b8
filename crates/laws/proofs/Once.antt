-- Lists of numbers in which each stands once, chains by links, sums and the pigeonhole. What follows a number in a chain is decided by the
-- number, so a chain that ends never repeats; what stands once in a list sums to no more than the whole list; and n numbers below n of which
-- each stands once are all of them.
use Prim.Native.Nat.{ℕ, zero, suc, ◌+◌, ◌≤◌, ◌<◌, zero-le, suc-le-suc}
use native.Mathlib.Omega.{arith}
use native.Mathlib.Nat.{le_refl}
use native.Mathlib.Decide.{ℕ_discrete}
use mathlib.Core.Path.{◌≡◌, refl, sym, ap, ◌∙◌}
use mathlib.Core.Logic.{◌≢◌, ◌⊎◌, inl, inr, ∥∥₁_elim}
use mathlib.Core.HLevel.{⊥_prop}
use mathlib.Core.Bool.{true}
use mathlib.Core.List.Memᴰ
use mathlib.Core.List.{List, [], ◌∷◌, ◌++◌, Memᴰ, Nodup, Nodup-nil, Nodup-cons}
use lib.ListN.{length}
use lib.Dec.{eqb}
use borrow.Author.Tests.{eqb-true, eq-eqb, ne_eqb}
use Rattle.laws.specs.Lists.{times, all_below}
use Rattle.laws.specs.Sums.{sum_over}
use Rattle.laws.proofs.Tests.{below_in}
use Rattle.laws.proofs.Facts.{below_of, same_test}
use Rattle.laws.proofs.Sums.{sum_same, sum_append, sum_ones}

pub data Once : List ℕ → Type 0 where
  once_none : Once []
  once_more : {k : ℕ} {ks : List ℕ} → (Memᴰ k ks → ⊥) → Once ks → Once (k ∷ ks)

pub once_tail : {k : ℕ} {ks : List ℕ} → Once (k ∷ ks) → Once ks
once_tail (once_more f o) = o

pub once_head : {k : ℕ} {ks : List ℕ} → Once (k ∷ ks) → Memᴰ k ks → ⊥
once_head (once_more f o) = f

-- another than the first is behind it
pub in_tail : {k x : ℕ} {ks : List ℕ} → x ≢ k → Memᴰ x (k ∷ ks) → Memᴰ x ks
in_tail {k} {x} {ks} ne m = go (Memᴰ.cases_cons m)
  where
    go : (x ≡ k) ⊎ Memᴰ x ks → Memᴰ x ks
    go (inl e) = absurd (ne e)
    go (inr t) = t

-- the kit's word for it
pub once_nodup : {ks : List ℕ} → Once ks → Nodup ks
once_nodup once_none = Nodup-nil
once_nodup (once_more f o) = Nodup-cons.1 (λ m. ∥∥₁_elim m ⊥_prop f, once_nodup o)

pub data Last : List ℕ → ℕ → Type 0 where
  only : {k : ℕ} → Last (k ∷ []) k
  later : {k l : ℕ} {ks : List ℕ} → Last ks l → Last (k ∷ ks) l

pub last_in : {ks : List ℕ} {k : ℕ} → Last ks k → Memᴰ k ks
last_in only = Memᴰ.head refl
last_in (later t) = Memᴰ.tail (last_in t)

-- the numbers ks follow one another by the links l, from x on; a link is a number plus 1, or 0 at the end
pub data Linked (l : ℕ → ℕ) : ℕ → List ℕ → Type 0 where
  stop : Linked l 0 []
  goes : {k : ℕ} {ks : List ℕ} → Linked l (l k) ks → Linked l (suc k) (k ∷ ks)

-- a single page that links to none
pub linked_single : {l : ℕ → ℕ} {k : ℕ} → l k ≡ 0 → Linked l (suc k) (k ∷ [])
linked_single {l} {k} e = let t : Linked l (l k) [] = rw e stop in goes t

pub linked_same : {l m : ℕ → ℕ} {x : ℕ} {ks : List ℕ} → ((k : ℕ) → Memᴰ k ks → l k ≡ m k) → Linked l x ks → Linked m x ks
linked_same e stop = stop
linked_same e (goes {k} t) = goes (rw (e k (Memᴰ.head refl)) at (linked_same (λ x p. e x (Memᴰ.tail p)) t))

-- ---- chains

pub linked_none : {l : ℕ → ℕ} {x : ℕ} → Linked l x [] → x ≡ 0
linked_none stop = refl

-- what a chain begins with
pub linked_first : {l : ℕ → ℕ} {x k : ℕ} {ks : List ℕ} → Linked l x (k ∷ ks) → (x ≡ suc k) × Linked l (l k) ks
linked_first (goes t) = (refl, t)

-- the numbers of a chain are decided by where it starts
pub linked_one : {l : ℕ → ℕ} {x : ℕ} {ks ms : List ℕ} → Linked l x ks → Linked l x ms → ks ≡ ms
linked_one stop stop = refl
linked_one (goes {k} t) (goes u) = ap (λ r. k ∷ r) (linked_one t u)

-- a chain goes on behind each of its numbers, with numbers of its own, and there it is shorter
pub linked_from : {l : ℕ → ℕ} {x k : ℕ} {ks : List ℕ} → Linked l x ks → Memᴰ k ks
    → (ms : List ℕ) × Linked l (l k) ms × (length ms < length ks) × ((y : ℕ) → Memᴰ y ms → Memᴰ y ks)
linked_from {l} {k = k} stop m = elim m [ ]
linked_from {l} (goes {k = y} {ks} t) (Memᴰ.head e) = (ks, rw e t, le_refl _, λ y p. Memᴰ.tail p)
linked_from (goes t) (Memᴰ.tail m) = let r = linked_from t m in (r.0, r.1, (let b = r.2 in omega arith), λ y p. Memᴰ.tail (r.3 y p))

-- the link to a chain of small numbers is small
pub linked_fits : {l : ℕ → ℕ} {x n : ℕ} {ks : List ℕ} → Linked l x ks → ((k : ℕ) → Memᴰ k ks → k < n) → x ≤ n
linked_fits stop small = zero-le
linked_fits (goes {k} t) small = small k (Memᴰ.head refl)

-- a chain that ends never repeats
pub linked_once : {l : ℕ → ℕ} {x : ℕ} {ks : List ℕ} → Linked l x ks → Once ks
linked_once stop = once_none
linked_once (goes t) =
    once_more
    (λ m. let r = linked_from t m in let e = ap length (linked_one t r.1) in let b = r.2 in omega arith)
    (linked_once t)

-- the last number's link is 0
pub linked_last : {l : ℕ → ℕ} {x k : ℕ} {ks : List ℕ} → Linked l x ks → Last ks k → l k ≡ 0
linked_last stop last = elim last [ ]
linked_last (goes t) only = linked_none t
linked_last (goes t) (later u) = linked_last t u

-- and a number whose link is 0 is the last
pub linked_ends : {l : ℕ → ℕ} {x k : ℕ} {ks : List ℕ} → Linked l x ks → Memᴰ k ks → l k ≡ 0 → Last ks k
linked_ends {k = k} stop m q = elim m [ ]
linked_ends (goes {k} t) (Memᴰ.head e) q = head_last (rw (← e) at t) q (sym e)
  where
    head_last : {l : ℕ → ℕ} {k j : ℕ} {ks : List ℕ} → Linked l (l k) ks → l k ≡ 0 → j ≡ k → Last (j ∷ ks) k
    head_last {ks = []} t q e = rw e only
    head_last {ks = y ∷ ys} t q e = let z = (linked_first t).0 in absurd (omega arith)
linked_ends (goes t) (Memᴰ.tail m) q = later (linked_ends t m q)

no_last : {A : Type 0} {l : ℕ} → Last [] l → A
no_last u = elim u [ ]

pub last_one : {ks : List ℕ} {a b : ℕ} → Last ks a → Last ks b → a ≡ b
last_one only only = refl
last_one only (later v) = no_last v
last_one (later u) only = no_last u
last_one (later u) (later v) = last_one u v

-- a chain that is not empty has a last number
last_of : (k : ℕ) (ks : List ℕ) → (z : ℕ) × Last (k ∷ ks) z
last_of k [] = (k, only)
last_of k (y ∷ ys) = let r = last_of y ys in (r.0, later r.1)

pub has_last : {l : ℕ → ℕ} {k : ℕ} {ks : List ℕ} → Linked l (suc k) ks → (z : ℕ) × Last ks z
has_last (goes {k} {ks} t) = last_of k ks

-- ---- one number more, behind the last

pub linked_snoc : {l m : ℕ → ℕ} {x z k : ℕ} {ks : List ℕ} → Linked l x ks → Last ks z → Once ks → m z ≡ suc k → m k ≡ 0
    → ((y : ℕ) → Memᴰ y ks → y ≢ z → l y ≡ m y) → Linked m x (ks ++ k ∷ [])
linked_snoc {m = m} {k = k} stop last o e e' same = elim last [ ]
linked_snoc {m = m} {k = k} (goes {k = z} t) only o e e' same = let t₁ : Linked m (m z) (k ∷ []) = rw e (linked_single e') in goes t₁
linked_snoc {m = m} {z = z} (goes {k = y} t) (later u) (once_more f o) e e' same =
    let rest = linked_snoc t u o e e' (λ w p ne. same w (Memᴰ.tail p) ne) in
    goes (rw (same y (Memᴰ.head refl) (λ q. f (rw (← q) at (last_in u)))) at rest)

-- more numbers in front leave the last the last
pub last_append : (ks : List ℕ) {ms : List ℕ} {z : ℕ} → Last ms z → Last (ks ++ ms) z
last_append [] u = u
last_append (k ∷ ks) u = later (last_append ks u)

pub last_snoc : {k : ℕ} (ks : List ℕ) → Last (ks ++ k ∷ []) k
last_snoc ks = last_append ks only

pub last_is : {k l : ℕ} (ks : List ℕ) → Last (ks ++ k ∷ []) l → l ≡ k
last_is ks u = last_one u (last_snoc ks)

pub in_snoc : {k y : ℕ} (ks : List ℕ) → Memᴰ y (ks ++ k ∷ []) → Memᴰ y ks ⊎ (y ≡ k)
in_snoc {k} {y} ks m = go (Memᴰ.append_cases ks m)
  where
    go : Memᴰ y ks ⊎ Memᴰ y (k ∷ []) → Memᴰ y ks ⊎ (y ≡ k)
    go (inl p) = inl p
    go (inr q) = inr (Memᴰ.eq_of_singleton q)

-- ---- two lists, one after the other

pub once_append : {xs : List ℕ} (ys : List ℕ) → Once xs → Once ys → ((k : ℕ) → Memᴰ k xs → Memᴰ k ys → ⊥) → Once (xs ++ ys)
once_append ys once_none o f = o
once_append ys (once_more {k} {ks} g t) o f = once_more (λ m. go (Memᴰ.append_cases ks m)) (once_append ys t o (λ x p q. f x (Memᴰ.tail p) q))
  where
    go : Memᴰ k ks ⊎ Memᴰ k ys → ⊥
    go (inl p) = g p
    go (inr q) = f k (Memᴰ.head refl) q

-- and the parts of such a list
pub once_split : {ys : List ℕ} (xs : List ℕ) → Once (xs ++ ys) → Once xs × Once ys
once_split [] o = (once_none, o)
once_split {ys} (x ∷ xs) o = let t = once_split xs (once_tail o) in (once_more (λ m. once_head o (Memᴰ.append_left ys m)) t.0, t.1)

pub once_snoc : {k : ℕ} {ks : List ℕ} → Once ks → (Memᴰ k ks → ⊥) → Once (ks ++ k ∷ [])
once_snoc {k} o f = once_append (k ∷ []) o (once_more (λ m. Memᴰ.not-nil m) once_none) (λ x p q. f (rw (Memᴰ.eq_of_singleton q) at p))

-- ---- numbers that stand once, and how often a number stands in a list

pub times_head : (k x : ℕ) (xs : List ℕ) → k ≡ x → times k (x ∷ xs) ≡ suc (times k xs)
unfolding times
times_head k x xs e = rw (times, eq-eqb k x e)

pub times_tail : (k x : ℕ) (xs : List ℕ) → k ≢ x → times k (x ∷ xs) ≡ times k xs
unfolding times
times_tail k x xs ne = rw (times, ne_eqb k x ne)

pub times_none : (k : ℕ) (xs : List ℕ) → (Memᴰ k xs → ⊥) → times k xs ≡ 0
unfolding times
times_none k [] f = refl
times_none k (x ∷ xs) f = times_tail k x xs (λ e. f (Memᴰ.head e)) ∙ times_none k xs (λ m. f (Memᴰ.tail m))

pub times_in : (k : ℕ) (xs : List ℕ) → 0 < times k xs → Memᴰ k xs
unfolding times
times_in k [] b = absurd (omega arith)
times_in k (x ∷ xs) b = go (ℕ_discrete k x) (λ q. times_in k xs q)
  where
    go : Dec (k ≡ x) → (0 < times k xs → Memᴰ k xs) → Memᴰ k (x ∷ xs)
    go (yes e) rest = Memᴰ.head e
    go (no ne) rest = Memᴰ.tail (rest (rw (times_tail k x xs ne) at b))

pub times_some : (k : ℕ) (xs : List ℕ) → Memᴰ k xs → 0 < times k xs
times_some k (x ∷ xs) m = go (ℕ_discrete k x) (λ q. times_some k xs q)
  where
    go : Dec (k ≡ x) → (Memᴰ k xs → 0 < times k xs) → 0 < times k (x ∷ xs)
    go (yes e) rest = rw (times_head k x xs e) (suc-le-suc zero-le)
    go (no ne) rest = rw (times_tail k x xs ne) (rest (in_tail ne m))
times_some k [] m = absurd (Memᴰ.not-nil m)

pub member? : (k : ℕ) (xs : List ℕ) → Dec (Memᴰ k xs)
member? k xs = go (times k xs) refl
  where
    go : (m : ℕ) → times k xs ≡ m → Dec (Memᴰ k xs)
    go zero e = no (λ m. let b = times_some k xs m in omega arith)
    go (suc m) e = yes (times_in k xs (omega arith))

pub times_once : {xs : List ℕ} → Once xs → (k : ℕ) → Memᴰ k xs → times k xs ≡ 1
times_once once_none k m = absurd (Memᴰ.not-nil m)
times_once (once_more {k = x} {ks} f o) k m = go (ℕ_discrete k x) (λ q. times_once o k q)
  where
    go : Dec (k ≡ x) → (Memᴰ k ks → times k ks ≡ 1) → times k (x ∷ ks) ≡ 1
    go (yes e) rest = times_head k x ks e ∙ ap suc (times_none k ks (λ q. f (rw e at q)))
    go (no ne) rest = times_tail k x ks ne ∙ rest (in_tail ne m)

pub once_times : (xs : List ℕ) → ((k : ℕ) → Memᴰ k xs → times k xs ≡ 1) → Once xs
once_times [] f = once_none
once_times (x ∷ xs) f = once_more new (once_times xs (λ k m. sym (times_tail k x xs (λ e. new (rw e at m))) ∙ f k (Memᴰ.tail m)))
  where
    new : Memᴰ x xs → ⊥
    new m =
        let a = f x (Memᴰ.head refl) in
        let b = times_head x x xs refl in
        let c = times_some x xs m in
        omega arith

-- ---- sums over numbers that stand once

-- z counts d more
pub sum_more : (f g : ℕ → ℕ) (z d : ℕ) {xs : List ℕ} → Once xs → Memᴰ z xs → g z ≡ f z + d → ((x : ℕ) → Memᴰ x xs → x ≢ z → f x ≡ g x)
    → sum_over g xs ≡ sum_over f xs + d
unfolding sum_over
sum_more f g z d once_none m e same = absurd (Memᴰ.not-nil m)
sum_more f g z d (once_more {k = y} {ks} new o) m e same = go (Memᴰ.cases_cons m) (λ q. sum_more f g z d o q e (λ x p. same x (Memᴰ.tail p)))
  where
    go : (z ≡ y) ⊎ Memᴰ z ks → (Memᴰ z ks → sum_over g ks ≡ sum_over f ks + d) → g y + sum_over g ks ≡ f y + sum_over f ks + d
    go (inl q) rest =
        let a = sum_same f g ks (λ x p. same x (Memᴰ.tail p) (λ t. new (rw (t ∙ q) at p))) in
        let b : g y ≡ f y + d = ap g (sym q) ∙ e ∙ ap (λ x. f x + d) q in
        omega arith
    go (inr q) rest =
        let a = rest q in
        let b = same y (Memᴰ.head refl) (λ t. new (rw (← t) at q)) in
        omega arith

-- a member, and the rest
record Split (x : ℕ) (ys : List ℕ) : Type 0 where
  front : List ℕ
  back : List ℕ
  is : ys ≡ front ++ x ∷ back

split_at : {x : ℕ} (ys : List ℕ) → Memᴰ x ys → Split x ys
split_at [] m = absurd (Memᴰ.not-nil m)
split_at {x} (y ∷ ys) m = go (Memᴰ.cases_cons m) (λ q. split_at ys q)
  where
    go : (x ≡ y) ⊎ Memᴰ x ys → (Memᴰ x ys → Split x ys) → Split x (y ∷ ys)
    go (inl e) rest = record { front = []; back = ys; is = ap (λ z. z ∷ ys) (sym e) }
    go (inr q) rest = let t = rest q in record { front = y ∷ t.front; back = t.back; is = ap (λ zs. y ∷ zs) t.is }

rest_in : {x y : ℕ} (us vs : List ℕ) → Memᴰ y (us ++ x ∷ vs) → y ≢ x → Memᴰ y (us ++ vs)
rest_in {x} {y} us vs m ne = go (Memᴰ.append_cases us m)
  where
    go : Memᴰ y us ⊎ Memᴰ y (x ∷ vs) → Memᴰ y (us ++ vs)
    go (inl q) = Memᴰ.append_left vs q
    go (inr q) = Memᴰ.append_right us (in_tail ne q)

-- what stands once and counts only where it is in ys sums to no more than ys does
pub once_sum : (f : ℕ → ℕ) {xs : List ℕ} → Once xs → (ys : List ℕ) → ((x : ℕ) → Memᴰ x xs → Memᴰ x ys ⊎ (f x ≡ 0)) → sum_over f xs ≤ sum_over f ys
unfolding sum_over
once_sum f once_none ys all = zero-le
once_sum f (once_more {k = x} {ks} new o) ys all = go (all x (Memᴰ.head refl)) (λ zs sub. once_sum f o zs sub)
  where
    go : Memᴰ x ys ⊎ (f x ≡ 0) → ((zs : List ℕ) → ((y : ℕ) → Memᴰ y ks → Memᴰ y zs ⊎ (f y ≡ 0)) → sum_over f ks ≤ sum_over f zs) → f x + sum_over f ks ≤ sum_over f ys
    go (inr z) rest = let r = rest ys (λ y m. all y (Memᴰ.tail m)) in omega arith
    go (inl q) rest =
        let s = split_at ys q in
        let r = rest (s.front ++ s.back) (λ y m. left s y m (all y (Memᴰ.tail m))) in
        let a = ap (sum_over f) s.is ∙ sum_append f s.front (x ∷ s.back) in
        let b = sum_append f s.front s.back in
        omega arith
      where
        left : (s : Split x ys) (y : ℕ) → Memᴰ y ks → Memᴰ y ys ⊎ (f y ≡ 0) → Memᴰ y (s.front ++ s.back) ⊎ (f y ≡ 0)
        left s y m (inr z) = inr z
        left s y m (inl t) = inl (rest_in s.front s.back (rw s.is at t) (λ e. new (rw e at m)))

-- ---- the numbers from k on

unfoldable pub counting : ℕ → ℕ → List ℕ
counting zero k = []
counting (suc m) k = k ∷ counting m (suc k)

pub counting_length : (m k : ℕ) → length (counting m k) ≡ m
unfolding counting
counting_length zero k = refl
counting_length (suc m) k = ap suc (counting_length m (suc k))

pub in_counting : (m k i : ℕ) → Memᴰ i (counting m k) → (k ≤ i) × (i < k + m)
unfolding counting
in_counting zero k i m = absurd (Memᴰ.not-nil m)
in_counting (suc c) k i m = go (Memᴰ.cases_cons m) (λ q. in_counting c (suc k) i q)
  where
    go : (i ≡ k) ⊎ Memᴰ i (counting c (suc k)) → (Memᴰ i (counting c (suc k)) → (suc k ≤ i) × (i < suc k + c)) → (k ≤ i) × (i < k + suc c)
    go (inl e) rest = (omega arith, omega arith)
    go (inr q) rest = let t = rest q in let a = t.0 in let b = t.1 in (omega arith, omega arith)

pub counting_in : (m k i : ℕ) → k ≤ i → i < k + m → Memᴰ i (counting m k)
unfolding counting
counting_in zero k i a b = absurd (omega arith)
counting_in (suc m) k i a b = go (ℕ_discrete i k) (λ p q. counting_in m (suc k) i p q)
  where
    go : Dec (i ≡ k) → (suc k ≤ i → i < suc k + m → Memᴰ i (counting m (suc k))) → Memᴰ i (k ∷ counting m (suc k))
    go (yes e) rest = Memᴰ.head e
    go (no ne) rest = Memᴰ.tail (rest (omega arith) (omega arith))

pub counting_once : (m k : ℕ) → Once (counting m k)
unfolding counting
counting_once zero k = once_none
counting_once (suc m) k = once_more (λ i. let b = (in_counting m (suc k) k i).0 in omega arith) (counting_once m (suc k))

pub counting_linked : (l : ℕ → ℕ) (N : ℕ) → ((i : ℕ) → suc i < N → l i ≡ suc (suc i)) → ((i : ℕ) → suc i ≡ N → l i ≡ 0) → (m k : ℕ) → k + suc m ≡ N → Linked l (suc k) (counting (suc m) k)
unfolding counting
counting_linked l N next last zero k e = linked_single (last k (omega arith))
counting_linked l N next last (suc m) k e =
    let r = counting_linked l N next last m (suc k) (omega arith) in
    let t : Linked l (l k) (counting (suc m) (suc k)) = rw (next k (omega arith)) r in
    goes t

-- ---- pigeonhole

-- what stands once and is all in ys is no longer than ys
pub once_fits : {xs : List ℕ} → Once xs → (ys : List ℕ) → ((k : ℕ) → Memᴰ k xs → Memᴰ k ys) → length xs ≤ length ys
once_fits {xs} o ys f = let a = once_sum (λ x. 1) o ys (λ k m. inl (f k m)) in omega (arith, sum_ones xs, sum_ones ys)

-- numbers below n that stand once are at most n
pub once_most : (n : ℕ) {xs : List ℕ} → ((k : ℕ) → Memᴰ k xs → k < n) → Once xs → length xs ≤ n
once_most n {xs} small o = let b = once_fits o (counting n 0) (λ k m. counting_in n 0 k zero-le (omega (arith, small k m))) in omega (arith, counting_length n 0)

module _ (n : ℕ) {xs : List ℕ} (small : (k : ℕ) → Memᴰ k xs → k < n) where
  -- and n of them are all
  pub once_full : Once xs → length xs ≡ n → (k : ℕ) → k < n → Memᴰ k xs
  once_full o e k b = go (member? k xs)
    where
      smaller : (y : ℕ) → Memᴰ y (k ∷ xs) → y < n
      smaller y m = by (Memᴰ.cases_cons m)
        where
          by : (y ≡ k) ⊎ Memᴰ y xs → y < n
          by (inl q) = omega arith
          by (inr q) = small y q

      go : Dec (Memᴰ k xs) → Memᴰ k xs
      go (yes m) = m
      go (no f) = let c = once_most n smaller (once_more f o) in absurd (omega arith)

  -- a list that stands once and has all has n
  pub full_length : Once xs → ((k : ℕ) → k < n → Memᴰ k xs) → length xs ≡ n
  full_length o f =
      let a = once_most n small o in
      let b = once_fits (counting_once n 0) xs (λ k m. f k (let t = (in_counting n 0 k m).1 in omega arith)) in
      omega (arith, counting_length n 0)

  -- "exactly once", as a test of each number below n, says: each stands once, and all are there
  pub each_once : all_below (λ k. eqb (times k xs) 1) n ≡ true → Once xs × ((k : ℕ) → k < n → Memᴰ k xs)
  each_once t =
      let one : (k : ℕ) → k < n → times k xs ≡ 1 = λ k b. eqb-true (times k xs) 1 (below_in (λ k. eqb (times k xs) 1) n t k b) in
      (once_times xs (λ k m. one k (small k m)), λ k b. times_in k xs (let e = one k b in omega arith))

pub once_each : (n : ℕ) {xs : List ℕ} → Once xs → ((k : ℕ) → k < n → Memᴰ k xs) → all_below (λ k. eqb (times k xs) 1) n ≡ true
once_each n {xs} o f = below_of (λ k. eqb (times k xs) 1) n (λ k b. eq-eqb (times k xs) 1 (times_once o k (f k b)))

-- so that among numbers below n of which each stands once, counting is enough
pub once_by_count : (n : ℕ) {xs : List ℕ} → ((k : ℕ) → Memᴰ k xs → k < n) → Once xs
    → all_below (λ k. eqb (times k xs) 1) n ≡ eqb (length xs) n
once_by_count n {xs} small o =
    same_test _ _
    (λ t. eq-eqb (length xs) n (full_length n small o (each_once n small t).1))
    (λ t. once_each n o (once_full n small o (eqb-true (length xs) n t)))
