-- A region's values in order, when a value is added or a word inside one changes. A value that is added comes behind the others, and a word
-- inside a value is no header.
use Prim.Native.Nat.{ℕ, suc, ◌+◌, ◌*◌, ◌^◌, ◌≤◌, ◌<◌}
use native.Mathlib.Omega.{arith}
use native.Mathlib.Decide.{ℕ_discrete}
use mathlib.Core.Path.{◌≡◌, refl, sym, ap, subst}
use mathlib.Core.Logic.{◌≢◌, ◌⊎◌, inl, inr}
use mathlib.Core.List.Memᴰ
use mathlib.Core.List.{List, [], ◌∷◌, ◌++◌, append_assoc, Memᴰ}
use Rattle.laws.specs.Lists.{at}
use Rattle.laws.proofs.Once.{once_none, once_append, Once, once_more, Last, only, later, last_in}
use Rattle.rules.proofs.Steps.{Stands, PageStands, Steps, OnPage, here, over, steps_le, stands_same}
use Rattle.facts.proofs.Inside.{pages_differ}
use Rattle.working.proofs.Next.{Vals, vals_none, vals_empty, vals_more, vals_le, Row, row_last, row_more}

vals_to : {h : List ℕ} {hi a b b' : ℕ} {vs : List ℕ} → b ≡ b' → Vals h hi a b vs → Vals h hi a b' vs
vals_to e t = rw e at t

row_as : {n : ℕ} {h : List ℕ} {fin : ℕ → ℕ} {ks xs ys : List ℕ} → xs ≡ ys → Row n h fin ks xs → Row n h fin ks ys
row_as e t = rw e at t

-- one value more at the end
vals_snoc : {h : List ℕ} {hi a b c l : ℕ} {vs : List ℕ} → Vals h hi a b vs → Stands h hi b l → b + suc l ≡ c → Vals h hi a c (vs ++ b ∷ [])
vals_snoc vals_none st e = vals_more st (vals_empty e)
vals_snoc (vals_more st' t) st e = vals_more st' (vals_snoc t st e)

-- only the headers matter
vals_headers : {g h : List ℕ} {hi a b : ℕ} {vs : List ℕ} → ((x : ℕ) → Memᴰ x vs → at g x ≡ at h x) → Vals g hi a b vs → Vals h hi a b vs
vals_headers agree vals_none = vals_none
vals_headers agree (vals_more {a} st t) = vals_more (stands_same (agree a (Memᴰ.head refl)) st) (vals_headers (λ x m. agree x (Memᴰ.tail m)) t)

-- the same headers, and pages that end where they did
pub row_like : {n : ℕ} {g h : List ℕ} {fin fin' : ℕ → ℕ} {ks vs : List ℕ} → ((x : ℕ) → Memᴰ x vs → at g x ≡ at h x) → ((k : ℕ) → Memᴰ k ks → fin k ≡ fin' k)
    → Row n g fin ks vs → Row n h fin' ks vs
row_like agree ends (row_last {k} v) = row_last (vals_to (ends k (Memᴰ.head refl)) (vals_headers agree v))
row_like {n} agree ends (row_more {k} {k'} {vs = vs} {bs = bs} v ne t) =
    row_more (vals_to (ends k (Memᴰ.head refl)) (vals_headers (λ x m. agree x (Memᴰ.append_left bs m)) v))
    (subst (λ b. k' * 2 ^ n + 2 < b) (ends k' (Memᴰ.tail (Memᴰ.head refl))) ne) (row_like (λ x m. agree x (Memᴰ.append_right vs m)) (λ m p. ends m (Memᴰ.tail p)) t)

-- one value more in the last page z
pub row_snoc : {n : ℕ} {h : List ℕ} {fin fin' : ℕ → ℕ} {ks vs : List ℕ} {z l : ℕ} → Row n h fin ks vs → Last ks z → Once ks → PageStands n h z (fin z) l
    → fin z + suc l ≡ fin' z → ((k : ℕ) → Memᴰ k ks → k ≢ z → fin k ≡ fin' k) → Row n h fin' ks (vs ++ fin z ∷ [])
row_snoc (row_last v) only o st e same = row_last (vals_snoc v st e)
row_snoc (row_last v) (later u) o st e same = elim u [ ]
row_snoc {n} {h} {fin} {fin'} {z = z} {l} (row_more {k} {k'} {vs = vs} {bs = bs} v ne t) (later u) (once_more f o) st e same =
    row_as (sym (append_assoc vs bs (fin z ∷ [])))
    (row_more (vals_to (same k (Memᴰ.head refl) (λ q. f (rw (← q) at (last_in u)))) v)
    (grows (ℕ_discrete k' z))
    (row_snoc t u o st e (λ m p. same m (Memᴰ.tail p))))
  where
    grows : Dec (k' ≡ z) → k' * 2 ^ n + 2 < fin' k'
    grows (yes q) = let a : fin k' ≡ fin z = ap fin q in let b : fin' k' ≡ fin' z = ap fin' q in omega arith
    grows (no ne') = let a = same k' (Memᴰ.tail (Memᴰ.head refl)) ne' in omega arith

-- a value in a page that was added for it
pub row_page : {n : ℕ} {h : List ℕ} {fin : ℕ → ℕ} {ks vs : List ℕ} {k l : ℕ} → Row n h fin ks vs → PageStands n h k (k * 2 ^ n + 2) l → k * 2 ^ n + 2 + suc l ≡ fin k
    → Row n h fin (ks ++ k ∷ []) (vs ++ (k * 2 ^ n + 2) ∷ [])
row_page {n} {h} {fin} {k = k} {l} (row_last v) st e =
    let one : Vals h (k * 2 ^ n + 2 ^ n) (k * 2 ^ n + 2) (fin k) ((k * 2 ^ n + 2) ∷ []) = vals_more st (vals_empty e) in
    let more : k * 2 ^ n + 2 < fin k = omega arith in
    row_more v more (row_last one)
row_page {n} {h} {fin} {k = k} (row_more {vs = vs} {bs = bs} v ne t) st e =
    row_as (sym (append_assoc vs bs ((k * 2 ^ n + 2) ∷ []))) (row_more v ne (row_page t st e))

-- ---- what stands in a row

-- b is a value of page k, one of the pages ks
pub record InRow (n : ℕ) (h : List ℕ) (fin : ℕ → ℕ) (ks : List ℕ) (b : ℕ) : Type 0 where
  pub page : ℕ
  pub here : Memᴰ page ks
  pub len : ℕ
  pub value : OnPage n h page b len
  pub below : b + suc len ≤ fin page

vals_in_lem : {h : List ℕ} {hi a e : ℕ} {vs : List ℕ} {b : ℕ} → Vals h hi a e vs → Memᴰ b vs → (l : ℕ) × Steps h hi a b × Stands h hi b l × (b + suc l ≤ e)
vals_in_lem {b = b} vals_none m = elim m [ ]
vals_in_lem {h} {hi} {b = b} (vals_more {a} {l = l} st t) (Memᴰ.head q) = let k = vals_le t in (l, rw q here, rw q st, omega arith)
vals_in_lem (vals_more st t) (Memᴰ.tail m) = let r = vals_in_lem t m in (r.0, over st r.1, r.2, r.3)

pub row_in : {n : ℕ} {h : List ℕ} {fin : ℕ → ℕ} {ks vs : List ℕ} {b : ℕ} → Row n h fin ks vs → Memᴰ b vs → InRow n h fin ks b
row_in (row_last {k} v) m =
    let r = vals_in_lem v m in
    record { page = k; here = Memᴰ.head refl; len = r.0; value = record { steps = r.1; stands = r.2 }; below = r.3 }
row_in {n} {h} {fin} {b = b} (row_more {k} {k'} {ks} {vs} {bs} v ne t) m = go (Memᴰ.append_cases vs m) (λ q. row_in t q)
  where
    go : Memᴰ b vs ⊎ Memᴰ b bs → (Memᴰ b bs → InRow n h fin (k' ∷ ks) b) → InRow n h fin (k ∷ k' ∷ ks) b
    go (inl q) rest = let r = vals_in_lem v q in record { page = k; here = Memᴰ.head refl; len = r.0; value = record { steps = r.1; stands = r.2 }; below = r.3 }
    go (inr q) rest =
        let r = rest q in
        record { page = r.page; here = Memᴰ.tail r.here; len = r.len; value = r.value; below = r.below }

-- the same words below each page's end, and the same ends
pub row_same : {n : ℕ} {g h : List ℕ} {fin fin' : ℕ → ℕ} {ks vs : List ℕ}
    → ((k x : ℕ) → Memᴰ k ks → k * 2 ^ n + 2 ≤ x → x < fin k → at g x ≡ at h x) → ((k : ℕ) → Memᴰ k ks → fin k ≡ fin' k) → Row n g fin ks vs → Row n h fin' ks vs
row_same agree ends t = row_like (λ x m. let F = row_in t m in let b = F.below in agree F.page x F.here (steps_le F.value.steps) (omega arith)) ends t

vals_once : {h : List ℕ} {hi a e : ℕ} {vs : List ℕ} → Vals h hi a e vs → Once vs
vals_once vals_none = once_none
vals_once {h} {hi} (vals_more {a} {l = l} {vs = vs} st t) = once_more (λ (m : Memᴰ a vs). let r = vals_in_lem t m in let k = steps_le r.1 in omega arith) (vals_once t)

-- no value stands twice in a row
pub row_once : {n : ℕ} {h : List ℕ} {fin : ℕ → ℕ} {ks vs : List ℕ} → Row n h fin ks vs → Once ks → Once vs
row_once (row_last v) o = vals_once v
row_once {n} {h} {fin} (row_more {k} {k'} {ks} {vs} {bs} v ne t) (once_more f o) =
    once_append bs (vals_once v) (row_once t o)
    (λ b p q. let w : Row n h fin (k ∷ []) vs = row_last v in let x = row_in w p in let y = row_in t q in pages_differ x.value y.value (λ e. f (rw (← e, Memᴰ.eq_of_singleton x.here) at y.here)) refl)
