-- Where the scan of a region goes on: the values of a region in their order, and the address after each. Behind a value stands the next of
-- its page; behind a page's last value a 0 or the page's end, and no page but the first is empty.
use Prim.Native.Nat.{ℕ, suc, ◌+◌, ◌-◌, ◌*◌, ◌%◌, ◌^◌, ◌≤◌, ◌<◌}
use native.Mathlib.Nat.{le_refl, mul-mod_left}
use native.Mathlib.Numerals.{sub-one}
use native.Mathlib.Omega.{arith}
use native.Mathlib.Decide.{ℕ_discrete}
use mathlib.Core.Path.{◌≡◌, refl, sym, ap, ◌∙◌}
use mathlib.Core.Logic.{◌≢◌}
use mathlib.Core.Bool.{true, false, ◌||◌}
use mathlib.Core.List.{List, [], ◌∷◌, ◌++◌, append-nil, Memᴰ}
use lib.Arith.{digits_mod}
use lib.Dec.{eqb}
use borrow.Author.Tests.{eq-eqb, ne_eqb}
use Rattle.rules.specs.Words.{head_of, words_by}
use Rattle.laws.specs.Lists.{at}
use Rattle.laws.proofs.Facts.{or_right}
use Rattle.rules.specs.Memory.{link, top_of}
use Rattle.rules.specs.Pages.{Run}
use Rattle.rules.specs.Collection.{next_from, next_scan}
use Rattle.rules.proofs.Steps.{Stands, PageStands, no_zero}
use Rattle.laws.proofs.Once.{once_tail, once_head, Once, Last, only, later, last_in, Linked, linked_first, last_one}
use Rattle.facts.proofs.Laid.{Owner, mine, Layout, not_top, below_top}
use Rattle.rules.proofs.Pointers.{words_of}
use Rattle.rules.proofs.Chains.{page_of}

-- the values from a to b, in order
pub data Vals (h : List ℕ) (hi : ℕ) : ℕ → ℕ → List ℕ → Type 0 where
  vals_none : {a : ℕ} → Vals h hi a a []
  vals_more : {a b l : ℕ} {vs : List ℕ} → Stands h hi a l → Vals h hi (a + suc l) b vs → Vals h hi a b (a ∷ vs)

pub vals_empty : {h : List ℕ} {hi a b : ℕ} → a ≡ b → Vals h hi a b []
vals_empty e = rw e vals_none

-- the values of the pages, in order; every page but the first holds one
pub data Row (n : ℕ) (h : List ℕ) (fin : ℕ → ℕ) : List ℕ → List ℕ → Type 0 where
  row_last : {k : ℕ} {vs : List ℕ} → Vals h (k * 2 ^ n + 2 ^ n) (k * 2 ^ n + 2) (fin k) vs → Row n h fin (k ∷ []) vs
  row_more : {k k' : ℕ} {ks vs bs : List ℕ} → Vals h (k * 2 ^ n + 2 ^ n) (k * 2 ^ n + 2) (fin k) vs → k' * 2 ^ n + 2 < fin k' → Row n h fin (k' ∷ ks) bs
      → Row n h fin (k ∷ k' ∷ ks) (vs ++ bs)

abbrev pub head_or : ℕ → List ℕ → ℕ
head_or t [] = t
head_or t (x ∷ xs) = x

module _ {n N R : ℕ} {own : ℕ → Owner} {fin : ℕ → ℕ} {pages : ℕ → List ℕ} {free : List ℕ} {r : Run} (L : Layout n N R own fin pages free r)
    (j : ℕ) (j_r : j < R) (k s l : ℕ) (own_k : own k ≡ mine j) (lo : k * 2 ^ n + 2 ≤ s) (st : PageStands n r.heap k s l) where
  abbrev z : ℕ
  z = (L.mine_top j j_r).page

  t_is : s + words_by (head_of (at r.heap s)) ≡ s + suc l
  t_is = ap (λ x. s + x) (words_of (head_of (at r.heap s)) l st.head)

  -- the next value stands right behind
  pub next_here : (m : ℕ) → PageStands n r.heap k (s + suc l) m → s + suc l < fin k → next_scan n j s r ≡ s + suc l
  unfolding next_scan next_from
  next_here m st' below =
      let hi = st.ends in
      let e₁ : eqb (s + suc l) (top_of r.table j) ≡ false = ne_eqb _ _ (below_top L j j_r k (s + suc l) (omega arith) (omega arith) below) in
      let e₂ : eqb ((s + suc l) % 2 ^ n) 0 ≡ false = ne_eqb _ _ not_end in
      let e₃ : eqb (at r.heap (s + suc l)) 0 ≡ false = ne_eqb _ _ (no_zero st') in
      ap (λ t. next_from n j s t r) t_is ∙ rw (e₁, next_from, e₂, e₃)
    where
      not_end : (s + suc l) % 2 ^ n ≢ 0
      not_end q =
          let o : ℕ = s + suc l - k * 2 ^ n in
          let hi = st'.ends in
          let e : s + suc l ≡ k * 2 ^ n + o = omega arith in
          let d : (k * 2 ^ n + o) % 2 ^ n ≡ o = digits_mod k (omega arith) in
          let w : o ≡ 0 = sym d ∙ ap (λ x. x % 2 ^ n) (sym e) ∙ q in
          omega arith

  -- it was the last value of the region
  pub next_none : s + suc l ≡ top_of r.table j → next_scan n j s r ≡ top_of r.table j
  unfolding next_scan next_from
  next_none e = let e₁ : eqb (s + suc l) (top_of r.table j) ≡ true = eq-eqb _ _ e in ap (λ t. next_from n j s t r) t_is ∙ rw (e₁, next_from) e

  -- the next value stands in the next page
  pub next_page_lem : (k' : ℕ) → s + suc l ≡ fin k → k ≢ z → link n r.heap k ≡ suc k' → next_scan n j s r ≡ k' * 2 ^ n + 2
  unfolding next_scan next_from
  next_page_lem k' e ne lk =
      let hi = st.ends in
      let e₁ : eqb (s + suc l) (top_of r.table j) ≡ false = ne_eqb _ _ (not_top L j j_r k (s + suc l) (omega arith) (omega arith) ne) in
      let e₂ : (eqb ((s + suc l) % 2 ^ n) 0 || eqb (at r.heap (s + suc l)) 0) ≡ true = ended (ℕ_discrete (fin k) (k * 2 ^ n + 2 ^ n)) in
      ap (λ t. next_from n j s t r) t_is ∙ rw (e₁, next_from, e₂, page_of n k s (omega arith) (omega arith), lk, sub-one (suc k'))
    where
      ended : Dec (fin k ≡ k * 2 ^ n + 2 ^ n) → (eqb ((s + suc l) % 2 ^ n) 0 || eqb (at r.heap (s + suc l)) 0) ≡ true
      ended (yes q) =
          let w : s + suc l ≡ suc k * 2 ^ n = omega arith in
          let d : (s + suc l) % 2 ^ n ≡ 0 = ap (λ x. x % 2 ^ n) w ∙ mul-mod_left (suc k) (2 ^ n) in
          let u : eqb ((s + suc l) % 2 ^ n) 0 ≡ true = eq-eqb _ _ d in
          rw u
      ended (no f) =
          let b = L.mine_body j k own_k in
          let i = b.inside in
          let u : eqb (at r.heap (s + suc l)) 0 ≡ true = eq-eqb _ _ (b.rest (s + suc l) (omega arith) (omega arith)) in
          or_right (eqb ((s + suc l) % 2 ^ n) 0) _ u

-- ---- the order of a region's values

-- s stands in the list, and what follows it
pub data After : List ℕ → ℕ → List ℕ → Type 0 where
  after_here : {s : ℕ} {ys : List ℕ} → After (s ∷ ys) s ys
  after_there : {x s : ℕ} {xs ys : List ℕ} → After xs s ys → After (x ∷ xs) s ys

-- s stands in the first of two lists, or in the second
data Splits (vs bs : List ℕ) (s : ℕ) (ys : List ℕ) : Type 0 where
  in_front : (us : List ℕ) → After vs s us → ys ≡ us ++ bs → Splits vs bs s ys
  behind : After bs s ys → Splits vs bs s ys

after_split : (vs : List ℕ) {bs : List ℕ} {s : ℕ} {ys : List ℕ} → After (vs ++ bs) s ys → Splits vs bs s ys
after_split [] t = behind t
after_split (v ∷ vs) {bs} {s} {ys} t = go t refl (λ u. after_split vs u)
  where
    up : Splits vs bs s ys → Splits (v ∷ vs) bs s ys
    up (in_front us u e) = in_front us (after_there u) e
    up (behind u) = behind u

    go : {xs : List ℕ} → After xs s ys → xs ≡ v ∷ (vs ++ bs) → (After (vs ++ bs) s ys → Splits vs bs s ys) → Splits (v ∷ vs) bs s ys
    go (after_here {s = x} {ys = zs}) e rest = let p : x ≡ v = cc in let q : zs ≡ vs ++ bs = cc in in_front vs (rw p after_here) q
    go (after_there {xs = zs} u) e rest = let q : zs ≡ vs ++ bs = cc in up (rest (rw q at u))

pub vals_le : {h : List ℕ} {hi a b : ℕ} {vs : List ℕ} → Vals h hi a b vs → a ≤ b
vals_le (vals_none {a}) = le_refl a
vals_le (vals_more {a} {l = l} st t) = let k = vals_le t in omega arith

-- the values from c to b: there is none, or one stands at c
data Begins (h : List ℕ) (hi c b : ℕ) (ys : List ℕ) : Type 0 where
  with_none : ys ≡ [] → c ≡ b → Begins h hi c b ys
  with_one : (m : ℕ) (zs : List ℕ) → ys ≡ c ∷ zs → Stands h hi c m → c < b → Begins h hi c b ys

begins : {h : List ℕ} {hi c b : ℕ} {ys : List ℕ} → Vals h hi c b ys → Begins h hi c b ys
begins vals_none = with_none refl refl
begins (vals_more {l = m} {vs = zs} st' u) = with_one m zs refl st' (let k = vals_le u in omega arith)

-- a value of the list, and what follows it
record Follows (h : List ℕ) (hi a b s : ℕ) (ys : List ℕ) : Type 0 where
  pub len : ℕ
  pub low : a ≤ s
  pub stands : Stands h hi s len
  pub next : Begins h hi (s + suc len) b ys

vals_after : {h : List ℕ} {hi a b s : ℕ} {vs ys : List ℕ} → Vals h hi a b vs → After vs s ys → Follows h hi a b s ys
vals_after vals_none u = elim u [ ]
vals_after (vals_more {a} {b} {l} st t) after_here = record { len = l; low = le_refl a; stands = st; next = begins t }
vals_after (vals_more st t) (after_there u) =
    let r = vals_after t u in
    let lo = r.low in
    record { len = r.len; low = omega arith; stands = r.stands; next = r.next }

-- a page that holds a value begins with one
vals_head : {h : List ℕ} {hi a b : ℕ} {vs : List ℕ} → Vals h hi a b vs → a < b → (us : List ℕ) × (vs ≡ a ∷ us)
vals_head (vals_none {a}) q = absurd (omega arith)
vals_head (vals_more {vs = us} st t) q = (us, refl)

row_head : {n : ℕ} {h : List ℕ} {fin : ℕ → ℕ} {k : ℕ} {ks bs : List ℕ} → Row n h fin (k ∷ ks) bs → k * 2 ^ n + 2 < fin k → (us : List ℕ) × (bs ≡ (k * 2 ^ n + 2) ∷ us)
row_head (row_last v) q = vals_head v q
row_head (row_more {bs = bs} v ne t) q = let u = vals_head v q in (u.0 ++ bs, ap (λ xs. xs ++ bs) u.1)

last_tail : {k k' z : ℕ} {ks : List ℕ} → Last (k ∷ k' ∷ ks) z → Last (k' ∷ ks) z
last_tail (later u) = u

module _ {n N R : ℕ} {own : ℕ → Owner} {fin : ℕ → ℕ} {pages : ℕ → List ℕ} {free : List ℕ} {r : Run} (L : Layout n N R own fin pages free r) (j : ℕ) (j_r : j < R) where
  abbrev z' : ℕ
  z' = (L.mine_top j j_r).page

  -- within a page, or at its end
  on_page : (k s : ℕ) (ys bs : List ℕ) → own k ≡ mine j → Follows r.heap (k * 2 ^ n + 2 ^ n) (k * 2 ^ n + 2) (fin k) s ys
      → ((l : ℕ) → PageStands n r.heap k s l → k * 2 ^ n + 2 ≤ s → s + suc l ≡ fin k → next_scan n j s r ≡ head_or (top_of r.table j) bs)
      → next_scan n j s r ≡ head_or (top_of r.table j) (ys ++ bs)
  on_page k s ys bs o F end = go F.next
    where
      go : Begins r.heap (k * 2 ^ n + 2 ^ n) (s + suc F.len) (fin k) ys → next_scan n j s r ≡ head_or (top_of r.table j) (ys ++ bs)
      go (with_none e t) = rw e (end F.len F.stands F.low t)
      go (with_one m zs e st below) = rw e (next_here L j j_r k s F.len o F.low F.stands m st below)

  pub next_row : {x : ℕ} {ks : List ℕ} → Linked (link n r.heap) x ks → Once ks → Last ks z' → ((k : ℕ) → Memᴰ k ks → own k ≡ mine j)
      → {vs : List ℕ} → Row n r.heap fin ks vs → {s : ℕ} {ys : List ℕ} → After vs s ys → next_scan n j s r ≡ head_or (top_of r.table j) ys
  next_row lk on last own_all_lem (row_last {k} v) {s} {ys} t =
      let e : z' ≡ k = last_one last only in
      rw append-nil at
      (on_page k s ys [] (own_all_lem k (Memᴰ.head refl)) (vals_after v t)
      (λ l st lo q. next_none L j j_r k s l (own_all_lem k (Memᴰ.head refl)) lo st (q ∙ ap fin (sym e) ∙ sym (L.mine_top j j_r).top)))
  next_row {x = x} lk on last own_all_lem (row_more {k} {k'} {ks} {vs} {bs} v ne rest) {s} {ys} t =
      go (after_split vs t) (λ u. next_row {x = link n r.heap k} (linked_first lk).1 (once_tail on) (last_tail last) (λ l m. own_all_lem l (Memᴰ.tail m)) rest u)
    where
      not_last : k ≢ z'
      not_last e = once_head on (rw (← e) at (last_in (last_tail last)))

      linked_on : link n r.heap k ≡ suc k'
      linked_on = (linked_first (linked_first lk).1).0

      at_end : (l : ℕ) → PageStands n r.heap k s l → k * 2 ^ n + 2 ≤ s → s + suc l ≡ fin k → next_scan n j s r ≡ head_or (top_of r.table j) bs
      at_end l st lo q =
          let u = row_head rest ne in
          next_page_lem L j j_r k s l (own_all_lem k (Memᴰ.head refl)) lo st k' q not_last linked_on ∙ ap (head_or (top_of r.table j)) (sym u.1)

      go : Splits vs bs s ys → (After bs s ys → next_scan n j s r ≡ head_or (top_of r.table j) ys) → next_scan n j s r ≡ head_or (top_of r.table j) ys
      go (in_front us u e) up = rw e (on_page k s us bs (own_all_lem k (Memᴰ.head refl)) (vals_after v u) at_end)
      go (behind u) up = up u
