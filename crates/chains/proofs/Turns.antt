-- The turn laws of rule 3's walks: at each region, at each page and at the end of a chain, what is left to test is what was left before, and
-- the pages that are left are one fewer. Each follows the definition's own turn.
use Prim.Native.Nat.{ℕ, zero, suc, ◌+◌, ◌-◌, ◌*◌, ◌/◌, ◌^◌, ◌≤◌, ◌<◌, zero-le, suc-le-suc}
use mathlib.Core.Path.{◌≡◌, refl, ap, ◌∙◌}
use mathlib.Core.Bool.{Bool, true, false, ◌&&◌, and-true, and_assoc}
use mathlib.Core.List.{List, [], ◌∷◌}
use native.Mathlib.Omega.{arith}
use native.Mathlib.Numerals.{sub-one, add-one}
use borrow.Author.Tests.{eq-eqb, ne_eqb}
use Rattle.std.specs.Prelude.{Some, None}
use lib.Dec.{eqb}
use lib.ListN.{length, get_or, length-append}
use Rattle.laws.specs.Lists.{all_from, all_below, last_or}
use Rattle.laws.proofs.Tests.{from_go, from_stop}
use Rattle.rules.specs.Memory.{origin, first_link, chain, chain_end, region_pages, free_pages, pages_from}
use Rattle.rules.specs.Audit.{opens, ends_well, last_link}
use Rattle.rules.specs.Refusals.{Paged}
use Rattle.rules.proofs.Limits.{pages_few}
use Rattle.rules.proofs.Chains.{chain_by, Next, Over}
use Rattle.rules.proofs.Nests.{pages_go, pages_over}
use Rattle.chains.specs.Walked.{bear, region_chained, regions_chained, free_listed}

-- ---- a region whose chain opens, and one whose chain does not

module _ (n N : ℕ) (h t : List ℕ) (e : N ≡ length h / 2 ^ n) (m j : ℕ) (b : 0 < m) where
  pub chained_open : (l : ℕ) → opens n h t j ≡ true → l ≡ first_link n t j
      → all_from (region_chained n h t) m j ≡ (bear n h (suc j) (chain N n h l) && (eqb (chain_end N n h l) 0 && all_from (region_chained n h t) (m - 1) (j + 1)))
  unfolding region_chained region_pages ends_well
  chained_open l o g = from_go (region_chained n h t) m j b ∙ rw (o, e, g) (and_assoc (bear n h (suc j) (chain (length h / 2 ^ n) n h (first_link n t j))) _ _)

  pub chained_shut : opens n h t j ≡ false → all_from (region_chained n h t) m j ≡ false
  unfolding region_chained
  chained_shut o = from_stop (region_chained n h t) m j b (rw o)

  pub length_open : (l : ℕ) → l ≡ first_link n t j → length (pages_from n h t m j) ≡ length (chain N n h l) + length (pages_from n h t (m - 1) (j + 1))
  unfolding pages_from region_pages
  length_open l g = rw (e, g, add-one j) (go m b)
    where
      go : (m : ℕ) → 0 < m → length (pages_from n h t m j) ≡ length (chain (length h / 2 ^ n) n h (first_link n t j)) + length (pages_from n h t (m - 1) (suc j))
      go zero l = absurd (omega arith)
      go (suc m) l = rw (sub-one (suc m)) (length-append (region_pages n h t j) (pages_from n h t m (suc j)))

-- ---- the pages of a chain that bear the origin o, from the link k on

-- what is left to test
abbrev pub Rest : ℕ → List ℕ → ℕ → Bool → ℕ → ℕ → Bool
Rest n h o r f k = bear n h o (chain f n h k) && (eqb (chain_end f n h k) 0 && r)

module _ {n : ℕ} {h : List ℕ} {f k : ℕ} (o : ℕ) (r : Bool) where
  module _ {b : ℕ} (x : Next n h f k b) where
    turn : Rest n h o r f k ≡ (eqb (get_or h (b + 1) 0) o && Rest n h o r (f - 1) (get_or h b 0))
    unfolding origin
    turn = pages_go (λ k. eqb (origin n h k) o) (eqb (chain_end f n h k) 0 && r) x ∙ rw (x.end, x.start)

    pub chained_page : get_or h (b + 1) 0 ≡ o → Rest n h o r f k ≡ Rest n h o r (f - 1) (get_or h b 0)
    chained_page w = turn ∙ rw (eq-eqb _ _ w)

    pub chained_other : (get_or h (b + 1) 0 ≡ o → ⊥) → Rest n h o r f k ≡ false
    chained_other w = turn ∙ rw (ne_eqb _ _ w)

  module _ (v : Over n h f k) where
    pub chained_ends : k ≡ 0 → Rest n h o r f k ≡ r
    chained_ends z = pages_over (λ k. eqb (origin n h k) o) (eqb (chain_end f n h k) 0 && r) v ∙ rw (v.end, eq-eqb _ _ z)

    pub chained_hangs : (k ≡ 0 → ⊥) → Rest n h o r f k ≡ false
    chained_hangs z = pages_over (λ k. eqb (origin n h k) o) (eqb (chain_end f n h k) 0 && r) v ∙ rw (v.end, ne_eqb _ _ z)

-- ---- how many pages a chain has

module _ {n : ℕ} {h : List ℕ} {f k : ℕ} where
  pub length_page : {b : ℕ} → Next n h f k b → length (chain f n h k) ≡ 1 + length (chain (f - 1) n h (get_or h b 0))
  length_page x = ap length x.pages ∙ (omega arith)

  pub length_over : Over n h f k → length (chain f n h k) ≡ 0
  length_over v = rw v.none

chain_short : (n : ℕ) (h : List ℕ) (f k : ℕ) → length (chain f n h k) ≤ f
chain_short n h = chain_by n h (λ f k ks e. length ks ≤ f) (λ f k. zero-le) (λ f k ks e b rest. suc-le-suc rest)

pub free_short : (n : ℕ) (h : List ℕ) (first : ℕ) → Paged n (length h) → length (free_pages n h first) ≤ 65536
unfolding free_pages
free_short n h first g = let s = chain_short n h (length h / 2 ^ n) first in let b = pages_few n (length h) (length h / 2 ^ n) g refl in omega arith

pub pages_short : (n : ℕ) (h t : List ℕ) (m j : ℕ) → Paged n (length h) → length (pages_from n h t m j) ≤ 65536 * m
unfolding pages_from region_pages free_pages
pages_short n h t zero j g = omega arith
pages_short n h t (suc m) j g =
    let r = pages_short n h t m (suc j) g in
    let s = free_short n h (first_link n t j) g in
    let q = length-append (region_pages n h t j) (pages_from n h t m (suc j)) in
    omega arith

pub length_none : (n : ℕ) (h t : List ℕ) (m j : ℕ) → m ≤ 0 → length (pages_from n h t m j) ≡ 0
unfolding pages_from
length_none n h t zero j b = refl
length_none n h t (suc m) j b = absurd (omega arith)

-- the answers
module _ (n : ℕ) (h t : List ℕ) (R : ℕ) where
  pub all_chained : (x : ℕ) → true ≡ all_below (region_chained n h t) R → x ≡ length (pages_from n h t R 0) → Some x ≡ regions_chained n h t R
  unfolding regions_chained
  all_chained x e q = rw (← e, q)

  pub not_chained : false ≡ all_below (region_chained n h t) R → None ≡ regions_chained n h t R
  unfolding regions_chained
  not_chained e = rw (← e)

module _ (n : ℕ) (h : List ℕ) (first : ℕ) where
  pub all_listed : (x l : ℕ) → true ≡ (bear n h 0 (free_pages n h first) && ends_well n h first) → x ≡ length (free_pages n h first) → l ≡ last_link (free_pages n h first)
      → Some (x, l) ≡ free_listed n h first
  unfolding free_listed
  all_listed x l e q p = rw (← e, q, p)

  pub not_listed : false ≡ (bear n h 0 (free_pages n h first) && ends_well n h first) → None ≡ free_listed n h first
  unfolding free_listed
  not_listed e = rw (← e)

-- ---- the link to the last page

-- the last link, where l was the one before these pages
unfoldable pub last_by : ℕ → List ℕ → ℕ
last_by l [] = l
last_by l (k ∷ ks) = last_by (suc k) ks

last_suc : (k : ℕ) (ks : List ℕ) → last_by (suc k) ks ≡ suc (last_or k ks)
unfolding last_by last_or
last_suc k [] = refl
last_suc k (x ∷ ks) = last_suc x ks

pub last_by_lem : (ks : List ℕ) → last_by 0 ks ≡ last_link ks
unfolding last_by last_link
last_by_lem [] = refl
last_by_lem (k ∷ ks) = last_suc k ks

module _ {n : ℕ} {h : List ℕ} {f k : ℕ} (l : ℕ) where
  pub last_page_lem : {b : ℕ} → Next n h f k b → 0 < k → last_by l (chain f n h k) ≡ last_by k (chain (f - 1) n h (get_or h b 0))
  unfolding last_by
  last_page_lem x c = let s : suc (k - 1) ≡ k = omega arith in rw (x.pages, last_by, s)

  pub last_over : Over n h f k → last_by l (chain f n h k) ≡ l
  unfolding last_by
  last_over o = rw o.none

-- the free list, from its first page on
module _ (n N : ℕ) (h : List ℕ) (e : N ≡ length h / 2 ^ n) (first : ℕ) where
  pub list_open : (bear n h 0 (chain N n h first) && (eqb (chain_end N n h first) 0 && true)) ≡ (bear n h 0 (free_pages n h first) && ends_well n h first)
  unfolding free_pages ends_well
  list_open = rw e (ap (λ x. bear n h 0 (chain (length h / 2 ^ n) n h first) && x) (and-true _))

  pub list_length : 0 + (length (chain N n h first) + 0) ≡ length (free_pages n h first)
  unfolding free_pages
  list_length = rw e (omega arith)

  pub list_last : last_by 0 (chain N n h first) ≡ last_link (free_pages n h first)
  unfolding free_pages
  list_last = rw e (last_by_lem (free_pages n h first))
