-- What the audit's yes means: the rules of document 01 as facts about words. `Sound` is the record of them; that it and the audit's tests
-- say the same is proved beside it.
use Prim.Native.Nat.{ℕ, suc, ◌+◌, ◌*◌, ◌^◌, ◌≤◌, ◌<◌}
use native.Mathlib.Omega.{arith}
use mathlib.Core.Path.{◌≡◌, sym, ◌∙◌}
use mathlib.Core.Bool.{true}
use mathlib.Core.List.{List, Memᴰ}
use lib.ListN.{length}
use Rattle.laws.specs.Lists.{at}
use Rattle.rules.specs.Memory.{Store, page_count, end_of, top_of, status_of}
use Rattle.rules.specs.Words.{number, in_heap, in_const, word_of, is_record}
use Rattle.rules.specs.Pages.{begun}
use Rattle.rules.proofs.Limits as Limits
use Rattle.rules.proofs.Steps.{Stands, Steps, OnPage}
use Rattle.facts.proofs.Laid.{mine_inj, spare≢mine, Owner, spare, mine, Layout, spare_origin, last_low, last_high}

-- ---- Lengths and n within their limits.

abbrev pub Within : Store → Type 0
Within s = Limits.Within s.ctl.n (length s.heap) (length s.table) (length s.roots) (length s.consts)

-- ---- Good pointers.

-- "A heap pointer is good if its page has an origin from 1 to R and stepping by headers from that page's third word lands on the address,
-- each value passed, and the one landed on, having a valid header and ending inside the page."
pub record InHeap (n R : ℕ) (heap : List ℕ) (a : ℕ) : Type 0 where
  pub page : ℕ
  pub region : ℕ
  pub len : ℕ
  pub there : page < page_count n heap
  pub known : region < R
  pub whose : at heap (page * 2 ^ n + 1) ≡ suc region
  pub value : OnPage n heap page a len

-- "A constant pointer is good by the same stepping from constant 0."
pub record InConst (consts : List ℕ) (a : ℕ) : Type 0 where
  pub len : ℕ
  pub steps : Steps consts (length consts) 0 a
  pub stands : Stands consts (length consts) a len

-- a number or a good pointer
pub data Good (n R : ℕ) (heap consts : List ℕ) (w : ℕ) : Type 0 where
  a_number : word_of w ≡ number → Good n R heap consts w
  to_heap : (a : ℕ) → word_of w ≡ in_heap a → InHeap n R heap a → Good n R heap consts w
  to_const : (a : ℕ) → word_of w ≡ in_const a → InConst consts a → Good n R heap consts w

-- a number or a good constant pointer
pub data GoodConst (consts : List ℕ) (w : ℕ) : Type 0 where
  number_there : word_of w ≡ number → GoodConst consts w
  const_there : (a : ℕ) → word_of w ≡ in_const a → InConst consts a → GoodConst consts w

-- ---- 8. "Constants: valid values back to back, then zeros; fields are numbers or good constant pointers."

pub record Constants (consts : List ℕ) : Type 0 where
  pub fin : ℕ
  pub filled : Steps consts (length consts) 0 fin
  pub rest : (x : ℕ) → fin ≤ x → x < length consts → at consts x ≡ 0
  pub fields : (a l i : ℕ) → Steps consts (length consts) 0 a → Stands consts (length consts) a l → is_record (at consts a) ≡ true → i < l
      → GoodConst consts (at consts (a + suc i))

-- ---- The whole.

-- "Every page is in exactly one chain, a region's or the free list's": page k is in that of its owner. (The pages of a chain have its owner,
-- by `Layout`, so that it is in no other.)
pub data Chained (R : ℕ) (own : ℕ → Owner) (pages : ℕ → List ℕ) (free : List ℕ) (k : ℕ) : Type 0 where
  in_free : own k ≡ spare → Memᴰ k free → Chained R own pages free k
  in_region : (j : ℕ) → j < R → own k ≡ mine j → Memᴰ k (pages j) → Chained R own pages free k

-- a region's page is in its chain, and a free one in the free list
module _ {R : ℕ} {own : ℕ → Owner} {pages : ℕ → List ℕ} {free : List ℕ} {k : ℕ} where
  pub chained_mine : {j : ℕ} → Chained R own pages free k → own k ≡ mine j → (j < R) × Memᴰ k (pages j)
  chained_mine (in_free o m) e = spare≢mine o e
  chained_mine {j} (in_region i b o m) e = let q : i ≡ j = mine_inj (sym o ∙ e) in rw (← q) (b, m)

  pub chained_spare : Chained R own pages free k → own k ≡ spare → Memᴰ k free
  chained_spare (in_free o m) e = m
  chained_spare (in_region i b o m) e = spare≢mine e o

-- Q of each field of each record in the pages of the regions below R
abbrev pub EachField : (n R : ℕ) → List ℕ → (ℕ → List ℕ) → (ℕ → Type 0) → Type 0
EachField n R h pages Q =
    (j k a l i : ℕ) → j < R → Memᴰ k (pages j) → OnPage n h k a l → is_record (at h a) ≡ true → i < l → Q (at h (a + suc i))

pub record Sound (s : Store) : Type 0 where
  pub within : Within s
  -- whose each page is, where its values end, the chain of each region, the free list
  pub own : ℕ → Owner
  pub fin : ℕ → ℕ
  pub pages : ℕ → List ℕ
  pub free : List ℕ
  -- 2. "R at most 64; table words past 4R are 0; each b is 0."
  pub regions : s.ctl.regions ≤ 64
  pub past : (x : ℕ) → 4 * s.ctl.regions ≤ x → x < 256 → at s.table x ≡ 0
  pub idle : (j : ℕ) → j < s.ctl.regions → status_of s.table j ≡ 0
  -- 3. "Each fp is a page's address and opens its region's chain" (mine-links). "Chains end with link 0" (mine-links, free-links);
  -- "origins agree" (mine-body, free-clean); "free first, last and count agree" (free-links, free-last, free-count).
  -- 4. "The chain's last page starts at e-P; a lies from e-P+2 to e" (mine-top, mine-body).
  -- 5. "In each page of a region valid values stand back to back from the third word, then zeros to the end" (mine-body). "In the last page
  -- they end at a" (mine-top).
  -- 9. "A free page is all zero but its link" (free-clean).
  pub laid : Layout s.ctl.n (page_count s.ctl.n s.heap) s.ctl.regions own fin pages free (begun s)
  -- 3. "Every page is in exactly one chain"
  pub chained : (k : ℕ) → k < page_count s.ctl.n s.heap → Chained s.ctl.regions own pages free k
  -- 6. "Each field of each record in the heap is a number or a good pointer."
  pub fields : EachField s.ctl.n s.ctl.regions s.heap pages (Good s.ctl.n s.ctl.regions s.heap s.consts)
  -- 7. "Each root is a number or a good pointer."
  pub roots : (i : ℕ) → i < length s.roots → Good s.ctl.n s.ctl.regions s.heap s.consts (at s.roots i)
  -- 8.
  pub consts : Constants s.consts

-- ---- The same in other words.

module _ {s : Store} (S : Sound s) where
  -- a page has room for its descriptor
  pub descriptor_fits : 2 ≤ 2 ^ s.ctl.n
  descriptor_fits = let b = S.laid.big in omega arith

  -- no page is in two chains
  pub one_region : (i j k : ℕ) → i < s.ctl.regions → j < s.ctl.regions → Memᴰ k (S.pages i) → Memᴰ k (S.pages j) → i ≡ j
  one_region i j k a b p q = mine_inj (sym (S.laid.mine_own i k a p) ∙ S.laid.mine_own j k b q)

  -- the page of a good pointer is in its region's chain
  pub good_page : {a : ℕ} (p : InHeap s.ctl.n s.ctl.regions s.heap a) → Memᴰ p.page (S.pages p.region)
  good_page p = go (S.chained p.page p.there)
    where
      go : Chained s.ctl.regions S.own S.pages S.free p.page → Memᴰ p.page (S.pages p.region)
      go (in_free o m) =
          let e = spare_origin S.laid p.page o in
          let w = p.whose in
          absurd (omega arith)
      go (in_region j b o m) =
          let e = (S.laid.mine_body j p.page o).whose in
          let w = p.whose in
          let q : j ≡ p.region = omega arith in
          rw q at m

  pub region_or_free : (j k : ℕ) → j < s.ctl.regions → Memᴰ k (S.pages j) → Memᴰ k S.free → ⊥
  region_or_free j k b p q = spare≢mine (S.laid.free_own k q) (S.laid.mine_own j k b p)

  -- "a lies from e-P+2 to e"
  pub top_lies : (j : ℕ) → j < s.ctl.regions → (end_of s.table j + 2 ≤ top_of s.table j + 2 ^ s.ctl.n) × (top_of s.table j ≤ end_of s.table j)
  top_lies j b =
      let lo = last_low S.laid j b in
      let hi = last_high S.laid j b in
      let e = (S.laid.mine_top j b).end in
      omega arith
