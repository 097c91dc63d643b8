-- Document 01, "Lent memory": the lent words, pages, links and origins, the rows of the region table, chains.
use Rattle.std.specs.Prelude.{ℕ, zero, suc, ◌+◌, ◌-◌, ◌*◌, ◌/◌, ◌%◌, ◌^◌, ◌<◌, Bool, true, false, ◌&&◌, List, [], ◌∷◌, ◌++◌, length, take, drop, set, leb, ltb, eqb}
use Rattle.laws.specs.Lists.{at}
use Rattle.rules.specs.declared.Control.{Control}
use Rattle.rules.specs.declared.Lent.{Lent}

-- "Lent: heap, region table, roots, constants. By value: a control record of page exponent n, regions R, free first, free last, free count."
pub record Store : Type 0 where
  pub heap : List ℕ
  pub table : List ℕ
  pub roots : List ℕ
  pub consts : List ℕ
  pub ctl : Control

abbrev pub lent : List ℕ → List ℕ → List ℕ → List ℕ → Control → Store
lent h t r k c = record { heap = h; table = t; roots = r; consts = k; ctl = c }

-- what a call is lent to read
abbrev pub store : Lent → Store
store l = lent l.heap.now l.table.now l.roots.now l.consts.now l.control

abbrev pub control : ℕ → ℕ → ℕ → ℕ → ℕ → Control
control n R first last count = record { n = n; regions = R; first = first; last = last; count = count }

-- "All words are unsigned, 32 bits."
abbrev pub Small : List ℕ → Type 0
Small ws = (i : ℕ) → at ws i < 2 ^ 32

pub record Words32 (s : Store) : Type 0 where
  pub heap : Small s.heap
  pub table : Small s.table
  pub roots : Small s.roots
  pub consts : Small s.consts
  pub n : s.ctl.n < 2 ^ 32
  pub regions : s.ctl.regions < 2 ^ 32
  pub first : s.ctl.first < 2 ^ 32
  pub last : s.ctl.last < 2 ^ 32
  pub count : s.ctl.count < 2 ^ 32

-- "n is 4 to 8, P = 2^n. The heap is N whole pages, N at least 2, at most 65,536 words. The table is 256 words. Roots: 0 to 1,024.
-- Constants: 0 to 65,535 words." (h, t, r, k are the four lengths.)
unfoldable pub limits : ℕ → ℕ → ℕ → ℕ → ℕ → Bool
limits n h t r k =
    leb 4 n && leb n 8
    && eqb (h % 2 ^ n) 0 && leb (2 * 2 ^ n) h && leb h 65536
    && eqb t 256
    && leb r 1024
    && leb k 65535

-- N
abbrev pub page_count : ℕ → List ℕ → ℕ
page_count n heap = length heap / 2 ^ n

-- ---- Page numbers, region numbers and word addresses, and the forms in which they are stored.

abbrev pub page_address : ℕ → ℕ → ℕ
page_address n k = k * 2 ^ n

abbrev pub address_page : ℕ → ℕ → ℕ
address_page n a = a / 2 ^ n

-- "link (next page number plus 1, 0 for none)"
abbrev pub page_link : ℕ → ℕ
page_link k = suc k

abbrev pub link_page : ℕ → ℕ
link_page l = l - 1

-- "origin (region number plus 1, 0 for a free page)"
abbrev pub region_origin : ℕ → ℕ
region_origin j = suc j

abbrev pub origin_region : ℕ → ℕ
origin_region o = o - 1

-- ---- "Page k is words kP to kP+P-1. Its first two words are the page descriptor: link, then origin. P-2 words remain."

unfoldable pub page_words : ℕ → List ℕ → ℕ → List ℕ
page_words n heap k = take (2 ^ n) (drop (page_address n k) heap)

-- what remains, from the page's third word on
abbrev pub body_words : ℕ → List ℕ → ℕ → List ℕ
body_words n heap k = drop 2 (page_words n heap k)

-- the address of the page's third word
abbrev pub body_address : ℕ → ℕ → ℕ
body_address n k = page_address n k + 2

-- the address just past the page
abbrev pub page_end : ℕ → ℕ → ℕ
page_end n k = page_address n k + 2 ^ n

unfoldable pub link : ℕ → List ℕ → ℕ → ℕ
link n heap k = at heap (page_address n k)

unfoldable pub origin : ℕ → List ℕ → ℕ → ℕ
origin n heap k = at heap (page_address n k + 1)

abbrev pub set_link : ℕ → List ℕ → ℕ → ℕ → List ℕ
set_link n heap k l = set heap (page_address n k) l

abbrev pub set_origin : ℕ → List ℕ → ℕ → ℕ → List ℕ
set_origin n heap k o = set heap (page_address n k + 1) o

-- ---- "Region j has table words 4j to 4j+3: e (address just past its last page), fp (address of its first page), a (first unused
-- address in its last page, may equal e), b (0 between calls)."

abbrev pub row : ℕ → ℕ
row j = 4 * j

abbrev pub end_of : List ℕ → ℕ → ℕ
end_of table j = at table (row j)

abbrev pub first_of : List ℕ → ℕ → ℕ
first_of table j = at table (row j + 1)

abbrev pub top_of : List ℕ → ℕ → ℕ
top_of table j = at table (row j + 2)

abbrev pub status_of : List ℕ → ℕ → ℕ
status_of table j = at table (row j + 3)

abbrev pub set_end : List ℕ → ℕ → ℕ → List ℕ
set_end table j e = set table (row j) e

abbrev pub set_first : List ℕ → ℕ → ℕ → List ℕ
set_first table j fp = set table (row j + 1) fp

abbrev pub set_top : List ℕ → ℕ → ℕ → List ℕ
set_top table j a = set table (row j + 2) a

abbrev pub set_status : List ℕ → ℕ → ℕ → List ℕ
set_status table j b = set table (row j + 3) b

-- all four, in their order
abbrev pub set_row : List ℕ → ℕ → ℕ → ℕ → ℕ → ℕ → List ℕ
set_row table j e fp a b = set_status (set_top (set_first (set_end table j e) j fp) j a) j b

-- ---- Chains: "the free list runs by links", and so do a region's pages. A chain is the list of its page numbers.

-- the pages from a link on, at most f, as long as the link names a page of the heap
unfoldable pub chain : ℕ → ℕ → List ℕ → ℕ → List ℕ
chain zero n heap l = []
chain (suc f) n heap zero = []
chain (suc f) n heap (suc k) = elim (ltb k (page_count n heap)) [ true ↦ k ∷ chain f n heap (link n heap k) | false ↦ [] ]

-- the link that these pages end with: 0 where the chain is whole
unfoldable pub chain_end : ℕ → ℕ → List ℕ → ℕ → ℕ
chain_end zero n heap l = l
chain_end (suc f) n heap zero = zero
chain_end (suc f) n heap (suc k) = elim (ltb k (page_count n heap)) [ true ↦ chain_end f n heap (link n heap k) | false ↦ suc k ]

-- the link to region j's first page
abbrev pub first_link : ℕ → List ℕ → ℕ → ℕ
first_link n table j = page_link (address_page n (first_of table j))

unfoldable pub region_pages : ℕ → List ℕ → List ℕ → ℕ → List ℕ
region_pages n heap table j = chain (page_count n heap) n heap (first_link n table j)

unfoldable pub free_pages : ℕ → List ℕ → ℕ → List ℕ
free_pages n heap first = chain (page_count n heap) n heap first

-- the pages of the m regions from j on, bottom region first
unfoldable pub pages_from : ℕ → List ℕ → List ℕ → ℕ → ℕ → List ℕ
pages_from n heap table zero j = []
pages_from n heap table (suc m) j = region_pages n heap table j ++ pages_from n heap table m (suc j)
