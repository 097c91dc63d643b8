-- Document 01, "The audit, rules 2 to 9": each rule as a test, and the first that is broken.
use Rattle.std.specs.Prelude.{ℕ, zero, suc, ◌+◌, ◌%◌, ◌^◌, Bool, true, false, ◌&&◌, List, [], ◌∷◌, ◌++◌, length, drop, leb, ltb, eqb}
use Rattle.laws.specs.Lists.{all, all_below, zeros, times, last_or}
use Rattle.rules.specs.Memory.{Store, page_count, address_page, page_link, region_origin, page_words, body_words, body_address, page_end, link, origin, row, end_of, first_of, top_of, status_of, chain_end, first_link, region_pages, free_pages, pages_from}
use Rattle.rules.specs.Words.{number, in_heap, in_const, word_of, vals, page_vals, const_vals, used_of, fields_pass, good_const, good_in}

-- A rule about regions is a test of each page of each region's chain; `q j k` is the test of page k of region j.
abbrev pub each_page : (ℕ → ℕ → Bool) → ℕ → List ℕ → List ℕ → ℕ → Bool
each_page q n heap table R = all_below (λ j. all (q j) (region_pages n heap table j)) R

-- "The chain's last page" is the one with link 0: there the test decides, and elsewhere it does not.
unfoldable pub if_last : ℕ → Bool → Bool
if_last zero test = test
if_last (suc l) test = true

-- ---- 2. "R at most 64; table words past 4R are 0; each b is 0."

unfoldable pub rule2 : Store → Bool
rule2 s =
    leb s.ctl.regions 64
    && zeros (drop (row s.ctl.regions) s.table)
    && all_below (λ j. eqb (status_of s.table j) 0) s.ctl.regions

-- ---- 3. "Each fp is a page's address and opens its region's chain. Every page is in exactly one chain, a region's or the free list's;
-- chains end with link 0; origins agree; free first, last and count agree."

-- fp is a page's address
unfoldable pub opens : ℕ → List ℕ → List ℕ → ℕ → Bool
opens n heap table j = eqb (first_of table j % 2 ^ n) 0 && ltb (address_page n (first_of table j)) (page_count n heap)

-- the chain that starts with a link ends with link 0
unfoldable pub ends_well : ℕ → List ℕ → ℕ → Bool
ends_well n heap l = eqb (chain_end (page_count n heap) n heap l) 0

-- the link to the last of the pages, 0 where there is none
unfoldable pub last_link : List ℕ → ℕ
last_link [] = zero
last_link (k ∷ ks) = page_link (last_or k ks)

-- all chains, one after the other
abbrev pub all_chains : ℕ → List ℕ → List ℕ → ℕ → ℕ → List ℕ
all_chains n heap table R first = pages_from n heap table R 0 ++ free_pages n heap first

unfoldable pub rule3 : Store → Bool
rule3 s =
    all_below (opens s.ctl.n s.heap s.table) s.ctl.regions
    && all_below (λ k. eqb (times k (all_chains s.ctl.n s.heap s.table s.ctl.regions s.ctl.first)) 1) (page_count s.ctl.n s.heap)
    && all_below (λ j. ends_well s.ctl.n s.heap (first_link s.ctl.n s.table j)) s.ctl.regions
    && ends_well s.ctl.n s.heap s.ctl.first
    && each_page (λ j k. eqb (origin s.ctl.n s.heap k) (region_origin j)) s.ctl.n s.heap s.table s.ctl.regions
    && all (λ k. eqb (origin s.ctl.n s.heap k) 0) (free_pages s.ctl.n s.heap s.ctl.first)
    && eqb s.ctl.last (last_link (free_pages s.ctl.n s.heap s.ctl.first))
    && eqb s.ctl.count (length (free_pages s.ctl.n s.heap s.ctl.first))

-- ---- 4. "The chain's last page starts at e-P; a lies from e-P+2 to e."

-- e is the end of page k, if that is the last
unfoldable pub ends_at : ℕ → List ℕ → List ℕ → ℕ → ℕ → Bool
ends_at n heap table j k = if_last (link n heap k) (eqb (end_of table j) (page_end n k))

-- a lies from e-P+2 to e
unfoldable pub top_fits : ℕ → List ℕ → ℕ → Bool
top_fits n table j = leb (end_of table j + 2) (top_of table j + 2 ^ n) && leb (top_of table j) (end_of table j)

unfoldable pub rule4 : Store → Bool
rule4 s =
    each_page (ends_at s.ctl.n s.heap s.table) s.ctl.n s.heap s.table s.ctl.regions
    && all_below (top_fits s.ctl.n s.table) s.ctl.regions

-- ---- 5. "In each page of a region valid values stand back to back from the third word, then zeros to the end. In the last page they end
-- at a."

-- values back to back from address a on, then zeros
unfoldable pub filled : ℕ → List ℕ → Bool
filled a ws = zeros (drop (used_of (vals a 0 ws)) ws)

unfoldable pub page_filled : ℕ → List ℕ → List ℕ → ℕ → ℕ → Bool
page_filled n heap table j k =
    filled (body_address n k) (body_words n heap k)
    && if_last (link n heap k) (eqb (body_address n k + used_of (page_vals n heap k)) (top_of table j))

unfoldable pub rule5 : Store → Bool
rule5 s = each_page (page_filled s.ctl.n s.heap s.table) s.ctl.n s.heap s.table s.ctl.regions

-- ---- 6. "Each field of each record in the heap is a number or a good pointer."

-- the fields of page k's records pass the test g
abbrev pub page_pass : (ℕ → Bool) → ℕ → List ℕ → ℕ → Bool
page_pass g n heap k = all (fields_pass g) (page_vals n heap k)

-- the fields of the records of the regions below m
abbrev pub records_pass : (ℕ → Bool) → ℕ → List ℕ → List ℕ → ℕ → Bool
records_pass g n heap table m = each_page (λ j. page_pass g n heap) n heap table m

abbrev pub good_word : Store → ℕ → Bool
good_word s w = good_in s.ctl.n s.ctl.regions s.heap s.consts w

unfoldable pub rule6 : Store → Bool
rule6 s = records_pass (good_word s) s.ctl.n s.heap s.table s.ctl.regions

-- ---- 7. "Each root is a number or a good pointer."

unfoldable pub rule7 : Store → Bool
rule7 s = all (good_word s) s.roots

-- ---- 8. "Constants: valid values back to back, then zeros; fields are numbers or good constant pointers."

unfoldable pub const_field : List ℕ → ℕ → Bool
const_field consts w = elim (word_of w) [ number ↦ true | in_heap a ↦ false | in_const a ↦ good_const consts a ]

unfoldable pub rule8 : Store → Bool
rule8 s = filled 0 s.consts && all (fields_pass (const_field s.consts)) (const_vals s.consts)

-- ---- 9. "A free page is all zero but its link."

unfoldable pub clean : ℕ → List ℕ → ℕ → Bool
clean n heap k = zeros (drop 1 (page_words n heap k))

unfoldable pub rule9 : Store → Bool
rule9 s = all (clean s.ctl.n s.heap) (free_pages s.ctl.n s.heap s.ctl.first)

-- ---- "The answer names the first broken rule in this order. Yes exactly when all hold."

-- the number of the first test that fails, counted from i; 0 where all pass
unfoldable pub first_failing : ℕ → List (Store → Bool) → Store → ℕ
first_failing i [] s = zero
first_failing i (p ∷ ps) s = elim (p s) [ true ↦ first_failing (suc i) ps s | false ↦ i ]

abbrev pub the_rules : List (Store → Bool)
the_rules = rule2 ∷ rule3 ∷ rule4 ∷ rule5 ∷ rule6 ∷ rule7 ∷ rule8 ∷ rule9 ∷ []

-- the first broken rule, 0 where none is
unfoldable pub broken_rule : Store → ℕ
broken_rule s = first_failing 2 the_rules s

-- ---- "Used words of a region: L+1 summed over its values."

unfoldable pub used_on : ℕ → List ℕ → List ℕ → ℕ
used_on n heap [] = zero
used_on n heap (k ∷ ks) = used_of (page_vals n heap k) + used_on n heap ks

unfoldable pub used_by : ℕ → List ℕ → List ℕ → ℕ → ℕ
used_by n heap table j = used_on n heap (region_pages n heap table j)
