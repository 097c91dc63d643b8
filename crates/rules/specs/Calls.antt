-- Document 01, "What each call does" and "Refusal numbers": for each call one definition of its whole outcome, the tests in the paper's order.
use Rattle.std.specs.Prelude.{ℕ, zero, suc, ◌+◌, ◌-◌, ◌*◌, ◌/◌, ◌%◌, ◌^◌, Bool, true, false, ◌&&◌, not, List, [], ◌∷◌, ◌++◌, length, set, replicate, ℤ, pos, negsuc, leb, ltb, eqb, Result, Ok, Err}
use Rattle.rules.specs.declared.Refused.{Refused}
use Rattle.rules.specs.Refusals.{Outcome, outcome, refused, admitted, audited, refusing}
use Rattle.std.proofs.Math.Option.{Option, none, some}
use Rattle.laws.specs.Choice.{◌⇒◌∣◌}
use Rattle.laws.specs.Lists.{at, all}
use Rattle.rules.specs.declared.Control.{Control}
use Rattle.rules.specs.declared.Kind.{Kind}
use Rattle.rules.specs.declared.Refusal.{Refusal}
use Rattle.rules.specs.Memory.{Store, control, limits, page_count, address_page, region_origin, page_words, body_address, page_address, page_end, page_link, origin, end_of, top_of, set_row, region_pages}
use Rattle.rules.specs.Words.{Word, number, in_heap, in_const, word_of, address_pointer, is_record, good_heap, good_const, look}
use Rattle.rules.specs.Audit.{top_fits, records_pass, good_word, used_by}
use Rattle.rules.specs.Pages.{Run, begun, record_after, link_fits, take_page, give_back_all, place}

-- the value that a word points to, header and words; empty where it is no good pointer
abbrev pub look_in : Store → ℕ → List ℕ
look_in s w = look s.ctl.n s.ctl.regions s.heap s.consts w

-- the header of a value and the number of its words
abbrev pub header_in : List ℕ → ℕ
header_in v = at v 0

abbrev pub fields_in : List ℕ → ℕ
fields_in v = length v - 1

-- ---- Whole numbers to words and back: "a whole number i from -2^30 to 2^30-1, stored as 2i+1 modulo 2^32".

abbrev pub word_of_number : ℤ → Result ℕ Refusal
word_of_number (pos i) = ltb i (2 ^ 30) ⇒ Ok (2 * i + 1) ∣ Err Refusal.NoNumber
word_of_number (negsuc i) = ltb i (2 ^ 30) ⇒ Ok (2 ^ 32 - (2 * i + 1)) ∣ Err Refusal.NoNumber

unfoldable pub number_of_word : ℕ → Result ℤ Refusal
number_of_word w =
    eqb (w % 2) 0 ⇒ Err Refusal.NoNumber ∣
    ltb w (2 ^ 31) ⇒ Ok (pos (w / 2)) ∣
    Ok (negsuc ((2 ^ 32 - 1 - w) / 2))

-- ---- "Setting up zeroes heap and table, sets every root to 1, and lists all pages free in rising order."

-- m pages from page k on, each linked to the next, the last to none
unfoldable pub fresh_pages : ℕ → ℕ → ℕ → List ℕ
fresh_pages n zero k = []
fresh_pages n (suc zero) k = 0 ∷ replicate (2 ^ n - 1) 0
fresh_pages n (suc (suc m)) k = page_link (suc k) ∷ replicate (2 ^ n - 1) 0 ++ fresh_pages n (suc m) (suc k)

-- setting up is given n and no record; what the others leave in the record does not count
unfoldable pub set_up : ℕ → List ℕ → List ℕ → List ℕ → List ℕ → Outcome (Result Control Refusal)
set_up n heap table roots consts =
    not (limits n (length heap) (length table) (length roots) (length consts)) ⇒ outcome (Err Refusal.Limits) heap table roots consts ∣
    outcome
    (Ok (control n 0 (page_link 0) (page_count n heap) (page_count n heap)))
    (fresh_pages n (page_count n heap) 0)
    (replicate (length table) 0)
    (replicate (length roots) 1)
    consts

-- ---- "Push takes one page; its a is the third word."

-- what a push leaves: the table words of region R, and one region more
unfoldable pub push_on : Store → Option (ℕ × Run) → Outcome (Result Control Refused)
push_on s none = refused s Refusal.NoPage
push_on s (some p) =
    outcome
    (Ok (record_after s (suc s.ctl.regions) p.1))
    p.1.heap
    (set_row p.1.table s.ctl.regions (page_end s.ctl.n p.0) (page_address s.ctl.n p.0) (body_address s.ctl.n p.0) 0)
    s.roots
    s.consts

unfoldable pub push : Store → Outcome (Result Control Refused)
push s =
    admitted (refused s) s
    (leb 64 s.ctl.regions ⇒ refused s Refusal.RegionsFull ∣
    eqb s.ctl.count 0 ⇒ refused s Refusal.NoPage ∣
    not (link_fits s.ctl.n s.heap (s.ctl.first - 1) s.ctl.count) ⇒ refused s (Refusal.Broken 0) ∣
    push_on s (take_page s.ctl.n s.ctl.regions (begun s)))

-- ---- "Popping returns the pages in chain order and zeroes the region's table words."

-- the word points into a page of region j
unfoldable pub points_into : ℕ → List ℕ → ℕ → ℕ → Bool
points_into n heap j w = elim (word_of w) [
  | number ↦ false
  | in_heap a ↦ eqb (origin n heap (address_page n a)) (region_origin j)
  | in_const a ↦ false
]

-- "A region is held while any root, or any field of a record in another region, points into it." The top region is j, so that the
-- others are those below j.
unfoldable pub let_go : ℕ → List ℕ → List ℕ → List ℕ → ℕ → Bool
let_go n heap table roots j =
    all (λ w. not (points_into n heap j w)) roots
    && records_pass (λ w. not (points_into n heap j w)) n heap table j

unfoldable pub pop_on : Store → ℕ → Run → Outcome (Result Control Refused)
pop_on s j r = outcome (Ok (record_after s j r)) r.heap (set_row r.table j 0 0 0 0) s.roots s.consts

-- the top region is j
unfoldable pub pop_top : Store → ℕ → Outcome (Result Control Refused)
pop_top s j =
    not (let_go s.ctl.n s.heap s.table s.roots j) ⇒ refused s Refusal.Held ∣
    pop_on s j (give_back_all s.ctl.n (region_pages s.ctl.n s.heap s.table j) (begun s))

unfoldable pub pop : Store → Outcome (Result Control Refused)
pop s =
    audited (refused s) s
    (eqb s.ctl.regions 0 ⇒ refused s Refusal.NoRegion ∣
    pop_top s (s.ctl.regions - 1))

-- ---- Allocation.

-- "the region's e and a (e a multiple of P from P to NP, a as rule 4)"
unfoldable pub row_fits : ℕ → List ℕ → List ℕ → ℕ → Bool
row_fits n heap table j =
    eqb (end_of table j % 2 ^ n) 0
    && leb (2 ^ n) (end_of table j)
    && leb (end_of table j) (length heap)
    && top_fits n table j

abbrev pub header_for : Kind → ℕ → ℕ
header_for Kind.Record l = 8 * l + 1
header_for Kind.Raw l = 8 * l + 3

-- a record's words are numbers or good pointers
abbrev pub words_fit : Store → Kind → List ℕ → Bool
words_fit s Kind.Record ws = all (good_word s) ws
words_fit s Kind.Raw ws = true

-- what an allocation leaves
unfoldable pub allocate_on : Store → Option (ℕ × Run) → Outcome (Result (ℕ × Control) Refused)
allocate_on s none = refused s Refusal.NoPage
allocate_on s (some p) =
    outcome
    (Ok (address_pointer p.0, record_after s s.ctl.regions p.1))
    p.1.heap
    p.1.table
    s.roots
    s.consts

-- it fits before e, or else a page is wanted: there is one, and its link is fit
unfoldable pub allocate_in : Store → ℕ → List ℕ → Outcome (Result (ℕ × Control) Refused)
allocate_in s j value =
    leb (top_of s.table j + length value) (end_of s.table j) ⇒ allocate_on s (place s.ctl.n j value (begun s)) ∣
    eqb s.ctl.count 0 ⇒ refused s Refusal.NoPage ∣
    not (link_fits s.ctl.n s.heap (s.ctl.first - 1) s.ctl.count) ⇒ refused s (Refusal.Broken 0) ∣
    allocate_on s (place s.ctl.n j value (begun s))

unfoldable pub allocate : Store → ℕ → Kind → List ℕ → Outcome (Result (ℕ × Control) Refused)
allocate s j kind ws =
    admitted (refused s) s
    (leb s.ctl.regions j ⇒ refused s Refusal.NoRegion ∣
    not (row_fits s.ctl.n s.heap s.table j) ⇒ refused s (Refusal.Broken 0) ∣
    ltb (2 ^ s.ctl.n) (length ws + 3) ⇒ refused s Refusal.TooLong ∣
    not (words_fit s kind ws) ⇒ refused s Refusal.NotGood ∣
    allocate_in s j (header_for kind (length ws) ∷ ws))

-- ---- "A fetch returns the header and words as a part of the heap or of the constants, not a copy." "A refused fetch or page call
-- returns an empty part; its number and place come from a call of their own."

unfoldable pub fetch : Store → ℕ → List ℕ
fetch s w = admitted (λ r. []) s (look_in s w)

-- the value is there
abbrev pub is_there : List ℕ → Bool
is_there [] = false
is_there (h ∷ ws) = true

unfoldable pub fetch_refusal : Store → ℕ → Result Control Refused
fetch_refusal s w =
    admitted (λ r. refusing r s.ctl) s
    (not (is_there (look_in s w)) ⇒ refusing Refusal.NotGood s.ctl ∣
    Ok s.ctl)

-- ---- Assigning a field: "target 7 (a number as target is 9), 12, 9, 10, the word 7".

-- the target is a good pointer to address a of the heap
unfoldable pub assign_at : Store → ℕ → ℕ → ℕ → Outcome (Result Control Refused)
assign_at s a i x =
    not (is_record (at s.heap a)) ⇒ refused s Refusal.NoFields ∣
    leb (at s.heap a / 8) i ⇒ refused s Refusal.NoSuch ∣
    not (good_word s x) ⇒ refused s Refusal.NotGood ∣
    outcome (Ok s.ctl) (set s.heap (suc (a + i)) x) s.table s.roots s.consts

unfoldable pub assign_by : Store → Word → ℕ → ℕ → Outcome (Result Control Refused)
assign_by s number i x = refused s Refusal.NoFields
assign_by s (in_heap a) i x =
    not (good_heap s.ctl.n s.ctl.regions s.heap a) ⇒ refused s Refusal.NotGood ∣
    assign_at s a i x
assign_by s (in_const a) i x =
    not (good_const s.consts a) ⇒ refused s Refusal.NotGood ∣
    refused s Refusal.Constant

unfoldable pub assign : Store → ℕ → ℕ → ℕ → Outcome (Result Control Refused)
assign s w i x = admitted (refused s) s (assign_by s (word_of w) i x)

-- ---- Setting a root: "10, 7".

unfoldable pub set_root : Store → ℕ → ℕ → Outcome (Result Control Refused)
set_root s i w =
    admitted (refused s) s
    (leb (length s.roots) i ⇒ refused s Refusal.NoSuch ∣
    not (good_word s w) ⇒ refused s Refusal.NotGood ∣
    outcome (Ok s.ctl) s.heap s.table (set s.roots i w) s.consts)

-- ---- "A path is a root number and field numbers, all from 0: one step is walked, and then the rest of it; the answer is the word it ends
-- on." "Walk: root 10, then each step 7, 9, 10; the final word 7."

-- the word that a walk ends on, or why it stops
pub data Walked : Type 0 where
  ends : ℕ → Walked
  stops : Refusal → Walked

-- a step into a number
abbrev pub is_number : Word → Bool
is_number number = true
is_number (in_heap a) = false
is_number (in_const a) = false

-- why a step into field f of the value v is none
unfoldable pub step_into : List ℕ → ℕ → (ℕ → Walked) → Walked
step_into v f go =
    not (is_there v) ⇒ stops Refusal.NotGood ∣
    not (is_record (header_in v)) ⇒ stops Refusal.NoFields ∣
    leb (fields_in v) f ⇒ stops Refusal.NoSuch ∣
    go (at v (suc f))

-- `view` gives the value that a word points to
unfoldable pub walk_from : (ℕ → List ℕ) → ℕ → List ℕ → Walked
walk_from view w [] = is_number (word_of w) ⇒ ends w ∣ not (is_there (view w)) ⇒ stops Refusal.NotGood ∣ ends w
walk_from view w (f ∷ fs) = is_number (word_of w) ⇒ stops Refusal.NoFields ∣ step_into (view w) f (λ x. walk_from view x fs)

abbrev pub walk_says : Control → Walked → Result (ℕ × Control) Refused
walk_says c (ends w) = Ok (w, c)
walk_says c (stops r) = refusing r c

unfoldable pub walk : Store → ℕ → List ℕ → Result (ℕ × Control) Refused
walk s i path =
    admitted (λ r. refusing r s.ctl) s
    (leb (length s.roots) i ⇒ refusing Refusal.NoSuch s.ctl ∣
    walk_says s.ctl (walk_from (look_in s) (at s.roots i) path))

-- ---- The audit as a call.

unfoldable pub audit : Store → Result Control Refused
audit s = audited (λ r. refusing r s.ctl) s (Ok s.ctl)

-- ---- "A collection is due exactly when 3 times the free count is below N."

abbrev pub due_at : ℕ → ℕ → Bool
due_at count pages = ltb (3 * count) pages

unfoldable pub due : Store → Result (Bool × Control) Refused
due s = admitted (λ r. refusing r s.ctl) s (Ok (due_at s.ctl.count (page_count s.ctl.n s.heap), s.ctl))

-- ---- Used words: "audit 2, then 5".

unfoldable pub used_words : Store → ℕ → Result (ℕ × Control) Refused
used_words s j =
    audited (λ r. refusing r s.ctl) s
    (leb s.ctl.regions j ⇒ refusing Refusal.NoRegion s.ctl ∣
    Ok (used_by s.ctl.n s.heap s.table j, s.ctl))

-- ---- "Asked for a page by number, the library hands back that page's own P words in the heap."

unfoldable pub page_by_number : Store → ℕ → List ℕ
page_by_number s k =
    admitted (λ r. []) s
    (leb (page_count s.ctl.n s.heap) k ⇒ [] ∣
    page_words s.ctl.n s.heap k)

unfoldable pub page_refusal : Store → ℕ → Result Control Refused
page_refusal s k =
    admitted (λ r. refusing r s.ctl) s
    (leb (page_count s.ctl.n s.heap) k ⇒ refusing Refusal.NoSuch s.ctl ∣
    Ok s.ctl)
