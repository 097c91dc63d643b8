-- Document 01, "Refusal numbers": the tests of each call, in the paper's order, each with the refusal that it gives where it holds. A call
-- refuses by the first that holds; their numbers are those that the paper lists.
use Rattle.std.specs.Prelude.{ℕ, zero, suc, ◌+◌, ◌-◌, ◌/◌, ◌%◌, ◌^◌, ◌≡◌, refl, Bool, true, false, ◌&&◌, ◌||◌, not, List, [], ◌∷◌, length, drop, ℤ, pos, negsuc, leb, ltb, eqb, Result, Ok, Err}
use Rattle.rules.specs.declared.Refused.{Refused}
use Rattle.rules.specs.Refusals.{number_of, Outcome, outcome, refused, within_limits, common_test, refusing}
use Rattle.std.proofs.Math.Option.{Option, none, some}
use Rattle.laws.specs.Lists.{at, zeros}
use Rattle.rules.specs.declared.Control.{Control}
use Rattle.rules.specs.declared.Kind.{Kind}
use Rattle.rules.specs.declared.Refusal.{Refusal}
use Rattle.rules.specs.Memory.{Store, limits, page_count, row, end_of, top_of}
use Rattle.rules.specs.Words.{Word, number, in_heap, in_const, word_of, pointer_address, is_record}
use Rattle.rules.specs.Audit.{broken_rule, good_word}
use Rattle.rules.specs.Pages.{begun, link_fits}
use Rattle.rules.specs.Calls.{look_in, header_in, fields_in, let_go, row_fits, words_fit, is_there, is_number}
use Rattle.rules.specs.Collection.{finished, lacks_page, unfinished, freshen, evacuate_all, work_stack}
use Rattle.rules.specs.Image.{Written, refused_text, image_text, Frames, frames, malformed, read_text, store_of, same_lengths}

-- ---- Tests in order.

pub record Test : Type 0 where
  pub holds : Bool
  pub why : Refusal

abbrev pub test : Bool → Refusal → Test
test b r = record { holds = b; why = r }

-- the refusal of the first that holds
unfoldable pub first_refusal : List Test → Option Refusal
first_refusal [] = none
first_refusal (t ∷ ts) = elim t.holds [ true ↦ some t.why | false ↦ first_refusal ts ]

-- r is the refusal of a test that holds, and no test before it does
pub data First : List Test → Refusal → Type 0 where
  this : {t : Test} {ts : List Test} {r : Refusal} → t.holds ≡ true → t.why ≡ r → First (t ∷ ts) r
  next : {t : Test} {ts : List Test} {r : Refusal} → t.holds ≡ false → First ts r → First (t ∷ ts) r

-- the paper's numbers, in order
unfoldable pub numbers : List Test → List ℕ
numbers [] = []
numbers (t ∷ ts) = number_of t.why ∷ numbers ts

-- ---- What an answer refuses with.

abbrev pub why_of : {A : Type 0} → Result A Refused → Option Refusal
why_of (Ok a) = none
why_of (Err e) = some e.why

-- of a call that is given no record
abbrev pub why_alone : {A : Type 0} → Result A Refusal → Option Refusal
why_alone (Ok a) = none
why_alone (Err r) = some r

-- ---- How calls refuse. "A refusal changes no word and returns its number, a place, and the control record as given."

-- How calls of a kind refuse: `refuse r` is the outcome of a refusal, the store as it was and the record as given; `why` is what an outcome
-- refuses with.
pub record Refusing (O : Type 0) : Type 0 where
  pub refuse : Refusal → O
  pub why : O → Option Refusal
  pub says : (r : Refusal) → why (refuse r) ≡ some r

-- calls that may change the lent words
abbrev pub on_store : {A : Type 0} → Store → Refusing (Outcome (Result A Refused))
on_store s = record { refuse = refused s; why = λ o. why_of o.answer; says = λ r. refl }

abbrev pub on_parts : List ℕ → List ℕ → List ℕ → List ℕ → Refusing (Outcome (Result Control Refusal))
on_parts heap table roots consts =
    record { refuse = λ r. outcome (Err r) heap table roots consts; why = λ o. why_alone o.answer; says = λ r. refl }

abbrev pub on_text : Store → List ℕ → Refusing Written
on_text s bytes = record { refuse = refused_text s bytes; why = λ w. why_of w.answer; says = λ r. refl }

-- calls that only answer
abbrev pub to_caller : {A : Type 0} → Control → Refusing (Result A Refused)
to_caller c = record { refuse = λ r. refusing r c; why = why_of; says = λ r. refl }

-- and those that are given no record
abbrev pub alone : {A : Type 0} → Refusing (Result A Refusal)
alone = record { refuse = Err; why = why_alone; says = λ r. refl }

-- ---- The calls. "Except in setting up, the number conversions and reading an image, every call tests 1 first, then .. (else 2)."

abbrev pub limits_test : Store → Test
limits_test s = test (not (within_limits s)) Refusal.Limits

abbrev pub record_test : Store → Test
record_test s = test (not (common_test s)) (Refusal.Broken 0)

-- "audit 2"
abbrev pub audit_test : Store → Test
audit_test s = test (not (eqb (broken_rule s) 0)) (Refusal.Broken (broken_rule s))

-- "setting up (1 only)"
abbrev pub set_up_tests : ℕ → List ℕ → List ℕ → List ℕ → List ℕ → List Test
set_up_tests n heap table roots consts = test (not (limits n (length heap) (length table) (length roots) (length consts))) Refusal.Limits ∷ []

-- "After 4, taking a page needs its link at most N, and 0 exactly when the count is 1, else 2."
abbrev pub no_page : Store → Bool
no_page s = eqb s.ctl.count 0

abbrev pub bad_link : Store → Bool
bad_link s = not (link_fits s.ctl.n s.heap (s.ctl.first - 1) s.ctl.count)

-- "push 3, 4"
abbrev pub push_tests : Store → List Test
push_tests s =
    limits_test s ∷ record_test s
    ∷ test (leb 64 s.ctl.regions) Refusal.RegionsFull
    ∷ test (no_page s) Refusal.NoPage
    ∷ test (bad_link s) (Refusal.Broken 0)
    ∷ []

-- "Pop: audit 2, then 5, 6."
abbrev pub pop_tests : Store → List Test
pop_tests s =
    limits_test s ∷ record_test s ∷ audit_test s
    ∷ test (eqb s.ctl.regions 0) Refusal.NoRegion
    ∷ test (not (let_go s.ctl.n s.heap s.table s.roots (s.ctl.regions - 1))) Refusal.Held
    ∷ []

-- the value of L words does not fit before e
abbrev pub wants_page : Store → ℕ → ℕ → Bool
wants_page s j l = not (leb (top_of s.table j + suc l) (end_of s.table j))

-- "Allocate 5, the region's e and a (else 2), 8, 7, 4."
abbrev pub allocate_tests : Store → ℕ → Kind → List ℕ → List Test
allocate_tests s j kind ws =
    limits_test s ∷ record_test s
    ∷ test (leb s.ctl.regions j) Refusal.NoRegion
    ∷ test (not (row_fits s.ctl.n s.heap s.table j)) (Refusal.Broken 0)
    ∷ test (ltb (2 ^ s.ctl.n) (length ws + 3)) Refusal.TooLong
    ∷ test (not (words_fit s kind ws)) Refusal.NotGood
    ∷ test (wants_page s j (length ws) && no_page s) Refusal.NoPage
    ∷ test (wants_page s j (length ws) && bad_link s) (Refusal.Broken 0)
    ∷ []

-- "Fetch 7."
abbrev pub fetch_tests : Store → ℕ → List Test
fetch_tests s w = limits_test s ∷ record_test s ∷ test (not (is_there (look_in s w))) Refusal.NotGood ∷ []

abbrev pub is_const : Word → Bool
is_const number = false
is_const (in_heap a) = false
is_const (in_const a) = true

-- "Assign: target 7 (a number as target is 9), 12, 9, 10, the word 7."
abbrev pub assign_tests : Store → ℕ → ℕ → ℕ → List Test
assign_tests s w i x =
    limits_test s ∷ record_test s
    ∷ test (not (good_word s w)) Refusal.NotGood
    ∷ test (is_const (word_of w)) Refusal.Constant
    ∷ test (is_number (word_of w) || not (is_record (at s.heap (pointer_address w)))) Refusal.NoFields
    ∷ test (leb (at s.heap (pointer_address w) / 8) i) Refusal.NoSuch
    ∷ test (not (good_word s x)) Refusal.NotGood
    ∷ []

-- "Root 10, 7."
abbrev pub set_root_tests : Store → ℕ → ℕ → List Test
set_root_tests s i w =
    limits_test s ∷ record_test s
    ∷ test (leb (length s.roots) i) Refusal.NoSuch
    ∷ test (not (good_word s w)) Refusal.NotGood
    ∷ []

-- "each step 7, 9, 10; the final word 7": the walk is at the word w
unfoldable pub step_tests : (ℕ → List ℕ) → ℕ → List ℕ → List Test
step_tests view w [] = test (not (is_number (word_of w)) && not (is_there (view w))) Refusal.NotGood ∷ []
step_tests view w (f ∷ fs) =
    test (not (is_number (word_of w)) && not (is_there (view w))) Refusal.NotGood
    ∷ test (is_number (word_of w) || not (is_record (header_in (view w)))) Refusal.NoFields
    ∷ test (leb (fields_in (view w)) f) Refusal.NoSuch
    ∷ step_tests view (at (view w) (suc f)) fs

-- "Walk: root 10, then each step"
abbrev pub walk_tests : Store → ℕ → List ℕ → List Test
walk_tests s i path =
    limits_test s ∷ record_test s
    ∷ test (leb (length s.roots) i) Refusal.NoSuch
    ∷ step_tests (look_in s) (at s.roots i) path

-- "Audit 2."
abbrev pub audit_tests : Store → List Test
audit_tests s = limits_test s ∷ record_test s ∷ audit_test s ∷ []

abbrev pub due_tests : Store → List Test
due_tests s = limits_test s ∷ record_test s ∷ []

-- "Used words: audit 2, then 5."
abbrev pub used_tests : Store → ℕ → List Test
used_tests s j = limits_test s ∷ record_test s ∷ audit_test s ∷ test (leb s.ctl.regions j) Refusal.NoRegion ∷ []

-- "A page by number: 10."
abbrev pub page_tests : Store → ℕ → List Test
page_tests s k = limits_test s ∷ record_test s ∷ test (leb (page_count s.ctl.n s.heap) k) Refusal.NoSuch ∷ []

-- a page is wanted by the collection and none is free
unfoldable pub lacks : Store → Bool
lacks s = elim (freshen s.ctl.n s.ctl.regions 0 (begun s)) [
  | none ↦ true
  | some r ↦ elim (evacuate_all s.ctl.n s.roots r) [
    | none ↦ true
    | some p ↦ elim (work_stack s.ctl.n p.1) [ finished q ↦ false | lacks_page ↦ true | unfinished ↦ false ]
  ]
]

-- "Collection: audit 2, then 4."
abbrev pub collect_tests : Store → List Test
collect_tests s = limits_test s ∷ record_test s ∷ audit_test s ∷ test (lacks s) Refusal.NoPage ∷ []

-- "Writing an image: table words past 4R not 0 give 2, text longer than the lent bytes 1"
abbrev pub write_tests : Store → List ℕ → List Test
write_tests s bytes =
    limits_test s ∷ record_test s
    ∷ test (not (zeros (drop (row s.ctl.regions) s.table))) (Refusal.Broken 0)
    ∷ test (ltb (length bytes) (length (image_text s))) Refusal.Limits
    ∷ []

-- "Reading an image: 14, then 1 unless the lent parts have exactly the stated lengths, the table 256."
abbrev pub is_malformed : Frames → Bool
is_malformed (frames fs) = false
is_malformed (malformed line) = true

abbrev pub fault_line : Frames → ℕ
fault_line (frames fs) = 0
fault_line (malformed line) = line

abbrev pub words_of : Frames → List (List ℕ)
words_of (frames fs) = fs
words_of (malformed line) = []

abbrev pub read_tests : List ℕ → List ℕ → List ℕ → List ℕ → List ℕ → List Test
read_tests text heap table roots consts =
    test (is_malformed (read_text text)) (Refusal.Malformed (fault_line (read_text text)))
    ∷ test (not (same_lengths (store_of (words_of (read_text text))) heap table roots consts)) Refusal.Limits
    ∷ []

-- "the number conversions (13 only)"
abbrev pub size_of : ℤ → ℕ
size_of (pos i) = i
size_of (negsuc i) = i

abbrev pub word_tests : ℤ → List Test
word_tests i = test (not (ltb (size_of i) (2 ^ 30))) Refusal.NoNumber ∷ []

abbrev pub number_tests : ℕ → List Test
number_tests w = test (eqb (w % 2) 0) Refusal.NoNumber ∷ []

-- ---- The numbers that the paper lists for each call, in its order.

-- "each step 7, 9, 10; the final word 7", for m steps
unfoldable pub step_numbers : ℕ → List ℕ
step_numbers zero = 7 ∷ []
step_numbers (suc m) = 7 ∷ 9 ∷ 10 ∷ step_numbers m

pub record Numbers : Type 0 where
  pub of_set_up : (n : ℕ) (heap table roots consts : List ℕ) → numbers (set_up_tests n heap table roots consts) ≡ 1 ∷ []
  pub of_push : (s : Store) → numbers (push_tests s) ≡ 1 ∷ 2 ∷ 3 ∷ 4 ∷ 2 ∷ []
  pub of_pop : (s : Store) → numbers (pop_tests s) ≡ 1 ∷ 2 ∷ 2 ∷ 5 ∷ 6 ∷ []
  pub of_allocate : (s : Store) (j : ℕ) (kind : Kind) (ws : List ℕ) → numbers (allocate_tests s j kind ws) ≡ 1 ∷ 2 ∷ 5 ∷ 2 ∷ 8 ∷ 7 ∷ 4 ∷ 2 ∷ []
  pub of_fetch : (s : Store) (w : ℕ) → numbers (fetch_tests s w) ≡ 1 ∷ 2 ∷ 7 ∷ []
  pub of_assign : (s : Store) (w i x : ℕ) → numbers (assign_tests s w i x) ≡ 1 ∷ 2 ∷ 7 ∷ 12 ∷ 9 ∷ 10 ∷ 7 ∷ []
  pub of_set_root : (s : Store) (i w : ℕ) → numbers (set_root_tests s i w) ≡ 1 ∷ 2 ∷ 10 ∷ 7 ∷ []
  pub of_walk : (s : Store) (i : ℕ) (path : List ℕ) → numbers (walk_tests s i path) ≡ 1 ∷ 2 ∷ 10 ∷ step_numbers (length path)
  pub of_audit : (s : Store) → numbers (audit_tests s) ≡ 1 ∷ 2 ∷ 2 ∷ []
  pub of_collect : (s : Store) → numbers (collect_tests s) ≡ 1 ∷ 2 ∷ 2 ∷ 4 ∷ []
  pub of_due : (s : Store) → numbers (due_tests s) ≡ 1 ∷ 2 ∷ []
  pub of_used_words : (s : Store) (j : ℕ) → numbers (used_tests s j) ≡ 1 ∷ 2 ∷ 2 ∷ 5 ∷ []
  pub of_page : (s : Store) (k : ℕ) → numbers (page_tests s k) ≡ 1 ∷ 2 ∷ 10 ∷ []
  pub of_write : (s : Store) (bytes : List ℕ) → numbers (write_tests s bytes) ≡ 1 ∷ 2 ∷ 2 ∷ 1 ∷ []
  pub of_read : (text heap table roots consts : List ℕ) → numbers (read_tests text heap table roots consts) ≡ 14 ∷ 1 ∷ []
  pub of_word : (i : ℤ) → numbers (word_tests i) ≡ 13 ∷ []
  pub of_number : (w : ℕ) → numbers (number_tests w) ≡ 13 ∷ []
