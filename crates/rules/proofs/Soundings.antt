-- The starred soundings of document 01: one table, and one theorem that all of it holds. It is true by computation: the definitions are
-- run on each case, and what they give is compared word by word with what the paper says.
use Rattle.std.specs.Prelude.{Result, Ok, Err}
use Rattle.rules.specs.declared.Refused.{Refused}
use Rattle.rules.specs.declared.Refusal.{Refusal}
use Rattle.rules.specs.Refusals.{number_of, place_of, Outcome, common}
use Prim.Native.Nat.{ℕ, ◌-◌, ◌^◌}
use Prim.Native.Char.{code}
use Prim.Native.String.{String}
use mathlib.Core.Path.{◌≡◌, refl}
use mathlib.Core.Bool.{Bool, true, false, ◌&&◌, beq}
use mathlib.Core.List.{List, [], ◌∷◌, ◌++◌}
use lib.ListN.{replicate}
use lib.IntN.{ℤ, pos, negsuc}
use lib.Dec.{eqb}
use Rattle.laws.specs.Lists.{put, padded, all, all_from, zeros, times, last_or, same}
use Rattle.rules.specs.declared.Control.{Control}
use Rattle.rules.specs.declared.Kind.{Kind}
use Rattle.rules.specs.Memory.{Store, lent, control, limits, page_words, link, origin, chain, chain_end, region_pages, free_pages, pages_from}
use Rattle.rules.specs.Words.{word_of, head_of, is_record, fit, vals, page_vals, used_of, stands_at, fields_pass, good_on, good_heap, good_const, good_in}
use Rattle.rules.specs.Audit.{if_last, rule2, opens, ends_well, last_link, rule3, ends_at, top_fits, rule4, filled, page_filled, rule5, rule6, rule7, const_field, rule8, clean, rule9, first_failing, broken_rule}
use Rattle.rules.specs.Pages.{link_fits, take_page, clear_page, give_back, give_back_all, join, room, store, place}
use Rattle.rules.specs.Calls.{word_of_number, row_fits, allocate_on, allocate_in, allocate, audit, due}
use Rattle.rules.specs.Collection.{freshen, wake, move_on, move_to, region_at, evacuate_at, evacuate, evacuate_all, scan_fields, scan_value, next_from, next_scan, work, work_stack, leaves, ending, collected, collect}
use Rattle.rules.specs.Image.{digit_of, hex, hex_words, frame, trim, page_frames, image_text, value_of, digits, words, end_frame, read_words, read_frame, trimmed, part_fits, head_fits, read_frames, layout, read_text, joined, program_fits, collect_program}
use Rattle.rules.specs.Wanted.{any_page, freshen_for, room_for, move_for, evacuate_at_for, evacuate_for, roots_for, fields_for, value_for, work_for, stack_for, unbounded, wanted}

-- ---- What a sounding is, and when it holds.

pub data Sounding : Type 0 where
  -- the whole number has the word, or is refused
  has_word : ℤ → ℕ → Sounding
  has_none : ℤ → ℕ → Sounding
  -- the program "collect" prints the one text for the other
  prints : String → String → Sounding
  -- the heap passes the audit; its collection leaves the other heap, which passes too; or it is refused
  collects_to : Store → Store → Sounding
  collects_not : Store → ℕ → Sounding
  -- the first rule that it breaks
  breaks : Store → ℕ → Sounding
  -- its working wants so many pages
  wants : Store → ℕ → Sounding
  -- numbers all 1, so many, allocated as a record in region 0: the pointer, or the refusal
  stores : Store → ℕ → ℕ → Sounding
  stores_not : Store → ℕ → ℕ → Sounding
  -- a collection is due, or is not
  is_due : Store → Bool → Sounding

unfoldable pub bytes : String → List ℕ
bytes String.[] = []
bytes (String.◌∷◌ c s) = code c ∷ bytes s

abbrev pub same_control : Control → Control → Bool
same_control a b =
    eqb a.n b.n && eqb a.regions b.regions && eqb a.first b.first && eqb a.last b.last && eqb a.count b.count

abbrev pub same_store : Store → Store → Bool
same_store a b =
    same a.heap b.heap && same a.table b.table && same a.roots b.roots && same a.consts b.consts
    && same_control a.ctl b.ctl

abbrev pub is_done : Result Control Refused → Bool
is_done (Ok c) = true
is_done (Err e) = false

-- refused with the number and place 0, the record as given, and no word changed
abbrev pub is_refusal : ℕ → Store → Outcome (Result Control Refused) → Result Control Refused → Bool
is_refusal k s o (Ok c) = false
is_refusal k s o (Err e) =
    eqb (number_of e.why) k && eqb (place_of e.why) 0 && same_store s (lent o.heap o.table o.roots o.consts e.control)

-- done, leaving the store s', which passes the audit
abbrev pub leaves_passing : Store → Outcome (Result Control Refused) → Result Control Refused → Bool
leaves_passing s' o (Ok c) = same_store s' (lent o.heap o.table o.roots o.consts c) && is_done (audit s')
leaves_passing s' o (Err e) = false

abbrev pub is_word : ℕ → Result ℕ Refusal → Bool
is_word w (Ok v) = eqb v w
is_word w (Err r) = false

abbrev pub is_no_word : ℕ → Result ℕ Refusal → Bool
is_no_word k (Ok v) = false
is_no_word k (Err r) = eqb (number_of r) k

abbrev pub is_pointer : ℕ → Result (ℕ × Control) Refused → Bool
is_pointer w (Ok p) = eqb p.0 w
is_pointer w (Err e) = false

abbrev pub is_no_pointer : ℕ → Result (ℕ × Control) Refused → Bool
is_no_pointer k (Ok p) = false
is_no_pointer k (Err e) = eqb (number_of e.why) k && eqb (place_of e.why) 0

abbrev pub says_due : Bool → Result (Bool × Control) Refused → Bool
says_due b (Ok p) = beq p.0 b
says_due b (Err e) = false

abbrev pub ones : ℕ → List ℕ
ones m = replicate m 1

abbrev pub holds : Sounding → Bool
holds (has_word i w) = is_word w (word_of_number i)
holds (has_none i k) = is_no_word k (word_of_number i)
holds (prints text text') = same (collect_program (bytes text)) (bytes text')
holds (collects_to s s') = is_done (audit s) && leaves_passing s' (collect s) (collect s).answer
holds (collects_not s k) = is_done (audit s) && is_refusal k s (collect s) (collect s).answer
holds (breaks s k) = eqb (broken_rule s) k
holds (wants s m) = eqb (wanted s) m
holds (stores s m w) = is_pointer w (allocate s 0 Kind.Record (ones m)).answer
holds (stores_not s m k) = is_no_pointer k (allocate s 0 Kind.Record (ones m)).answer
holds (is_due s b) = says_due b (due s)

-- ---- Heaps, as an image gives them: words without their trailing zeros, pages in order.

abbrev pub heap_of : Control → List ℕ → List ℕ → List ℕ → List (List ℕ) → Store
heap_of c table roots consts pages = lent (joined (2 ^ c.n) pages) (padded 256 table) roots consts c

-- P 16, N 2, one record of itself at 2 (9, 8), root 8
abbrev pub itself : Store
itself = heap_of (control 4 1 2 2 1) (16 ∷ 0 ∷ 4 ∷ []) (8 ∷ []) [] ((0 ∷ 1 ∷ 9 ∷ 8 ∷ []) ∷ [] ∷ [])

-- after, at 18, (9, 72), root 72
abbrev pub itself_after : Store
itself_after = heap_of (control 4 1 1 1 1) (32 ∷ 16 ∷ 20 ∷ []) (72 ∷ []) [] ([] ∷ (0 ∷ 1 ∷ 9 ∷ 72 ∷ []) ∷ [])

-- two roots of one value, a record of another that points back to it
abbrev pub shared : Store
shared = heap_of (control 4 1 2 2 1) (16 ∷ 0 ∷ 6 ∷ []) (8 ∷ 8 ∷ []) [] ((0 ∷ 1 ∷ 9 ∷ 16 ∷ 9 ∷ 8 ∷ []) ∷ [] ∷ [])

-- one copy, equal roots
abbrev pub shared_after : Store
shared_after = heap_of (control 4 1 1 1 1) (32 ∷ 16 ∷ 22 ∷ []) (72 ∷ 72 ∷ []) [] ([] ∷ (0 ∷ 1 ∷ 9 ∷ 80 ∷ 9 ∷ 72 ∷ []) ∷ [])

-- one region, raw values of 7, 7, 10 and 4 words, headers counted, in two pages
abbrev pub four_pages : List (List ℕ)
four_pages =
    (2 ∷ 1 ∷ 51 ∷ 5 ∷ 5 ∷ 5 ∷ 5 ∷ 5 ∷ 5 ∷ 51 ∷ 6 ∷ 6 ∷ 6 ∷ 6 ∷ 6 ∷ 6 ∷ [])
    ∷ (0 ∷ 1 ∷ 75 ∷ 7 ∷ 7 ∷ 7 ∷ 7 ∷ 7 ∷ 7 ∷ 7 ∷ 7 ∷ 7 ∷ 27 ∷ 8 ∷ 8 ∷ 8 ∷ [])
    ∷ []

-- the roots name the 10, 7, 7, 4; three pages are free
abbrev pub four : Store
four = heap_of (control 4 1 3 5 3) (32 ∷ 0 ∷ 32 ∷ []) (72 ∷ 8 ∷ 36 ∷ 112 ∷ []) [] (four_pages ++ ((4 ∷ []) ∷ (5 ∷ []) ∷ [] ∷ []))

-- three pages after
abbrev pub four_after : Store
four_after =
    heap_of (control 4 1 1 2 2) (80 ∷ 32 ∷ 70 ∷ []) (136 ∷ 200 ∷ 228 ∷ 264 ∷ []) []
    ((2 ∷ [])
    ∷ []
    ∷ (4 ∷ 1 ∷ 75 ∷ 7 ∷ 7 ∷ 7 ∷ 7 ∷ 7 ∷ 7 ∷ 7 ∷ 7 ∷ 7 ∷ [])
    ∷ (5 ∷ 1 ∷ 51 ∷ 5 ∷ 5 ∷ 5 ∷ 5 ∷ 5 ∷ 5 ∷ 51 ∷ 6 ∷ 6 ∷ 6 ∷ 6 ∷ 6 ∷ 6 ∷ [])
    ∷ (0 ∷ 1 ∷ 27 ∷ 8 ∷ 8 ∷ 8 ∷ [])
    ∷ [])

-- the same with two free pages
abbrev pub four_tight : Store
four_tight = heap_of (control 4 1 3 4 2) (32 ∷ 0 ∷ 32 ∷ []) (72 ∷ 8 ∷ 36 ∷ 112 ∷ []) [] (four_pages ++ ((4 ∷ []) ∷ [] ∷ []))

-- R 0 and roots all numbers
abbrev pub bare : Store
bare = heap_of (control 4 0 1 2 2) [] (1 ∷ 3 ∷ 5 ∷ []) [] ((2 ∷ []) ∷ [] ∷ [])

-- two regions with dead values; a root is a number, another a constant
abbrev pub dead : Store
dead =
    heap_of (control 4 2 3 4 2) (16 ∷ 0 ∷ 4 ∷ 0 ∷ 32 ∷ 16 ∷ 20 ∷ []) (2 ∷ 7 ∷ []) (11 ∷ 1 ∷ [])
    ((0 ∷ 1 ∷ 9 ∷ 72 ∷ []) ∷ (0 ∷ 2 ∷ 11 ∷ 5 ∷ []) ∷ (4 ∷ []) ∷ [] ∷ [])

-- each region has one empty page
abbrev pub dead_after : Store
dead_after =
    heap_of (control 4 2 1 2 2) (48 ∷ 32 ∷ 34 ∷ 0 ∷ 64 ∷ 48 ∷ 50 ∷ []) (2 ∷ 7 ∷ []) (11 ∷ 1 ∷ [])
    ((2 ∷ []) ∷ [] ∷ (0 ∷ 1 ∷ []) ∷ (0 ∷ 2 ∷ []) ∷ [])

-- two regions: a record of the first points into the second; behind it stands a dead value
abbrev pub apart : Store
apart =
    heap_of (control 4 2 3 4 2) (16 ∷ 0 ∷ 6 ∷ 0 ∷ 32 ∷ 16 ∷ 20 ∷ []) (8 ∷ []) []
    ((0 ∷ 1 ∷ 9 ∷ 72 ∷ 11 ∷ 5 ∷ []) ∷ (0 ∷ 2 ∷ 9 ∷ 7 ∷ []) ∷ (4 ∷ []) ∷ [] ∷ [])

-- each live value in its region, the dead one gone
abbrev pub apart_after : Store
apart_after =
    heap_of (control 4 2 1 2 2) (48 ∷ 32 ∷ 36 ∷ 0 ∷ 64 ∷ 48 ∷ 52 ∷ []) (136 ∷ []) []
    ((2 ∷ []) ∷ [] ∷ (0 ∷ 1 ∷ 9 ∷ 200 ∷ []) ∷ (0 ∷ 2 ∷ 9 ∷ 7 ∷ []) ∷ [])

-- a root that is no good pointer; and so a field too
abbrev pub bad_root : Store
bad_root = heap_of (control 4 1 2 2 1) (16 ∷ 0 ∷ 4 ∷ []) (12 ∷ []) [] ((0 ∷ 1 ∷ 9 ∷ 8 ∷ []) ∷ [] ∷ [])

abbrev pub bad_field : Store
bad_field = heap_of (control 4 1 2 2 1) (16 ∷ 0 ∷ 4 ∷ []) (12 ∷ []) [] ((0 ∷ 1 ∷ 9 ∷ 12 ∷ []) ∷ [] ∷ [])

-- a free page that holds a word
abbrev pub dirty : Store
dirty = heap_of (control 4 1 2 2 1) (16 ∷ 0 ∷ 4 ∷ []) (8 ∷ []) [] ((0 ∷ 1 ∷ 9 ∷ 8 ∷ []) ∷ (0 ∷ 0 ∷ 5 ∷ []) ∷ [])

-- N 128, with a free count
abbrev pub board : ℕ → Store
board count = lent (replicate 2048 0) (replicate 256 0) [] [] (control 4 0 1 128 count)

-- ---- The table.

abbrev pub soundings : List Sounding
soundings =
    -- "Numbers 0, -1, 2^30-1, -2^30 are 1, ffffffff, 7fffffff, 80000001; 2^30 is refused, 13."
    has_word (pos 0) 1
    ∷ has_word (negsuc 0) 0xffffffff
    ∷ has_word (pos (2 ^ 30 - 1)) 0x7fffffff
    ∷ has_word (negsuc (2 ^ 30 - 1)) 0x80000001
    ∷ has_none (pos (2 ^ 30)) 13
    -- "The image above: "Sh" keeps its h."
    ∷ prints
    "0100080000000400000002000000010000000200000002000000010000000100000000\n020003000000100000000000000008\n03000100000014\n040000\n050008000000000000000100000013000000530000006800000011000000080000000f\n050000\n"
    "0100080000000400000002000000010000000100000001000000010000000100000000\n020003000000200000001000000018\n03000100000048\n040000\n050000\n050008000000000000000100000011000000540000000f000000130000005300000068\n"
    -- "P 16, N 2, one record of itself at 2 (9, 8), root 8: after, at 18, (9, 72), root 72."
    ∷ collects_to itself itself_after
    -- "Two roots of one value: one copy, equal roots."
    ∷ collects_to shared shared_after
    -- "P 16: L 13 is stored, 14 refused, 8."
    ∷ stores itself 13 72
    ∷ stores_not itself 14 8
    -- "P 16, one region, values of 7, 7, 10, 4 words in two pages; raw, with roots naming the 10, 7, 7, 4: three pages after. With two free
    -- pages: 4."
    ∷ collects_to four four_after
    ∷ collects_not four_tight 4
    -- "R 0 and roots all numbers: done, nothing changed."
    ∷ collects_to bare bare
    -- "N 128: due at 42 free, not at 43."
    ∷ is_due (board 42) true
    ∷ is_due (board 43) false
    -- "No live value: each region has one empty page."
    ∷ collects_to dead dead_after
    -- beside the starred: values stay in their regions, the first broken rule is named, and the pages that the workings above want
    ∷ collects_to apart apart_after
    ∷ breaks bad_root 7
    ∷ breaks bad_field 6
    ∷ breaks dirty 9
    ∷ wants four 3
    ∷ wants four_tight 3
    ∷ wants apart 2
    ∷ []

-- Row by row, so that a wrong definition is refused at the rows that it breaks.
infixr 5 ◌and◌
data Rows : List Sounding → Type 0 where
  no_more : Rows []
  ◌and◌ : {s : Sounding} {ss : List Sounding} → holds s ≡ true → Rows ss → Rows (s ∷ ss)

rows_hold : Rows soundings
unfolding put padded all all_from zeros times last_or same limits page_words link origin chain chain_end region_pages free_pages pages_from word_of head_of is_record fit vals page_vals used_of stands_at fields_pass good_on good_heap good_const good_in if_last rule2 opens ends_well last_link rule3 ends_at top_fits rule4 filled page_filled rule5 rule6 rule7 const_field rule8 clean rule9 first_failing broken_rule common link_fits take_page clear_page give_back give_back_all join room store place row_fits allocate_on allocate_in allocate audit due freshen wake move_on move_to region_at evacuate_at evacuate evacuate_all scan_fields scan_value next_from next_scan work work_stack leaves ending collected collect digit_of hex hex_words frame trim page_frames image_text value_of digits words end_frame read_words read_frame trimmed part_fits head_fits read_frames layout read_text joined program_fits collect_program bytes any_page freshen_for room_for move_for evacuate_at_for evacuate_for roots_for fields_for value_for work_for stack_for unbounded wanted
rows_hold =
    refl and refl and refl and refl and refl and
    refl and
    refl and
    refl and
    refl and refl and
    refl and refl and
    refl and
    refl and refl and
    refl and
    refl and refl and refl and refl and refl and refl and refl and no_more

all_hold : {ss : List Sounding} → Rows ss → all holds ss ≡ true
unfolding all
all_hold no_more = refl
all_hold (e and r) = rw (e, all) (all_hold r)

pub soundings_hold : all holds soundings ≡ true
soundings_hold = all_hold rows_hold
