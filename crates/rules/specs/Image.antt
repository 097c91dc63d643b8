-- Document 01, "Image text": frames, writing, reading, and the program "collect" as a function from bytes to bytes.
use Rattle.std.specs.Prelude.{ℕ, zero, suc, ◌+◌, ◌-◌, ◌*◌, ◌/◌, ◌%◌, ◌^◌, Bool, true, false, ◌&&◌, not, List, [], ◌∷◌, ◌++◌, length, take, drop, get_or, replicate, leb, ltb, eqb, Result, Ok, Err}
use Rattle.rules.specs.declared.Refused.{Refused}
use Rattle.rules.specs.Refusals.{number_of, place_of, Outcome, outcome, admitted, refusing}
use Rattle.std.proofs.Math.Option.{Option, none, some}
use Rattle.laws.specs.Choice.{◌⇒◌∣◌}
use Rattle.laws.specs.Lists.{at, padded, zeros}
use Rattle.rules.specs.declared.Control.{Control}
use Rattle.rules.specs.declared.Refusal.{Refusal}
use Rattle.rules.specs.Memory.{Store, lent, control, page_count, page_words, row}
use Rattle.rules.specs.Collection.{collect}

-- ---- "Lower-case hexadecimal, one frame a line, newline after each, nothing else."

unfoldable pub digit_of : ℕ → ℕ
digit_of d = ltb d 10 ⇒ 48 + d ∣ 87 + d

-- the last m digits of w
unfoldable pub hex : ℕ → ℕ → List ℕ
hex zero w = []
hex (suc m) w = digit_of (w / 16 ^ m % 16) ∷ hex m w

unfoldable pub hex_words : List ℕ → List ℕ
hex_words [] = []
hex_words (w ∷ ws) = hex 8 w ++ hex_words ws

abbrev pub newline : ℕ
newline = 10

-- "A frame: two digits of kind, four digits of word count, eight digits a word."
unfoldable pub frame : ℕ → List ℕ → List ℕ
frame kind ws = hex 2 kind ++ hex 4 (length ws) ++ hex_words ws ++ (newline ∷ [])

-- "Kinds 02 to 05 drop their trailing zero words"
unfoldable pub trim : List ℕ → List ℕ
trim [] = []
trim (w ∷ ws) = elim (trim ws) [ [] ↦ (eqb w 0 ⇒ [] ∣ w ∷ []) | x ∷ xs ↦ w ∷ x ∷ xs ]

-- ---- Writing. "Kind 01: n, N, R, free first, last, count, number of roots, number of constants; always 8 words. 02: the 4R table words.
-- 03: roots. 04: constants. 05: a page, N of them in order."

abbrev pub head_words : Store → List ℕ
head_words s =
    s.ctl.n ∷ page_count s.ctl.n s.heap ∷ s.ctl.regions ∷ s.ctl.first ∷ s.ctl.last ∷ s.ctl.count
    ∷ length s.roots ∷ length s.consts ∷ []

-- the m pages from page k on
unfoldable pub page_frames : ℕ → List ℕ → ℕ → ℕ → List ℕ
page_frames n heap zero k = []
page_frames n heap (suc m) k = frame 5 (trim (page_words n heap k)) ++ page_frames n heap m (suc k)

unfoldable pub image_text : Store → List ℕ
image_text s =
    frame 1 (head_words s)
    ++ frame 2 (trim (take (row s.ctl.regions) s.table))
    ++ frame 3 (trim s.roots)
    ++ frame 4 (trim s.consts)
    ++ page_frames s.ctl.n s.heap (page_count s.ctl.n s.heap) 0

-- the answer of writing, and the lent bytes as it leaves them
pub record Written : Type 0 where
  pub answer : Result (ℕ × Control) Refused
  pub bytes : List ℕ

abbrev pub written : Result (ℕ × Control) Refused → List ℕ → Written
written a bs = record { answer = a; bytes = bs }

abbrev pub refused_text : Store → List ℕ → Refusal → Written
refused_text s bytes r = written (refusing r s.ctl) bytes

-- "bytes past the text stay"
unfoldable pub write_text : Store → List ℕ → List ℕ → Written
write_text s bytes text =
    ltb (length bytes) (length text) ⇒ refused_text s bytes Refusal.Limits ∣
    written (Ok (length text, s.ctl)) (text ++ drop (length text) bytes)

-- "Writing an image: table words past 4R not 0 give 2, text longer than the lent bytes 1"
unfoldable pub write_image : Store → List ℕ → Written
write_image s bytes =
    admitted (refused_text s bytes) s
    (not (zeros (drop (row s.ctl.regions) s.table)) ⇒ refused_text s bytes (Refusal.Broken 0) ∣
    write_text s bytes (image_text s))

-- ---- Reading a frame: what it gives, and the bytes behind it; none where the frame is malformed.

unfoldable pub value_of : ℕ → Option ℕ
value_of b =
    ltb b 48 ⇒ none ∣
    ltb b 58 ⇒ some (b - 48) ∣
    ltb b 97 ⇒ none ∣
    ltb b 103 ⇒ some (b - 87) ∣
    none

-- m digits, after those that gave v
unfoldable pub digits : ℕ → ℕ → List ℕ → Option (ℕ × List ℕ)
digits zero v bs = some (v, bs)
digits (suc m) v [] = none
digits (suc m) v (b ∷ bs) = elim (value_of b) [ none ↦ none | some d ↦ digits m (16 * v + d) bs ]

-- m words of eight digits
unfoldable pub words : ℕ → List ℕ → Option (List ℕ × List ℕ)
words zero bs = some ([], bs)
words (suc m) bs = elim (digits 8 0 bs) [
  | none ↦ none
  | some p ↦ elim (words m p.1) [ none ↦ none | some q ↦ some (p.0 ∷ q.0, q.1) ]
]

-- the newline that ends a frame of the words ws
unfoldable pub end_frame : List ℕ → List ℕ → Option (List ℕ × List ℕ)
end_frame ws [] = none
end_frame ws (b ∷ bs) = eqb b newline ⇒ some (ws, bs) ∣ none

-- the words after the word count m, if the test passes them
unfoldable pub read_words : (List ℕ → Bool) → ℕ → List ℕ → Option (List ℕ × List ℕ)
read_words fits m bs = elim (words m bs) [ none ↦ none | some p ↦ (fits p.0 ⇒ end_frame p.0 p.1 ∣ none) ]

unfoldable pub read_frame : ℕ → (List ℕ → Bool) → List ℕ → Option (List ℕ × List ℕ)
read_frame kind fits bs = elim (digits 2 0 bs) [
  | none ↦ none
  | some p ↦ elim (eqb p.0 kind) [
    | false ↦ none
    | true ↦ elim (digits 4 0 p.1) [ none ↦ none | some q ↦ read_words fits q.0 q.1 ]
  ]
]

-- the last word is not 0: "a frame that keeps one is malformed"
unfoldable pub trimmed : List ℕ → Bool
trimmed [] = true
trimmed (w ∷ []) = not (eqb w 0)
trimmed (w ∷ x ∷ ws) = trimmed (x ∷ ws)

-- "with more words than its part": the part has at most `most` words
unfoldable pub part_fits : ℕ → List ℕ → Bool
part_fits most ws = leb (length ws) most && trimmed ws

-- "in the first frame also n, N, R, roots or constants outside their limits"
unfoldable pub head_fits : List ℕ → Bool
head_fits ws =
    eqb (length ws) 8
    && leb 4 (at ws 0) && leb (at ws 0) 8
    && leb 2 (at ws 1) && leb (at ws 1 * 2 ^ at ws 0) 65536
    && leb (at ws 2) 64
    && leb (at ws 6) 1024
    && leb (at ws 7) 65535

-- ---- Reading the frames in order, line by line.

-- a frame that is expected: its kind, and how many words its part has
pub record Expected : Type 0 where
  pub kind : ℕ
  pub most : ℕ

abbrev pub expected : ℕ → ℕ → Expected
expected k m = record { kind = k; most = m }

-- the words of the frames, in order; or the line of the first malformed one
pub data Frames : Type 0 where
  frames : List (List ℕ) → Frames
  malformed : ℕ → Frames

abbrev pub with_frame : List ℕ → Frames → Frames
with_frame ws (frames fs) = frames (ws ∷ fs)
with_frame ws (malformed line) = malformed line

-- "cut short or missing, or one past the last"
unfoldable pub read_frames : ℕ → List Expected → List ℕ → Frames
read_frames line [] [] = frames []
read_frames line [] (b ∷ bs) = malformed line
read_frames line (e ∷ es) bs = elim (read_frame e.kind (part_fits e.most) bs) [
  | none ↦ malformed line
  | some p ↦ with_frame p.0 (read_frames (suc line) es p.1)
]

-- the frames that follow a first frame
unfoldable pub layout : List ℕ → List Expected
layout head =
    expected 2 (row (at head 2)) ∷ expected 3 (at head 6) ∷ expected 4 (at head 7)
    ∷ replicate (at head 1) (expected 5 (2 ^ at head 0))

-- the first frame's words, then those of the others
unfoldable pub read_text : List ℕ → Frames
read_text bs = elim (read_frame 1 head_fits bs) [
  | none ↦ malformed 1
  | some p ↦ with_frame p.0 (read_frames 2 (layout p.0) p.1)
]

-- ---- Reading an image: "14, then 1 unless the lent parts have exactly the stated lengths, the table 256".

abbrev pub head_control : List ℕ → Control
head_control head = control (at head 0) (at head 2) (at head 3) (at head 4) (at head 5)

-- pages of P words, one after the other
unfoldable pub joined : ℕ → List (List ℕ) → List ℕ
joined P [] = []
joined P (page ∷ pages) = padded P page ++ joined P pages

-- the store that the frames of an image give: the first frame, table, roots, constants, pages
abbrev pub store_from : List ℕ → List ℕ → List ℕ → List ℕ → List (List ℕ) → Store
store_from head table roots consts pages =
    lent (joined (2 ^ at head 0) pages) (padded 256 table) (padded (at head 6) roots) (padded (at head 7) consts) (head_control head)

abbrev pub store_of : List (List ℕ) → Store
store_of fs = store_from (get_or fs 0 []) (get_or fs 1 []) (get_or fs 2 []) (get_or fs 3 []) (drop 4 fs)

-- the lent parts have exactly the lengths of the image's
unfoldable pub same_lengths : Store → List ℕ → List ℕ → List ℕ → List ℕ → Bool
same_lengths s heap table roots consts =
    eqb (length heap) (length s.heap)
    && eqb (length table) 256
    && eqb (length roots) (length s.roots)
    && eqb (length consts) (length s.consts)

unfoldable pub read_store : Store → List ℕ → List ℕ → List ℕ → List ℕ → Outcome (Result Control Refusal)
read_store s heap table roots consts =
    not (same_lengths s heap table roots consts) ⇒ outcome (Err Refusal.Limits) heap table roots consts ∣
    outcome (Ok s.ctl) s.heap s.table s.roots s.consts

abbrev pub read_on : Frames → List ℕ → List ℕ → List ℕ → List ℕ → Outcome (Result Control Refusal)
read_on (frames fs) heap table roots consts = read_store (store_of fs) heap table roots consts
read_on (malformed line) heap table roots consts = outcome (Err (Refusal.Malformed line)) heap table roots consts

unfoldable pub read_image : List ℕ → List ℕ → List ℕ → List ℕ → List ℕ → Outcome (Result Control Refusal)
read_image text heap table roots consts = read_on (read_text text) heap table roots consts

-- ---- The program "collect": it "reads an image on standard input and prints the collected one, or `ff0002`, the refusal and the place".

abbrev pub refusal_text : Refusal → List ℕ
refusal_text r = frame 255 (number_of r ∷ place_of r ∷ [])

-- what a collection leaves, as an image; or its refusal
abbrev pub collected_text : Outcome (Result Control Refused) → Result Control Refused → List ℕ
collected_text o (Ok c) = image_text (lent o.heap o.table o.roots o.consts c)
collected_text o (Err e) = refusal_text e.why

-- "It takes at most 4,096 heap and 1,024 constant words, else 14 at line 1"
unfoldable pub program_fits : List ℕ → Bool
program_fits ws = head_fits ws && leb (at ws 1 * 2 ^ at ws 0) 4096 && leb (at ws 7) 1024

abbrev pub program_on : Frames → List ℕ
program_on (frames fs) = collected_text (collect (store_of fs)) (collect (store_of fs)).answer
program_on (malformed line) = refusal_text (Refusal.Malformed line)

unfoldable pub collect_program : List ℕ → List ℕ
collect_program text = elim (read_frame 1 program_fits text) [
  | none ↦ refusal_text (Refusal.Malformed 1)
  | some p ↦ program_on (read_text text)
]
