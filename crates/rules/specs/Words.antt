-- Document 01, "Words and values": words, headers, values that stand back to back, good pointers, whole numbers.
use Rattle.std.specs.Prelude.{ℕ, zero, suc, ◌+◌, ◌*◌, ◌/◌, ◌%◌, Bool, true, false, ◌&&◌, List, [], ◌∷◌, length, take, drop, leb, eqb}
use Rattle.std.proofs.Math.Option.{Option, none, some}
use Rattle.std.proofs.Math.Seq.{slice}
use Rattle.laws.specs.Choice.{◌⇒◌∣◌}
use Rattle.laws.specs.Lists.{at, all}
use Rattle.rules.specs.Memory.{address_page, body_words, body_address, origin}

-- ---- Words.

-- "Odd word: a whole number. Multiple of 4: a pointer to heap address w/4. Remainder 2: a pointer to constant address (w-2)/4."
pub data Word : Type 0 where
  number : Word
  in_heap in_const : ℕ → Word

abbrev pub word_by : ℕ → ℕ → Word
word_by zero q = in_heap q
word_by (suc zero) q = number
word_by (suc (suc zero)) q = in_const q
word_by (suc (suc (suc r))) q = number

abbrev pub address_pointer : ℕ → ℕ
address_pointer a = 4 * a

-- the same for both memories: what is left of 2 does not count
abbrev pub pointer_address : ℕ → ℕ
pointer_address w = w / 4

unfoldable pub word_of : ℕ → Word
word_of w = word_by (w % 4) (pointer_address w)

-- ---- Headers.

-- "Header 8L+1: record. Header 8L+3: raw." During a collection a header may be a forward, the pointer to the copy.
pub data Head : Type 0 where
  rec raw moved : ℕ → Head
  wrong : Head

abbrev pub head_by : ℕ → ℕ → Head
head_by zero q = moved (q * 2)
head_by (suc zero) q = rec q
head_by (suc (suc zero)) q = wrong
head_by (suc (suc (suc zero))) q = raw q
head_by (suc (suc (suc (suc zero)))) q = moved (q * 2 + 1)
head_by (suc (suc (suc (suc (suc r))))) q = wrong

unfoldable pub head_of : ℕ → Head
head_of h = head_by (h % 8) (h / 8)

abbrev pub length_by : Head → Option ℕ
length_by (rec l) = some l
length_by (raw l) = some l
length_by (moved b) = none
length_by wrong = none

abbrev pub record_by : Head → Bool
record_by (rec l) = true
record_by (raw l) = false
record_by (moved b) = false
record_by wrong = false

unfoldable pub is_record : ℕ → Bool
is_record h = record_by (head_of h)

-- the words that a value takes, its header and L words, by its header
abbrev pub words_by : Head → ℕ
words_by (rec l) = suc l
words_by (raw l) = suc l
words_by (moved b) = 1
words_by wrong = 1

-- L, where h is a valid header and its L words fit into the m words that follow it
unfoldable pub fit : ℕ → ℕ → Option ℕ
fit h m = elim (length_by (head_of h)) [ none ↦ none | some l ↦ elim (leb l m) [ true ↦ some l | false ↦ none ] ]

-- h is the header of a value that fits into the m words that follow it
unfoldable pub fits : ℕ → ℕ → Bool
fits h m = elim (fit h m) [ none ↦ false | some l ↦ true ]

-- ---- Values.

-- "A value is a header and L words."
pub record Val : Type 0 where
  pub at : ℕ
  pub is_rec : Bool
  pub words : List ℕ

-- "stepping by headers": the values that stand back to back from the front of the words, the first of which has address a. The
-- stepping stops at the first value that has no valid header or does not end inside. (k words of the value before are to be passed.)
unfoldable pub vals : ℕ → ℕ → List ℕ → List Val
vals a k [] = []
vals a (suc k) (w ∷ ws) = vals (suc a) k ws
vals a zero (w ∷ ws) = elim (fit w (length ws)) [
  | none ↦ []
  | some l ↦ record { at = a; is_rec = is_record w; words = take l ws } ∷ vals (suc a) l ws
]

-- the values from address a up to address e
unfoldable pub vals_in : List ℕ → ℕ → ℕ → List Val
vals_in h a e = vals a 0 (slice a e h)

-- the values of page k, "from that page's third word"; of the constants, "from constant 0"
unfoldable pub page_vals : ℕ → List ℕ → ℕ → List Val
page_vals n heap k = vals (body_address n k) 0 (body_words n heap k)

abbrev pub const_vals : List ℕ → List Val
const_vals consts = vals 0 0 consts

-- the words that values take, "L+1 summed"
unfoldable pub used_of : List Val → ℕ
used_of [] = zero
used_of (v ∷ vs) = suc (length v.words) + used_of vs

-- the stepping lands on the address
unfoldable pub stands_at : ℕ → List Val → Bool
stands_at a [] = false
stands_at a (v ∷ vs) = elim (eqb a v.at) [ true ↦ true | false ↦ stands_at a vs ]

-- the test passes at each field of a record; raw words are not looked at
unfoldable pub fields_pass : (ℕ → Bool) → Val → Bool
fields_pass p v = elim v.is_rec [ true ↦ all p v.words | false ↦ true ]

-- ---- Good pointers.

-- "its page has an origin from 1 to R and stepping by headers from that page's third word lands on the address"
unfoldable pub good_on : ℕ → ℕ → List ℕ → ℕ → ℕ → Bool
good_on n R heap k a = elim (leb 1 (origin n heap k) && leb (origin n heap k) R) [
  | true ↦ stands_at a (page_vals n heap k)
  | false ↦ false
]

unfoldable pub good_heap : ℕ → ℕ → List ℕ → ℕ → Bool
good_heap n R heap a = good_on n R heap (address_page n a) a

-- "A constant pointer is good by the same stepping from constant 0."
unfoldable pub good_const : List ℕ → ℕ → Bool
good_const consts a = stands_at a (const_vals consts)

-- a number or a good pointer
unfoldable pub good_in : ℕ → ℕ → List ℕ → List ℕ → ℕ → Bool
good_in n R heap consts w = elim (word_of w) [ number ↦ true | in_heap a ↦ good_heap n R heap a | in_const a ↦ good_const consts a ]

-- ---- What a pointer names.

-- the header and words of the value at address a
unfoldable pub value_at : List ℕ → ℕ → List ℕ
value_at memory a = take (words_by (head_of (at memory a))) (drop a memory)

-- the value that a word points to, "as a part of the heap or of the constants"; empty where the word is no good pointer
unfoldable pub look : ℕ → ℕ → List ℕ → List ℕ → ℕ → List ℕ
look n R heap consts w = elim (word_of w) [
  | number ↦ []
  | in_heap a ↦ (good_heap n R heap a ⇒ value_at heap a ∣ [])
  | in_const a ↦ (good_const consts a ⇒ value_at consts a ∣ [])
]
