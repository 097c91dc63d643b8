-- What a caller sees of a store: what a path from a root reads, when two paths meet, which values a root reaches, and each value's home. Walks
-- are those of the walk call and readings those of the fetch call; nothing here knows of pages but that each value has a home.
use Rattle.std.specs.Prelude.{ℕ, suc, ◌<◌, ◌≡◌, true, false, List, [], ◌∷◌, length, drop, leb, eqb, Result, Ok, Err}
use Rattle.rules.specs.declared.Control.{Control}
use Rattle.rules.specs.declared.Refused.{Refused}
use Rattle.std.proofs.Math.Option.{Option, none, some}
use Rattle.laws.specs.Choice.{◌⇒◌∣◌}
use Rattle.laws.specs.Lists.{at}
use Rattle.rules.specs.declared.Refusal.{Refusal}
use Rattle.rules.specs.Memory.{Store, address_page, origin}
use Rattle.rules.specs.Words.{Word, number, in_heap, in_const, word_of, is_record}
use Rattle.rules.specs.Calls.{look_in, header_in, fields_in, is_number, Walked, ends, stops, walk_from, walk, fetch}

-- the value that a word points to, header and words, empty where there is none; and its home, a region's number plus 1, 0 for what no
-- region holds
pub record View : Type 0 where
  pub value : ℕ → List ℕ
  pub home : ℕ → ℕ

abbrev pub home_by : Store → Word → ℕ
home_by s number = 0
home_by s (in_heap a) = origin s.ctl.n s.heap (address_page s.ctl.n a)
home_by s (in_const a) = 0

unfoldable pub home_in : Store → ℕ → ℕ
home_in s w = home_by s (word_of w)

abbrev pub seen : Store → View
seen s = record { value = look_in s; home = home_in s }

-- ---- readings

-- a field as it is read: a number, or that it is a pointer
unfoldable pub masked : List ℕ → List (Option ℕ)
masked [] = []
masked (w ∷ ws) = (is_number (word_of w) ⇒ some w ∣ none) ∷ masked ws

-- what a path reads: a refusal, a number, a record's numbers and where its pointers are, or a raw value's words; of a value also its home
pub data Reading : Type 0 where
  refusal : Refusal → Reading
  whole : ℕ → Reading
  of_record : ℕ → List (Option ℕ) → Reading
  of_raw : ℕ → List ℕ → Reading

unfoldable pub read_value : ℕ → List ℕ → Reading
read_value home v = is_record (header_in v) ⇒ of_record home (masked (drop 1 v)) ∣ of_raw home (drop 1 v)

-- two values that read the same
pub record ReadsAlike (home home' : ℕ) (v v' : List ℕ) : Type 0 where
  pub homes : home ≡ home'
  pub kinds : is_record (header_in v) ≡ is_record (header_in v')
  pub lengths : length (drop 1 v) ≡ length (drop 1 v')
  -- a record's fields: the same numbers, and pointers where there were pointers
  pub fields : is_record (header_in v) ≡ true → masked (drop 1 v) ≡ masked (drop 1 v')
  -- a raw value's words
  pub words : is_record (header_in v) ≡ false → drop 1 v ≡ drop 1 v'

abbrev pub read_by : View → Walked → Reading
read_by X (stops r) = refusal r
read_by X (ends w) = is_number (word_of w) ⇒ whole w ∣ read_value (X.home w) (X.value w)

-- the path from root i by the fields fs
unfoldable pub path : View → List ℕ → ℕ → List ℕ → Walked
path X roots i fs = leb (length roots) i ⇒ stops Refusal.NoSuch ∣ walk_from X.value (at roots i) fs

unfoldable pub reading : View → List ℕ → ℕ → List ℕ → Reading
reading X roots i fs = read_by X (path X roots i fs)

-- ---- reach: the words that a root reaches
pub data Reached (X : View) (roots : List ℕ) : ℕ → Type 0 where
  root : (i : ℕ) → i < length roots → Reached X roots (at roots i)
  field : {w : ℕ} (f : ℕ) → Reached X roots w → is_record (header_in (X.value w)) ≡ true → f < fields_in (X.value w) → Reached X roots (at (X.value w) (suc f))

-- ---- what the calls answer

-- what is read where a walk ends: a refusal, a number, or the value that a fetch gives, with its home
abbrev pub read_at : Store → Result (ℕ × Control) Refused → Reading
read_at s (Ok p) = is_number (word_of p.0) ⇒ whole p.0 ∣ read_value (home_in s p.0) (fetch s p.0)
read_at s (Err e) = refusal e.why

-- two paths meet: both end on one pointer
pub record Meet (s : Store) (i : ℕ) (fs : List ℕ) (j : ℕ) (gs : List ℕ) : Type 0 where
  pub word : ℕ
  pub one : walk s i fs ≡ Ok (word, s.ctl)
  pub other : walk s j gs ≡ Ok (word, s.ctl)
  pub pointer : is_number (word_of word) ≡ false

-- the words of the value at w, L + 1, where it is one of region j's
unfoldable pub words_at : View → ℕ → ℕ → ℕ
words_at X j w = eqb (X.home w) (suc j) ⇒ length (X.value w) ∣ 0
