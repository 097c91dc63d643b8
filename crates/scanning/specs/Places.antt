-- The text by places: what code that goes through the text finds at a place. A byte outside the text is 0, which is no digit and no
-- newline, so that each of these is total; the laws in proofs/ say that they are document 01's frames.
use Rattle.std.specs.Prelude.{ℕ, zero, suc, ◌+◌, ◌*◌, Bool, ◌&&◌, List, [], ◌∷◌, eqb, Option, Some, None, is_some, unwrap_or, Result, Ok, Err}
use Rattle.std.proofs.Math.Option.{none, some}
use Rattle.laws.specs.Choice.{◌⇒◌∣◌}
use Rattle.laws.specs.Lists.{at, all_from}
use Rattle.rules.specs.declared.Refusal.{Refusal}
use Rattle.rules.specs.Image.{value_of, newline, part_fits}
use Rattle.scanning.specs.declared.Cursor.{Cursor}

-- ---- digits, numbers, words

-- what a byte stands for, as code answers it
unfoldable pub digit : ℕ → Option ℕ
digit b = elim (value_of b) [ none ↦ None | some d ↦ Some d ]

abbrev pub is_digit : ℕ → Bool
is_digit b = is_some (digit b)

-- 0 where the byte is no digit
abbrev pub digit_value : ℕ → ℕ
digit_value b = unwrap_or (digit b) 0

-- m digits stand from place i on
abbrev pub all_digits : ℕ → List ℕ → ℕ → Bool
all_digits m text i = all_from (λ k. is_digit (at text k)) m i

-- the number that m digits give, after those that gave v
unfoldable pub number_at : ℕ → ℕ → List ℕ → ℕ → ℕ
number_at zero v text i = v
number_at (suc m) v text i = number_at m (16 * v + digit_value (at text i)) text (i + 1)

-- m words of eight digits
unfoldable pub words_at : ℕ → List ℕ → ℕ → List ℕ
words_at zero text i = []
words_at (suc m) text i = number_at 8 0 text i ∷ words_at m text (i + 8)

-- ---- a frame that begins at place i

abbrev pub count_at : List ℕ → ℕ → ℕ
count_at text i = number_at 4 0 text (i + 2)

abbrev pub words_of : List ℕ → ℕ → List ℕ
words_of text i = words_at (count_at text i) text (i + 6)

-- the place behind it
abbrev pub after_frame : List ℕ → ℕ → ℕ
after_frame text i = i + 7 + 8 * count_at text i

-- digits, the kind, as many words as it says, and the newline
unfoldable pub frame_shape : ℕ → List ℕ → ℕ → Bool
frame_shape kind text i =
    all_digits 6 text i
    && eqb (number_at 2 0 text i) kind
    && all_digits (8 * count_at text i) text (i + 6)
    && eqb (at text (i + 6 + 8 * count_at text i)) newline

unfoldable pub frame_fits : ℕ → (List ℕ → Bool) → List ℕ → ℕ → Bool
frame_fits kind fits text i = frame_shape kind text i && fits (words_of text i)

abbrev pub cursor : ℕ → ℕ → Cursor
cursor i line = record { at = i; line = line }

-- the frame of a part with at most `most` words, at a cursor
unfoldable pub frame_step : List ℕ → Cursor → ℕ → ℕ → Result Cursor Refusal
frame_step text c kind most =
    frame_fits kind (part_fits most) text c.at ⇒ Ok (cursor (after_frame text c.at) (c.line + 1)) ∣
    Err (Refusal.Malformed c.line)
