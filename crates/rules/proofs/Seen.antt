-- What equal readings say of two values, part by part: a reading shows its value's home and kind, and by its fields or words the rest.
use Prim.Native.Nat.{ℕ, suc}
use mathlib.Core.Path.{◌≡◌, refl, sym, ap, ◌∙◌}
use mathlib.Core.Bool.{Bool, true, false}
use mathlib.Core.Option.{Option}
use mathlib.Core.List.{List, [], ◌∷◌}
use lib.ListN.{length, drop}
use Rattle.laws.proofs.Choices.{choice_keeps}
use Rattle.rules.specs.Words.{is_record}
use Rattle.rules.specs.Calls.{header_in}
use Rattle.rules.specs.Seen.{masked, Reading, refusal, whole, of_record, of_raw, read_value, ReadsAlike}

-- ---- the parts of a reading

abbrev home_of : Reading → ℕ
home_of (refusal r) = 0
home_of (whole w) = 0
home_of (of_record h fs) = h
home_of (of_raw h ws) = h

abbrev of_kind : Reading → Bool
of_kind (refusal r) = false
of_kind (whole w) = false
of_kind (of_record h fs) = true
of_kind (of_raw h ws) = false

abbrev fields_of : Reading → List (Option ℕ)
fields_of (refusal r) = []
fields_of (whole w) = []
fields_of (of_record h fs) = fs
fields_of (of_raw h ws) = []

abbrev words_of : Reading → List ℕ
words_of (refusal r) = []
words_of (whole w) = []
words_of (of_record h fs) = []
words_of (of_raw h ws) = ws

masked_length : (ws : List ℕ) → length (masked ws) ≡ length ws
unfolding masked
masked_length [] = refl
masked_length (w ∷ ws) = ap suc (masked_length ws)

-- and the parts of a value's
home_read : (h : ℕ) (v : List ℕ) → home_of (read_value h v) ≡ h
unfolding read_value
home_read h v = choice_keeps (λ r. home_of r ≡ h) (is_record (header_in v)) _ _ (λ e. refl) (λ e. refl)

kind_read : (h : ℕ) (v : List ℕ) → of_kind (read_value h v) ≡ is_record (header_in v)
unfolding read_value
kind_read h v = choice_keeps (λ r. of_kind r ≡ is_record (header_in v)) (is_record (header_in v)) _ _ (λ e. sym e) (λ e. sym e)

fields_read : (h : ℕ) (v : List ℕ) → is_record (header_in v) ≡ true → fields_of (read_value h v) ≡ masked (drop 1 v)
unfolding read_value
fields_read h v e = rw e

words_read : (h : ℕ) (v : List ℕ) → is_record (header_in v) ≡ false → words_of (read_value h v) ≡ drop 1 v
unfolding read_value
words_read h v e = rw e

pub reading_tells : (h h' : ℕ) (v v' : List ℕ) → read_value h v ≡ read_value h' v' → ReadsAlike h h' v v'
reading_tells h h' v v' e = record { homes = sym (home_read h v) ∙ ap home_of e ∙ home_read h' v'; kinds = same; lengths = long (is_record (header_in v)) refl; fields = field; words = word }
  where
    same : is_record (header_in v) ≡ is_record (header_in v')
    same = sym (kind_read h v) ∙ ap of_kind e ∙ kind_read h' v'

    field : is_record (header_in v) ≡ true → masked (drop 1 v) ≡ masked (drop 1 v')
    field k = sym (fields_read h v k) ∙ ap fields_of e ∙ fields_read h' v' (sym same ∙ k)

    word : is_record (header_in v) ≡ false → drop 1 v ≡ drop 1 v'
    word k = sym (words_read h v k) ∙ ap words_of e ∙ words_read h' v' (sym same ∙ k)

    long : (b : Bool) → is_record (header_in v) ≡ b → length (drop 1 v) ≡ length (drop 1 v')
    long true k = sym (masked_length (drop 1 v)) ∙ ap (λ (fs : List (Option ℕ)). length fs) (field k) ∙ masked_length (drop 1 v')
    long false k = ap (λ (ws : List ℕ). length ws) (word k)
