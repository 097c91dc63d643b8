-- The first frame by places: it ends at place 71, since it has eight words, and the judgement of a text is that of the frames behind it.
use Prim.Native.Nat.{ℕ}
use mathlib.Core.Path.{◌≡◌, refl, sym, ◌∙◌}
use mathlib.Core.Bool.{true, false}
use mathlib.Core.List.{List}
use native.Mathlib.Omega.{arith}
use borrow.Author.Tests.{ne_eqb}
use lib.ListN.{drop}
use Rattle.std.specs.Prelude.{Result, Ok, Err}
use Rattle.laws.proofs.Tests.{both}
use Rattle.rules.specs.declared.Refusal.{Refusal}
use Rattle.rules.specs.Image.{head_fits, layout, Frames, frames, malformed, with_frame, read_frames, read_text}
use Rattle.rules.proofs.FirstFrame.{limited}
use Rattle.reading.specs.declared.Head.{Head}
use Rattle.scanning.specs.Places.{words_at, count_at, words_of, after_frame, frame_shape, frame_fits}
use Rattle.reading.specs.Parts.{rest_of, head_list, head_from, judged_as}
use Rattle.scanning.proofs.Frames.{read_frame_lem, length_words_at}

-- ---- the frame has eight words

pub head_other : (m : ℕ) (text : List ℕ) (i : ℕ) → (m ≡ 8 → ⊥) → head_fits (words_at m text i) ≡ false
unfolding head_fits
head_other m text i ne = rw (length_words_at m text i, ne_eqb m 8 ne)

pub head_eight : (m : ℕ) (text : List ℕ) → m ≡ 8 → head_fits (words_at m text 6) ≡ head_fits (head_list (head_from (words_at 8 text 6)))
unfolding words_at
head_eight m text e = rw e

-- what the limits of the first frame's words say of their number
pub ruleset eight_words = (head_other, head_eight)

module _ (text : List ℕ) (h : Head) (e : h ≡ head_from (words_at 8 text 6)) (f : frame_fits 1 head_fits text 0 ≡ true) where
  fits : head_fits (words_of text 0) ≡ true
  unfolding frame_fits
  fits = (both {a = frame_shape 1 text 0} f).1

  eight : count_at text 0 ≡ 8
  eight = sym (length_words_at (count_at text 0) text 6) ∙ (limited (words_of text 0) fits).eight

  pub head_words_lem : words_of text 0 ≡ head_list h
  unfolding words_at
  head_words_lem = rw (eight, e)

  pub head_fits_lem : head_fits (head_list h) ≡ true
  head_fits_lem = rw (← head_words_lem) fits

  pub head_end : after_frame text 0 ≡ 71
  head_end = omega (arith, eight)

-- ---- the judgement of a text

abbrev pub on_rest : Head → Result (Unit {0}) Refusal → Result Head Refusal
on_rest h (Ok u) = Ok h
on_rest h (Err e) = Err e

pub judged_stop : (text : List ℕ) → frame_fits 1 head_fits text 0 ≡ false → judged_as (read_text text) ≡ Err (Refusal.Malformed 1)
unfolding read_text
judged_stop text f = rw (read_text, read_frame_lem 1 head_fits text 0, f)

with_head : (h : Head) (f : Frames) → judged_as (with_frame (head_list h) f) ≡ on_rest h (rest_of f)
with_head h (frames fs) = refl
with_head h (malformed line) = refl

module _ (text : List ℕ) (h : Head) (e : h ≡ head_from (words_at 8 text 6)) (f : frame_fits 1 head_fits text 0 ≡ true) where
  pub text_on : read_text text ≡ with_frame (head_list h) (read_frames 2 (layout (head_list h)) (drop 71 text))
  unfolding read_text
  text_on = rw (read_text, read_frame_lem 1 head_fits text 0, f, head_words_lem text h e f, head_end text h e f)

  pub judged_on : judged_as (read_text text) ≡ on_rest h (rest_of (read_frames 2 (layout (head_list h)) (drop 71 text)))
  judged_on = rw text_on (with_head h (read_frames 2 (layout (head_list h)) (drop 71 text)))
