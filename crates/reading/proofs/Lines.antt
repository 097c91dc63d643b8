-- The frames of a text, line by line: one turn of judging them, how far a frame goes, and what the words of a well formed text are.
-- By one step of the definition a frame, and recursion on the frames that are expected.
use Prim.Native.Nat.{ℕ, suc, ◌+◌, ◌-◌, ◌≤◌, ◌<◌}
use mathlib.Core.Path.{◌≡◌, refl, sym, ap, ◌∙◌}
use mathlib.Core.Bool.{Bool, true, false, false≢true}
use mathlib.Core.List.{List, ◌∷◌}
use native.Mathlib.Numerals.{add-one}
use native.Mathlib.Omega.{arith}
use lib.ListN.{length, drop, replicate, drop_of_length-le}
use lib.Seq.{drop-cons}
use Rattle.std.specs.Prelude.{Result, Ok, Err}
use Rattle.laws.specs.Choice.{◌⇒◌∣◌}
use Rattle.laws.proofs.Choices.{first_chosen, second_chosen}
use Rattle.rules.specs.declared.Refusal.{Refusal}
use Rattle.rules.specs.Image.{part_fits, Expected, expected, Frames, frames, malformed, with_frame, read_frames}
use Rattle.scanning.specs.declared.Cursor.{Cursor}
use Rattle.scanning.specs.Places.{count_at, words_of, after_frame, frame_fits, cursor, frame_step}
use Rattle.reading.specs.Parts.{rest_of}
use Rattle.scanning.proofs.Digits.{number_bound}
use Rattle.scanning.proofs.Frames.{read_frame_lem}

pub count_small : (text : List ℕ) (i : ℕ) → count_at text i < 65536
count_small text i = number_bound 4 0 text (i + 2) 65536 (omega arith)

pub rest_with : (ws : List ℕ) (f : Frames) → rest_of (with_frame ws f) ≡ rest_of f
rest_with ws (frames fs) = refl
rest_with ws (malformed line) = refl

-- the frame at place i, and the others behind it
pub line_read : (kind most : ℕ) (es : List Expected) (line : ℕ) (text : List ℕ) (i : ℕ)
    → read_frames line (expected kind most ∷ es) (drop i text)
    ≡ (frame_fits kind (part_fits most) text i ⇒ with_frame (words_of text i) (read_frames (suc line) es (drop (after_frame text i) text)) ∣ malformed line)
unfolding read_frames
line_read kind most es line text i = go (frame_fits kind (part_fits most) text i) refl
  where
    go : (b : Bool) → frame_fits kind (part_fits most) text i ≡ b
        → read_frames line (expected kind most ∷ es) (drop i text)
        ≡ (frame_fits kind (part_fits most) text i ⇒ with_frame (words_of text i) (read_frames (suc line) es (drop (after_frame text i) text)) ∣ malformed line)
    go true f = rw (read_frames, read_frame_lem kind (part_fits most) text i, f)
    go false f = rw (read_frames, read_frame_lem kind (part_fits most) text i, f)

-- ---- a step that the code took, as what the frames are

module _ (text : List ℕ) (c : Cursor) (kind most : ℕ) where
  pub step_next : (n : Cursor) → Ok n ≡ frame_step text c kind most
      → (frame_fits kind (part_fits most) text c.at ≡ true) × (n ≡ cursor (after_frame text c.at) (c.line + 1))
  unfolding frame_step
  step_next n h = let (fits, q) = first_chosen (frame_fits kind (part_fits most) text c.at) h (λ z. false≢true cc) in (fits, cc)

  pub step_stop : (e : Refusal) → Err e ≡ frame_step text c kind most → (frame_fits kind (part_fits most) text c.at ≡ false) × (e ≡ Refusal.Malformed c.line)
  unfolding frame_step
  step_stop e h = let (not_fits, q) = second_chosen (frame_fits kind (part_fits most) text c.at) h (λ z. false≢true cc) in (not_fits, cc)

  -- how far it goes
  pub step_far : (r : Result Cursor Refusal) (n : Cursor) → r ≡ Ok n → r ≡ frame_step text c kind most → (n.at ≤ c.at + 524287) × (n.line ≡ c.line + 1)
  step_far r n p h =
      let s = (step_next n (sym p ∙ h)).1 in
      (omega (arith, ap (λ (x : Cursor). x.at) s, count_small text c.at), ap (λ (x : Cursor). x.line) s)

  module _ (es : List Expected) (r : Result Cursor Refusal) (h : r ≡ frame_step text c kind most) where
    pub rest_next : (n : Cursor) → r ≡ Ok n → rest_of (read_frames c.line (expected kind most ∷ es) (drop c.at text)) ≡ rest_of (read_frames n.line es (drop n.at text))
    rest_next n p =
        let s = step_next n (sym p ∙ h) in
        rw (line_read kind most es c.line text c.at, s.0, s.1, ← add-one c.line) (rest_with (words_of text c.at) (read_frames (c.line + 1) es (drop (after_frame text c.at) text)))

    pub rest_stop : (e : Refusal) → r ≡ Err e → rest_of (read_frames c.line (expected kind most ∷ es) (drop c.at text)) ≡ Err e
    rest_stop e p = let s = step_stop e (sym p ∙ h) in rw (line_read kind most es c.line text c.at, s.0, s.1)

-- ---- pages

replicate_next : (m : ℕ) (e : Expected) → 0 < m → replicate m e ≡ e ∷ replicate (m - 1) e
replicate_next m e l = let q : m ≡ suc (m - 1) = omega arith in ap (λ k. replicate k e) q

module _ (text : List ℕ) (c : Cursor) (most m : ℕ) where
  module _ (l : 0 < m) (r : Result Cursor Refusal) (h : r ≡ frame_step text c 5 most) where
    pub page_next : (n : Cursor) → r ≡ Ok n
        → rest_of (read_frames c.line (replicate m (expected 5 most)) (drop c.at text))
        ≡ rest_of (read_frames n.line (replicate (m - 1) (expected 5 most)) (drop n.at text))
    page_next n p = rw (replicate_next m (expected 5 most) l) (rest_next text c 5 most (replicate (m - 1) (expected 5 most)) r h n p)

    pub page_stop : (e : Refusal) → r ≡ Err e → rest_of (read_frames c.line (replicate m (expected 5 most)) (drop c.at text)) ≡ Err e
    page_stop e p = rw (replicate_next m (expected 5 most) l) (rest_stop text c 5 most (replicate (m - 1) (expected 5 most)) r h e p)

  module _ (b : m ≤ 0) where
    pub pages_more : c.at < length text → rest_of (read_frames c.line (replicate m (expected 5 most)) (drop c.at text)) ≡ Err (Refusal.Malformed c.line)
    unfolding read_frames
    pages_more l = let q : m ≡ 0 = omega arith in rw (q, drop-cons text c.at 0 l)

    pub pages_over : length text ≤ c.at → rest_of (read_frames c.line (replicate m (expected 5 most)) (drop c.at text)) ≡ Ok tt
    unfolding read_frames
    pages_over l = let q : m ≡ 0 = omega arith in rw (q, drop_of_length-le text l)

-- the page size by another name
pub page_sized : (r : Result (Unit {0}) Refusal) (line m P most : ℕ) (bs : List ℕ) → most ≡ P → r ≡ rest_of (read_frames line (replicate m (expected 5 most)) bs) → r ≡ rest_of (read_frames line (replicate m (expected 5 P)) bs)
page_sized r line m P most bs e h = h ∙ ap (λ x. rest_of (read_frames line (replicate m (expected 5 x)) bs)) e
