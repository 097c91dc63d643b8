-- What the theorems about images speak of: frames that fit what is expected of them, the text of frames, and where the first fault of a text
-- is.
use Rattle.std.specs.Prelude.{ℕ, ◌+◌, ◌<◌, ◌≡◌, true, List, [], ◌∷◌, ◌++◌, length}
use Rattle.rules.specs.Memory.{Small}
use Rattle.rules.specs.Image.{frame, head_fits, part_fits, Expected, layout}

-- ---- Frames, as the lists of their words.

-- words that a frame can hold: eight digits each, counted in four
pub record Countable (ws : List ℕ) : Type 0 where
  pub small : Small ws
  pub few : length ws < 65536

-- the first frame
pub record HeadFits (ws : List ℕ) : Type 0 where
  pub words : Countable ws
  pub fits : head_fits ws ≡ true

-- a frame that fits the one that is expected
pub record FrameFits (e : Expected) (ws : List ℕ) : Type 0 where
  pub kind : e.kind < 256
  pub words : Countable ws
  pub fits : part_fits e.most ws ≡ true

-- one by one
abbrev pub Fits : List Expected → List (List ℕ) → Type 0
Fits [] [] = Unit {0}
Fits [] (ws ∷ fs) = ⊥
Fits (e ∷ es) [] = ⊥
Fits (e ∷ es) (ws ∷ fs) = FrameFits e ws × Fits es fs

-- the frames of an image: the first, and those that it lays out
abbrev pub WellFormed : List (List ℕ) → Type 0
WellFormed [] = ⊥
WellFormed (head ∷ fs) = HeadFits head × Fits (layout head) fs

-- ---- The text of frames.

unfoldable pub frames_text : List Expected → List (List ℕ) → List ℕ
frames_text [] fs = []
frames_text (e ∷ es) [] = []
frames_text (e ∷ es) (ws ∷ fs) = frame e.kind ws ++ frames_text es fs

unfoldable pub text_of : List (List ℕ) → List ℕ
text_of [] = []
text_of (head ∷ fs) = frame 1 head ++ frames_text (layout head) fs

-- ---- The first fault.

-- no well formed first frame stands at the front
abbrev pub NoHead : List ℕ → Type 0
NoHead bs = (ws rest : List ℕ) → HeadFits ws → bs ≡ frame 1 ws ++ rest → ⊥

-- nothing that fits what is expected next stands at the front; bytes that nothing expects are a fault too
abbrev pub NoFrame : List Expected → List ℕ → Type 0
NoFrame [] bs = bs ≡ [] → ⊥
NoFrame (e ∷ es) bs = (ws rest : List ℕ) → FrameFits e ws → bs ≡ frame e.kind ws ++ rest → ⊥

-- bytes that begin at a line and are to hold the frames es: those before line l are well formed, and the one at line l is not
pub record FaultAt (line : ℕ) (es : List Expected) (bs : List ℕ) (l : ℕ) : Type 0 where
  pub passed : List Expected
  pub left : List Expected
  pub found : List (List ℕ)
  pub rest : List ℕ
  pub expects : es ≡ passed ++ left
  pub fits : Fits passed found
  pub text : bs ≡ frames_text passed found ++ rest
  pub counted : l ≡ line + length found
  pub fault : NoFrame left rest

-- the same of a whole text
pub data Fault (text : List ℕ) : ℕ → Type 0 where
  at_head : NoHead text → Fault text 1
  behind : (head rest : List ℕ) {l : ℕ} → HeadFits head → text ≡ frame 1 head ++ rest → FaultAt 2 (layout head) rest l → Fault text l
