-- The frames of a whole text by places: what is judged, and the parts that they fill.
use Rattle.std.specs.Prelude.{ℕ, zero, suc, ◌*◌, ◌^◌, Bool, ◌&&◌, List, [], ◌∷◌, ◌++◌, get_or, eqb, Result, Ok, Err}
use Rattle.laws.specs.Lists.{at, padded}
use Rattle.rules.specs.declared.Control.{Control}
use Rattle.rules.specs.declared.Refusal.{Refusal}
use Rattle.rules.specs.Memory.{control}
use Rattle.rules.specs.Image.{Expected, Frames, frames, malformed}
use Rattle.scanning.specs.Places.{words_of, after_frame}
use Rattle.reading.specs.declared.Head.{Head}

-- ---- all frames

-- the words of the frames that begin at place i
unfoldable pub frames_at : List Expected → List ℕ → ℕ → List (List ℕ)
frames_at [] text i = []
frames_at (e ∷ es) text i = words_of text i ∷ frames_at es text (after_frame text i)

abbrev pub rest_of : Frames → Result (Unit {0}) Refusal
rest_of (frames fs) = Ok tt
rest_of (malformed line) = Err (Refusal.Malformed line)

-- the first frame's words
abbrev pub head_list : Head → List ℕ
head_list h = h.n ∷ h.pages ∷ h.regions ∷ h.first ∷ h.last ∷ h.count ∷ h.roots ∷ h.consts ∷ []

abbrev pub head_from : List ℕ → Head
head_from ws =
    record {
      n = at ws 0;
      pages = at ws 1;
      regions = at ws 2;
      first = at ws 3;
      last = at ws 4;
      count = at ws 5;
      roots = at ws 6;
      consts = at ws 7;
    }

abbrev pub judged_as : Frames → Result Head Refusal
judged_as (frames fs) = Ok (head_from (get_or fs 0 []))
judged_as (malformed line) = Err (Refusal.Malformed line)

-- ---- the parts that the frames fill

-- a part of m words, from the frame that begins at place i
abbrev pub part_at : ℕ → List ℕ → ℕ → List ℕ
part_at m text i = padded m (words_of text i)

-- m pages of P words, from the frames that begin at place i
unfoldable pub pages_at : ℕ → ℕ → List ℕ → ℕ → List ℕ
pages_at zero P text i = []
pages_at (suc m) P text i = part_at P text i ++ pages_at m P text (after_frame text i)

-- the record that the first frame gives
abbrev pub control_of : Head → Control
control_of h = control h.n h.regions h.first h.last h.count

-- the lent parts have the lengths that the first frame says, the table 256
unfoldable pub lengths_fit : Head → ℕ → ℕ → ℕ → ℕ → Bool
lengths_fit h heap table roots consts = eqb heap (h.pages * 2 ^ h.n) && eqb table 256 && eqb roots h.roots && eqb consts h.consts
