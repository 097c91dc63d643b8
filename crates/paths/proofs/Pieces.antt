-- A path walked piece by piece. The word that a walk of a front ends on is where the walk of the rest begins, since what is asked of that word at
-- its end is asked again at the next step; and where the front stops the whole stops.
use Prim.Native.Nat.{ℕ, suc}
use mathlib.Core.Path.{◌≡◌, refl, sym, ap, ◌∙◌}
use mathlib.Core.Bool.{Bool, true, false, not}
use mathlib.Core.List.{List, [], ◌∷◌, ◌++◌}
use lib.Dec.{leb}
use lib.ListN.{take-append-drop}
use Rattle.std.specs.List.{IsSplitAt}
use Rattle.laws.specs.Choice.{◌⇒◌∣◌}
use Rattle.laws.specs.Lists.{at}
use Rattle.laws.proofs.Choices.{choices_agree}
use Rattle.rules.specs.declared.Refusal.{Refusal}
use Rattle.rules.specs.Words.{word_of, is_record}
use Rattle.rules.specs.Calls.{header_in, fields_in, is_there, is_number, Walked, ends, stops, step_into, walk_from}
use Rattle.rules.proofs.Walks.{walk_stuck}

-- a walk that goes on where another ends
abbrev onward : Walked → (ℕ → Walked) → Walked
onward (ends x) go = go x
onward (stops r) go = stops r

-- a test that both make, and refuse alike
refuse_or : (go : ℕ → Walked) (b : Bool) (r : Refusal) (x y : Walked) → x ≡ onward y go → (b ⇒ stops r ∣ x) ≡ onward (b ⇒ stops r ∣ y) go
refuse_or go b r x y e = choices_agree (λ x y. x ≡ onward y go) b refl e

into : (v : List ℕ) (f : ℕ) (g h go : ℕ → Walked) → g (at v (suc f)) ≡ onward (h (at v (suc f))) go
    → step_into v f g ≡ onward (step_into v f h) go
unfolding step_into
into v f g h go e = refuse_or go (not (is_there v)) _ _ _ (refuse_or go (not (is_record (header_in v))) _ _ _ (refuse_or go (leb (fields_in v) f) _ _ _ e))

module _ (view : ℕ → List ℕ) where
  from_end : (w : ℕ) (q : List ℕ) (b t : Bool) → is_number (word_of w) ≡ b → is_there (view w) ≡ t
      → walk_from view w q ≡ onward (b ⇒ ends w ∣ not t ⇒ stops Refusal.NotGood ∣ ends w) (λ x. walk_from view x q)
  from_end w q true t n h = refl
  from_end w q false true n h = refl
  from_end w q false false n h = walk_stuck view w q n h

  joined : (p q : List ℕ) (w : ℕ) → walk_from view w (p ++ q) ≡ onward (walk_from view w p) (λ x. walk_from view x q)
  unfolding walk_from
  joined [] q w = from_end w q (is_number (word_of w)) (is_there (view w)) refl refl
  joined (f ∷ fs) q w =
      refuse_or (λ x. walk_from view x q) (is_number (word_of w)) _ _ _
      (into (view w) f (λ x. walk_from view x (fs ++ q)) (λ x. walk_from view x fs) (λ x. walk_from view x q) (joined fs q (at (view w) (suc f))))

-- the path left is a piece and what is further on; v is what the walk of the piece answered
module _ (view : ℕ → List ℕ) (w : ℕ) (left piece further : List ℕ) (cut : IsSplitAt left 256 piece further) where
  onward_is : walk_from view w left ≡ onward (walk_from view w piece) (λ x. walk_from view x further)
  onward_is =
      ap (walk_from view w) (sym (take-append-drop 256 left))
      ∙ rw (← cut.1, ← cut.2) (joined view piece further w)

  -- it ended: the walk of what was left goes on behind it
  pub piece_ends : {x : ℕ} → ends x ≡ walk_from view w piece → walk_from view w left ≡ walk_from view x further
  piece_ends e = onward_is ∙ ap (λ m. onward m (λ x. walk_from view x further)) (sym e)

  -- it stopped: so does the walk
  pub piece_stops : {r : Refusal} → stops r ≡ walk_from view w piece → stops r ≡ walk_from view w left
  piece_stops e = sym (onward_is ∙ ap (λ m. onward m (λ x. walk_from view x further)) (sym e))
