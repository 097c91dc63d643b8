-- Runs of stores: `sets l i vs` is l with vs stored one after the other from place i on. Two runs that follow one another are one run, and
-- words that are put into a list are a run of stores. All by recursion on the words stored.
use Prim.Native.Nat.{ℕ, suc, ◌+◌, ◌≤◌}
use mathlib.Core.Path.{◌≡◌, sym, ap, ◌∙◌}
use mathlib.Core.List.{List, [], ◌∷◌, ◌++◌, append-nil}
use native.Mathlib.Nat.{add-zero, zero-add}
use native.Mathlib.Numerals.{add-one}
use native.Mathlib.Omega.{arith}
use lib.ListN.{length, drop, set, drop_of_length-le}
use lib.Seq.{sets, sets-eq}
use Rattle.laws.specs.Lists.{put}

module _ {A : Type 0} where
  pub sets_append : (l : List A) (i : ℕ) (vs ws : List A) → sets l i (vs ++ ws) ≡ sets (sets l i vs) (i + length vs) ws
  sets_append l i [] ws = rw add-zero
  sets_append l i (v ∷ vs) ws =
      let q : suc i + length vs ≡ i + length (v ∷ vs) = omega arith in
      sets_append (set l i v) (suc i) vs ws ∙ ap (λ k. sets (sets (set l i v) (suc i) vs) k ws) q

  -- the next place as code writes it
  pub sets_next : (l : List A) (i : ℕ) (v : A) (vs : List A) → sets l i (v ∷ vs) ≡ sets (set l i v) (i + 1) vs
  sets_next l i v vs = rw (add-one i)

  pub sets_front : (l vs : List A) → length vs ≤ length l → sets l 0 vs ≡ vs ++ drop (length vs) l
  sets_front l vs b = sets-eq vs l 0 (omega arith) ∙ ap (λ k. vs ++ drop k l) (zero-add (length vs))

  pub sets_whole : (l vs : List A) → length vs ≡ length l → sets l 0 vs ≡ vs
  sets_whole l vs e =
      sets_front l vs (omega arith)
      ∙ ap (λ r. vs ++ r) (drop_of_length-le l {i = length vs} (omega arith))
      ∙ append-nil vs

pub put_sets : (l : List ℕ) (a : ℕ) (ys : List ℕ) → a + length ys ≤ length l → put l a ys ≡ sets l a ys
unfolding put
put_sets l a ys b = sym (sets-eq ys l a b)
