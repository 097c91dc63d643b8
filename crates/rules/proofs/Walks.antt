-- The turn laws of a walk: each way in which one step, or the end of a path, is decided. They hold because `walk_from` is one recursion on
-- the path, and tests what the code tests.
use Prim.Native.Nat.{ℕ, ◌+◌, ◌-◌, ◌%◌, ◌≤◌, ◌<◌}
use mathlib.Core.Path.{◌≡◌, refl, sym, ap, ◌∙◌}
use mathlib.Core.Bool.{true, false}
use mathlib.Core.List.{List, [], ◌∷◌}
use native.Mathlib.Omega.{arith}
use native.Mathlib.Numerals.{add-one}
use borrow.Author.Tests.{le-leb, lt-leb}
use lib.ListN.{length, take, drop}
use Rattle.laws.specs.Lists.{at}
use Rattle.laws.proofs.Parts.{part_rest}
use Rattle.rules.specs.declared.Refusal.{Refusal}
use Rattle.rules.specs.Words.{word_of, is_record}
use Rattle.rules.specs.Calls.{is_there, ends, stops, is_number, step_into, walk_from}
use Rattle.rules.proofs.Looks.{word_is_number, there_none, there_some}
use Rattle.rules.proofs.Pointers.{Is, heap_pointer, const_pointer, whole_number, word_is}

number_odd : (w : ℕ) → w % 2 ≡ 1 → is_number (word_of w) ≡ true
number_odd w odd = ap is_number (word_is_number w odd)

number_even : (w : ℕ) → (w % 2 ≡ 1 → ⊥) → is_number (word_of w) ≡ false
number_even w even = go (word_is w)
  where
    go : Is w → is_number (word_of w) ≡ false
    go (heap_pointer m q) = ap is_number q
    go (const_pointer m q) = ap is_number q
    go (whole_number m q) = absurd (even m)

module _ (view : ℕ → List ℕ) (w : ℕ) where
  pub walk_number_end : (path : List ℕ) → w % 2 ≡ 1 → length path ≡ 0 → walk_from view w path ≡ ends w
  unfolding walk_from
  walk_number_end [] odd e = rw (number_odd w odd)
  walk_number_end (f ∷ fs) odd e = absurd (omega arith)

  pub walk_number : (path : List ℕ) → w % 2 ≡ 1 → (length path ≡ 0 → ⊥) → walk_from view w path ≡ stops Refusal.NoFields
  unfolding walk_from
  walk_number [] odd more = absurd (more refl)
  walk_number (f ∷ fs) odd more = rw (number_odd w odd)

  -- a word that is no good pointer stops every path
  pub walk_stuck : (path : List ℕ) → is_number (word_of w) ≡ false → is_there (view w) ≡ false → walk_from view w path ≡ stops Refusal.NotGood
  unfolding walk_from step_into
  walk_stuck [] n t = rw (n, t)
  walk_stuck (f ∷ fs) n t = rw (n, t)

  -- the word is a pointer, to the value v
  module _ (even : w % 2 ≡ 1 → ⊥) (v : List ℕ) (is : v ≡ view w) where
    pub walk_not_good : (path : List ℕ) → length v ≡ 0 → walk_from view w path ≡ stops Refusal.NotGood
    walk_not_good path e = walk_stuck path (number_even w even) (ap is_there (sym is) ∙ there_none v e)

    module _ (there : length v ≡ 0 → ⊥) where
      pub walk_end : (path : List ℕ) → length path ≡ 0 → walk_from view w path ≡ ends w
      unfolding walk_from
      walk_end [] e = rw (number_even w even, ← is, there_some v there)
      walk_end (f ∷ fs) e = absurd (omega arith)

      pub walk_raw : (path : List ℕ) → (length path ≡ 0 → ⊥) → is_record (at v 0) ≡ false → walk_from view w path ≡ stops Refusal.NoFields
      unfolding walk_from step_into
      walk_raw [] more t = absurd (more refl)
      walk_raw (f ∷ fs) more t = rw (number_even w even, ← is, there_some v there, t)

      pub walk_past : (path : List ℕ) → (length path ≡ 0 → ⊥) → is_record (at v 0) ≡ true → length v - 1 ≤ at path 0
          → walk_from view w path ≡ stops Refusal.NoSuch
      unfolding walk_from step_into
      walk_past [] more t b = absurd (more refl)
      walk_past (f ∷ fs) more t b = rw (number_even w even, ← is, there_some v there, t, le-leb (length v - 1) f b)

      pub walk_go : (path : List ℕ) → (length path ≡ 0 → ⊥) → is_record (at v 0) ≡ true → at path 0 < length v - 1
          → walk_from view w path ≡ walk_from view (at v (at path 0 + 1)) (take (length path - 1) (drop 1 path))
      unfolding walk_from step_into
      walk_go [] more t b = absurd (more refl)
      walk_go (f ∷ fs) more t b =
          rw (number_even w even, ← is, there_some v there, t, lt-leb (length v - 1) f b, add-one f, part_rest (f ∷ fs) 1)
