-- Rule 8 by its parts: the constants from their first word to their last, and a field by its remainder. Each part is one of the tests that
-- rule 8 joins.
use Prim.Native.Nat.{ℕ, ◌/◌, ◌%◌}
use mathlib.Core.Path.{◌≡◌}
use mathlib.Core.Bool.{Bool, true, false, ◌&&◌, and-true}
use mathlib.Core.List.{List}
use lib.ListN.{length}
use lib.Seq.{take-length}
use Rattle.laws.specs.Lists.{all}
use Rattle.rules.specs.Words.{vals_in, const_vals, fields_pass, good_const}
use Rattle.rules.specs.Audit.{filled, const_field}
use Rattle.rules.proofs.Pointers.{heap_word, const_word, number_word}
use Rattle.contents.proofs.Turns.{Zeros}

-- the constants, over code that has their first address as a and the one just past them as e
module _ (h : List ℕ) (a e : ℕ) (qa : a ≡ 0) (qe : e ≡ length h) where
  pub filled_all : Zeros h a e ≡ filled 0 h
  unfolding filled vals_in
  filled_all = rw (qa, qe, take-length h)

  pub consts_all : (p : ℕ → Bool) → (all (fields_pass p) (vals_in h a e) && true) ≡ all (fields_pass p) (const_vals h)
  unfolding vals_in
  consts_all p = rw (qa, qe, take-length h) (and-true _)

module _ (k : List ℕ) (w : ℕ) where
  pub field_heap : w % 4 ≡ 0 → const_field k w ≡ false
  unfolding const_field
  field_heap m = rw (heap_word w m, const_field)

  pub field_const : w % 4 ≡ 2 → const_field k w ≡ good_const k (w / 4)
  unfolding const_field
  field_const m = rw (const_word w m, const_field)

  pub field_number : (w % 4 ≡ 0 → ⊥) → (w % 4 ≡ 2 → ⊥) → const_field k w ≡ true
  unfolding const_field
  field_number a b = rw (const_field, number_word w a b)
