-- The numbers of each call's tests are those that the paper lists, and a raw value as target of an assignment is refused. The first is true by
-- reading the tests' refusals off in order, a walk's step by step; the second by computation on one heap.
use Prim.Native.Nat.{ℕ, suc}
use mathlib.Core.Path.{◌≡◌, refl, ap}
use mathlib.Core.Option.{some}
use mathlib.Core.List.{List, [], ◌∷◌}
use lib.ListN.{length, replicate}
use Rattle.laws.specs.Lists.{at}
use Rattle.rules.specs.declared.Refusal.{Refusal}
use Rattle.rules.specs.Memory.{Store, lent, control, limits, page_words, origin}
use Rattle.rules.specs.Words.{word_of, head_of, is_record, fit, vals, page_vals, stands_at, good_on, good_heap, good_in}
use Rattle.rules.specs.Refusals.{common}
use Rattle.rules.specs.Calls.{look_in}
use Rattle.rules.specs.Order.{first_refusal, numbers, step_tests, step_numbers, assign_tests, Numbers}

step_numbers_lem : (view : ℕ → List ℕ) (w : ℕ) (path : List ℕ) → numbers (step_tests view w path) ≡ step_numbers (length path)
unfolding numbers step_tests step_numbers
step_numbers_lem view w [] = refl
step_numbers_lem view w (f ∷ fs) = ap (λ r. 7 ∷ 9 ∷ 10 ∷ r) (step_numbers_lem view (at (view w) (suc f)) fs)

pub the_numbers : Numbers
unfolding numbers
the_numbers =
    record {
      of_set_up = λ n heap table roots consts. refl;
      of_push = λ s. refl;
      of_pop = λ s. refl;
      of_allocate = λ s j kind ws. refl;
      of_fetch = λ s w. refl;
      of_assign = λ s w i x. refl;
      of_set_root = λ s i w. refl;
      of_walk = λ s i path. ap (λ r. 1 ∷ 2 ∷ 10 ∷ r) (step_numbers_lem (look_in s) (at s.roots i) path);
      of_audit = λ s. refl;
      of_collect = λ s. refl;
      of_due = λ s. refl;
      of_used_words = λ s j. refl;
      of_page = λ s k. refl;
      of_write = λ s bytes. refl;
      of_read = λ text heap table roots consts. refl;
      of_word = λ i. refl;
      of_number = λ w. refl;
    }

-- P 16, N 2, one region: a raw value of two words, "Sh", at 2
abbrev pub label : Store
label = lent (0 ∷ 1 ∷ 19 ∷ 0x53 ∷ 0x68 ∷ replicate 27 0) (replicate 256 0) [] [] (control 4 1 2 2 1)

-- "step or assignment into a number or raw value": 9, though its field 0 is there and the word 1 is a number
pub raw_target : first_refusal (assign_tests label 8 0 1) ≡ some Refusal.NoFields
unfolding first_refusal limits common page_words origin word_of head_of is_record fit vals page_vals stands_at good_on good_heap good_in
raw_target = refl
