-- What the work reads off a header or a word, by remainders, is what the plain run reads off it by cases. The cases are those of the same
-- remainders.
use Prim.Native.Nat.{ℕ, ◌*◌, ◌/◌, ◌%◌}
use native.Mathlib.Nat.{mul-mod_right, mul-div_right}
use native.Mathlib.Omega.{arith}
use mathlib.Core.Path.{◌≡◌, sym, ap, ◌∙◌}
use mathlib.Core.Logic.{◌≢◌}
use mathlib.Core.Bool.{false≢true}
use borrow.Author.Tests.{eqb-true}
use Rattle.rules.specs.Words.{in_heap, word_of, rec, raw, head_of, length_by, record_by, is_record}
use Rattle.rules.proofs.Headers.{header_odd, record_by_lem}
use Rattle.rules.proofs.Pointers.{heap_word}

module _ (w l : ℕ) where
  pub record_rest : head_of w ≡ rec l → (w % 8 ≡ 1) × (w / 8 ≡ l)
  unfolding is_record
  record_rest e = (eqb-true (w % 8) 1 (sym (record_by_lem w) ∙ ap record_by e), (header_odd w l (ap length_by e)).1)

  pub raw_rest : head_of w ≡ raw l → w % 8 ≢ 1
  unfolding head_of
  raw_rest e q = let t : rec (w / 8) ≡ raw l = rw q at e in false≢true cc

-- a pointer to the heap
pub pointer_rest : (a : ℕ) → ((4 * a) % 4 ≡ 0) × ((4 * a) / 4 ≡ a)
pointer_rest a = (mul-mod_right 4 a, mul-div_right a {m = 4} (omega arith))

-- what is none
pub other_rest : (w : ℕ) → ((a : ℕ) → word_of w ≢ in_heap a) → w % 4 ≢ 0
other_rest w none m = none (w / 4) (heap_word w m)
