-- A row of the region table written: the region's four words are those, and no other word changes. A row is four stores at four places.
use Prim.Native.Nat.{ℕ, ◌+◌, ◌*◌, ◌<◌}
use native.Mathlib.Omega.{arith}
use mathlib.Core.Path.{◌≡◌, ◌∙◌}
use mathlib.Core.Logic.{◌⊎◌, inl, inr, ◌≢◌}
use mathlib.Core.List.{List}
use lib.ListN.{length, set, length-set}
use lib.Seq.{get_or-set_same, get_or-set_other}
use Rattle.laws.specs.Lists.{at}
use Rattle.rules.specs.Memory.{end_of, first_of, top_of, status_of, set_row}

module _ (t : List ℕ) (j e fp a b : ℕ) where
  abbrev t₁ : List ℕ
  t₁ = set t (4 * j) e

  abbrev t₂ : List ℕ
  t₂ = set t₁ (4 * j + 1) fp

  abbrev t₃ : List ℕ
  t₃ = set t₂ (4 * j + 2) a

  pub row_width : length (set_row t j e fp a b) ≡ length t
  row_width = length-set t₃ (4 * j + 3) b ∙ length-set t₂ (4 * j + 2) a ∙ length-set t₁ (4 * j + 1) fp ∙ length-set t (4 * j) e

  other : (x : ℕ) → x ≢ 4 * j → x ≢ 4 * j + 1 → x ≢ 4 * j + 2 → x ≢ 4 * j + 3 → at (set_row t j e fp a b) x ≡ at t x
  other x n₀ n₁ n₂ n₃ =
      get_or-set_other t₃ (4 * j + 3) x b 0 n₃ ∙ get_or-set_other t₂ (4 * j + 2) x a 0 n₂ ∙ get_or-set_other t₁ (4 * j + 1) x fp 0 n₁ ∙ get_or-set_other t (4 * j) x e 0 n₀

  pub row_else : (x : ℕ) → (x < 4 * j) ⊎ (4 * j + 3 < x) → at (set_row t j e fp a b) x ≡ at t x
  row_else x (inl q) = other x (omega arith) (omega arith) (omega arith) (omega arith)
  row_else x (inr q) = other x (omega arith) (omega arith) (omega arith) (omega arith)

  module _ (inside : 4 * j + 3 < length t) where
    pub row_end : end_of (set_row t j e fp a b) j ≡ e
    row_end =
        get_or-set_other t₃ (4 * j + 3) (4 * j) b 0 (omega arith) ∙ get_or-set_other t₂ (4 * j + 2) (4 * j) a 0 (omega arith)
        ∙ get_or-set_other t₁ (4 * j + 1) (4 * j) fp 0 (omega arith) ∙ get_or-set_same t (4 * j) e 0 (omega arith)

    pub row_first : first_of (set_row t j e fp a b) j ≡ fp
    row_first =
        get_or-set_other t₃ (4 * j + 3) (4 * j + 1) b 0 (omega arith) ∙ get_or-set_other t₂ (4 * j + 2) (4 * j + 1) a 0 (omega arith)
        ∙ get_or-set_same t₁ (4 * j + 1) fp 0 (rw (length-set t (4 * j) e) (omega arith))

    pub row_top : top_of (set_row t j e fp a b) j ≡ a
    row_top =
        get_or-set_other t₃ (4 * j + 3) (4 * j + 2) b 0 (omega arith)
        ∙ get_or-set_same t₂ (4 * j + 2) a 0 (rw (length-set t₁ (4 * j + 1) fp, length-set t (4 * j) e) (omega arith))

    pub row_status : status_of (set_row t j e fp a b) j ≡ b
    row_status = get_or-set_same t₃ (4 * j + 3) b 0 (rw (length-set t₂ (4 * j + 2) a, length-set t₁ (4 * j + 1) fp, length-set t (4 * j) e) (omega arith))
