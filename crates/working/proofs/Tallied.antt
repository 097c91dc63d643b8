-- The words that a region's pages hold, when its last page p gets d words more, or page p is added with d words. One summand changes, or one is
-- added.
use Prim.Native.Nat.{ℕ, ◌+◌, ◌-◌, ◌*◌, ◌^◌, ◌≤◌}
use native.Mathlib.Omega.{arith}
use mathlib.Core.Path.{◌≡◌, sym, ap, ◌∙◌}
use mathlib.Core.Logic.{◌≢◌}
use mathlib.Core.List.{List, [], ◌∷◌, ◌++◌, Memᴰ}
use Rattle.laws.specs.Sums.{sum_over}
use Rattle.laws.proofs.Once.{Once, sum_more}
use Rattle.laws.proofs.Sums.{sum_same, sum_append}
use Rattle.working.proofs.Invariant.{filled_to}

module _ (n : ℕ) (fin fin₂ : ℕ → ℕ) (ks : List ℕ) where
  pub filled_same : ((k : ℕ) → Memᴰ k ks → fin k ≡ fin₂ k) → sum_over (filled_to n fin₂) ks ≡ sum_over (filled_to n fin) ks
  filled_same e = sum_same (filled_to n fin₂) (filled_to n fin) ks (λ k m. ap (λ x. x - (k * 2 ^ n + 2)) (sym (e k m)))

  module _ (p d : ℕ) (others : (k : ℕ) → Memᴰ k ks → k ≢ p → fin k ≡ fin₂ k) where
    pub filled_more : Once ks → Memᴰ p ks → p * 2 ^ n + 2 ≤ fin p → fin₂ p ≡ fin p + d → sum_over (filled_to n fin₂) ks ≡ sum_over (filled_to n fin) ks + d
    filled_more o m lo e =
        sum_more (filled_to n fin) (filled_to n fin₂) p d o m (rw e (omega arith)) (λ k q ne. ap (λ x. x - (k * 2 ^ n + 2)) (others k q ne))

    pub filled_page : (Memᴰ p ks → ⊥) → fin₂ p ≡ p * 2 ^ n + 2 + d → sum_over (filled_to n fin₂) (ks ++ p ∷ []) ≡ sum_over (filled_to n fin) ks + d
    unfolding sum_over
    filled_page new e =
        sum_append (filled_to n fin₂) ks (p ∷ [])
        ∙ ap (λ x. x + (fin₂ p - (p * 2 ^ n + 2) + 0)) (filled_same (λ k m. others k m (λ q. new (rw q at m))))
        ∙ (rw e (omega arith))
