-- Steps 1 to 3, at work and in the plain run: both lack a page, or both have all scanned, and then the desk matches the run and the roots' new
-- words are those that the plain run has. Each of the three goes alike, and starts from what the one before it left.
use Prim.Native.Nat.{ℕ, ◌*◌, ◌^◌}
use native.Mathlib.Omega.{arith}
use mathlib.Core.Path.{◌≡◌, sym, ap, ◌∙◌}
use mathlib.Core.Bool.{true}
use mathlib.Core.Option.{some}
use mathlib.Core.List.{List}
use lib.ListN.{length}
use Rattle.laws.specs.Each.{after, each}
use Rattle.rules.specs.Memory.{Store, page_count}
use Rattle.rules.specs.Pages.{Run, begun}
use Rattle.rules.specs.Collection.{freshen, evacuate_all, ending, collected}
use Rattle.rules.specs.Seen.{root}
use Rattle.facts.proofs.Sound.{Sound}
use Rattle.working.proofs.Fresh.{Fresh, fresh_start}
use Rattle.working.proofs.Roots.{AllBecame}
use Rattle.working.proofs.Running.{first, first_inv, ran, rooted_cost}
use Rattle.motion.specs.Leaves.{Desk, desk, begun_notes}
use Rattle.motion.specs.Whole as Y
use Rattle.motion.specs.Whole.{fresh, move_roots, work_done, roots_done, fresh_done}
use Rattle.agreement.proofs.Together.{both_lack, both_go}
use Rattle.agreement.proofs.Freshens.{starts, Freshens, freshens}
use Rattle.agreement.proofs.Rooted.{Rooted, moves_all}
use Rattle.agreement.proofs.Works.{WorksStack, works_stack}
use Rattle.agreement.proofs.Ended.{Attempted}

module _ (s : Store) (S : Sound s) where
  abbrev n : ℕ
  n = s.ctl.n

  abbrev R : ℕ
  R = s.ctl.regions

  abbrev f : ℕ
  f = 2 * length s.heap

  abbrev d₀ : Desk
  d₀ = desk s.heap (begun_notes s.ctl.first s.ctl.last)

  pub attempts : Attempted s S
  unfolding collected ending ran fresh_done roots_done work_done
  attempts = freshened (freshens s S R 0 (begun s) (omega arith) (fresh_start s S) d₀ (starts s S))
    where
      -- the heap has kept its length, so the fuel is the same
      fuel : (r₁ : Run) (d₂ : Desk) → length r₁.heap ≡ page_count n s.heap * 2 ^ n → Y.work_stack n f d₂ ≡ Y.work_stack n (2 * length r₁.heap) d₂
      fuel r₁ d₂ size = ap (λ x. Y.work_stack n (2 * x) d₂) (S.laid.size ∙ sym size)

      worked : (r : Run) (F : Fresh s S R r) (d₁ : Desk) → freshen n R 0 (begun s) ≡ some r → each R (fresh n) 0 d₀ ≡ after true d₁
          → (roots : List ℕ) (r₁ : Run) → evacuate_all n s.roots r ≡ some (roots, r₁) → (A : AllBecame s S (first F) r s.roots roots r₁)
          → (d₂ : Desk) → move_roots n s.roots d₁ ≡ after true d₂ → WorksStack s S A.ghost r₁ d₂ → Attempted s S
      worked r F d₁ e w roots r₁ e₁ A d₂ w₁ (both_lack q d u K) = both_lack (rw (e, collected, e₁, q)) d (rw (w, w₁, fuel r₁ d₂ A.inv.laid.size, u)) K
      worked r F d₁ e w roots r₁ e₁ A d₂ w₁ (both_go r₂ q d u (G, M)) =
          both_go (roots, r₂) (rw (e, collected, e₁, q)) d (rw (w, w₁, fuel r₁ d₂ A.inv.laid.size, u)) (ran F A e e₁ q G, M)

      rooted : (r : Run) (F : Fresh s S R r) (d₁ : Desk) → freshen n R 0 (begun s) ≡ some r → each R (fresh n) 0 d₀ ≡ after true d₁ → Rooted s S (first F) r d₁ s.roots → Attempted s S
      rooted r F d₁ e w (both_lack q d u K) = both_lack (rw (e, collected, q)) d (rw (w, u)) K
      rooted r F d₁ e w (both_go (roots, r₁) q d u (A, M)) = worked r F d₁ e w roots r₁ q A d u (works_stack A.inv A.later.cur A.later.half (rooted_cost F A) M)

      freshened : Freshens s S R 0 (begun s) d₀ → Attempted s S
      freshened (both_lack q d u K) = both_lack (rw (q, collected)) d (rw u) K
      freshened (both_go r q d u (F, M)) = rooted r F d q u (moves_all s.roots (first_inv F) S.roots (λ i b. root i b) M)
