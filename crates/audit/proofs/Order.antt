-- The first broken rule, one rule at a time: a rule that fails is the answer, and one that holds leaves it to the rules after it.
use Rattle.std.specs.Prelude.{Ok}
use Rattle.rules.specs.Refusals.{within_limits, common_test, refusing}
use Prim.Native.Nat.{ℕ, zero, suc, ◌<◌}
use mathlib.Core.Path.{◌≡◌, refl}
use mathlib.Core.Bool.{Bool, true, false, not}
use mathlib.Core.List.{List, [], ◌∷◌}
use native.Mathlib.Omega.{arith}
use Rattle.rules.specs.declared.Refusal.{Refusal}
use Rattle.rules.specs.Memory.{Store}
use Rattle.rules.specs.Audit.{first_failing, broken_rule}
use Rattle.rules.specs.Calls.{audit}

module _ (i : ℕ) (p : Store → Bool) (ps : List (Store → Bool)) (s : Store) where
  pub broken_here : p s ≡ false → first_failing i (p ∷ ps) s ≡ i
  unfolding first_failing
  broken_here e = rw (first_failing, e)

  pub broken_go : p s ≡ true → first_failing i (p ∷ ps) s ≡ first_failing (suc i) ps s
  unfolding first_failing
  broken_go e = rw (first_failing, e)

pub broken_none : (i : ℕ) (s : Store) → first_failing i [] s ≡ 0
unfolding first_failing
broken_none i s = refl

-- what the audit answers once the first tests are passed, by the first broken rule k
module _ (s : Store) (l : not (within_limits s) ≡ false) (m : not (common_test s) ≡ false) (k : ℕ) (e : k ≡ broken_rule s) where
  pub audit_broken : 0 < k → refusing (Refusal.Broken k) s.ctl ≡ audit s
  unfolding audit
  audit_broken b = go k e b
    where
      go : (x : ℕ) → x ≡ broken_rule s → 0 < x → refusing (Refusal.Broken x) s.ctl ≡ audit s
      go zero q b = absurd (omega arith)
      go (suc x) q b = rw (l, m, ← q)

  pub audit_passes : k ≡ 0 → Ok s.ctl ≡ audit s
  unfolding audit
  audit_passes z = rw (l, m, ← e, z)
