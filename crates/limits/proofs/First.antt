-- What the answer of the first tests says of a call: its outcome is the refusal, or is the rest of the call with all that the tests say.
-- It is true since `admitted` makes the same two tests in the same order.
use Prim.Native.Nat.{ℕ, ◌/◌, ◌^◌}
use mathlib.Core.Path.{◌≡◌, refl, sym, ap, ◌∙◌}
use mathlib.Core.Bool.{false, not, false≢true}
use borrow.Author.Tests.{not-false}
use Rattle.std.specs.Prelude.{Result, Ok, Err}
use Rattle.laws.specs.Choice.{◌⇒◌∣◌}
use Rattle.laws.proofs.Choices.{choices_agree, second_chosen}
use Rattle.rules.specs.declared.Control.{Control}
use Rattle.rules.specs.declared.Refusal.{Refusal}
use Rattle.rules.specs.declared.Refused.{Refused}
use Rattle.rules.proofs.Answered.{same_refused}
use Rattle.rules.specs.Memory.{Store, limits}
use Rattle.rules.specs.Refusals.{Admitted, admitted, common, refusal_of, refusing}
use Rattle.rules.proofs.Limits.{admits}
use Rattle.limits.specs.First.{first_tests, tests_of}

-- h, k, r, l are the four lengths, and `t` is the answer
module _ (h k r l : ℕ) (c : Control) {t : Result (Unit {0}) Refused} (e : t ≡ first_tests h k r l c) where
  -- a refusal is the call's; g is how the call hands it on
  pub tests_refuse : {O : Type 0} {f : Refused} (g : Refused → O) (rest : O) → t ≡ Err f
      → g f ≡ (not (limits c.n h k r l) ⇒ g (refusal_of c Refusal.Limits) ∣ not (common (h / 2 ^ c.n) c) ⇒ g (refusal_of c (Refusal.Broken 0)) ∣ rest)
  unfolding first_tests
  tests_refuse {O} {f} g rest q =
      choices_agree Alike (not (limits c.n h k r l)) (alike Refusal.Limits)
      (choices_agree Alike (not (common (h / 2 ^ c.n) c)) (alike (Refusal.Broken 0)) (λ p. absurd (false≢true cc))) (sym e ∙ q)
    where
      -- the tests' answer and the call's
      Alike : Result (Unit {0}) Refused → O → Type 0
      Alike x y = x ≡ Err f → g f ≡ y

      alike : (r : Refusal) → Alike (refusing r c) (g (refusal_of c r))
      alike r p = ap g (sym (same_refused p))

  -- else the call goes on
  pub tests_pass : t ≡ Ok tt → (not (limits c.n h k r l) ≡ false) × (not (common (h / 2 ^ c.n) c) ≡ false)
  unfolding first_tests
  tests_pass q =
      let (within, rest) = second_chosen (not (limits c.n h k r l)) (sym q ∙ e) (λ z. false≢true cc) in
      (within, (second_chosen (not (common (h / 2 ^ c.n) c)) rest (λ z. false≢true cc)).0)

  pub tests_admit : t ≡ Ok tt → Admitted h k r l c
  tests_admit q = let f = tests_pass q in admits h k r l c (not-false _ f.0) (not-false _ f.1)

-- The same of the tests of a store, as `admit` makes them.
module _ (s : Store) where
  pub refused_first : {O : Type 0} {f : Refused} (g : Refused → O) (rest : O) → tests_of s ≡ Err f → g f ≡ admitted (λ r. g (refusal_of s.ctl r)) s rest
  refused_first g rest q = tests_refuse _ _ _ _ _ {t = tests_of s} refl g rest q

  -- then the call is its rest
  pub admitted_first : {O : Type 0} (refuse : Refusal → O) (rest : O) → tests_of s ≡ Ok tt → admitted refuse s rest ≡ rest
  admitted_first refuse rest q = let f = tests_pass _ _ _ _ _ {t = tests_of s} refl q in rw (f.0, f.1)
