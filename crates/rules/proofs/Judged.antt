-- What the audit's answer says of any call that asks it: a refusal is the call's, and after a yes the heap passes and the call goes on. It is
-- true since `audited` makes the audit's own tests in the same order.
use Rattle.std.specs.Prelude.{Result, Ok, Err}
use Rattle.rules.specs.declared.Refused.{Refused}
use Rattle.rules.specs.Refusals.{Admitted, refused, within_limits, common_test, admitted, unbroken, audited, refusal_of, refusing}
use Prim.Native.Nat.{ℕ, zero, suc}
use mathlib.Core.Path.{◌≡◌, refl, sym, ap}
use mathlib.Core.Logic.{◌↔◌}
use mathlib.Core.Bool.{true, not, false≢true}
use borrow.Author.Tests.{not-false}
use lib.ListN.{length}
use Rattle.laws.proofs.Choices.{choices_agree, second_chosen}
use Rattle.rules.specs.declared.Control.{Control}
use Rattle.rules.specs.declared.Refusal.{Refusal}
use Rattle.rules.specs.Memory.{Store}
use Rattle.rules.specs.Audit.{broken_rule}
use Rattle.rules.specs.Calls.{audit}
use Rattle.rules.specs.Collection.{collected, collect}
use Rattle.rules.proofs.Answered.{same_refused}
use Rattle.rules.proofs.Limits.{admits}

-- ---- any call

-- the heap passes: lengths, common test, audit
pub record Passes (s : Store) : Type 0 where
  pub limits : within_limits s ≡ true
  pub common : common_test s ≡ true
  pub unbroken : broken_rule s ≡ 0

-- then the call goes on
module _ (s : Store) (p : Passes s) where
  pub passed : {O : Type 0} (refuse : Refusal → O) (rest : O) → audited refuse s rest ≡ rest
  passed refuse rest = rw (p.limits, p.common, p.unbroken)

  pub passed_admitted : Admitted (length s.heap) (length s.table) (length s.roots) (length s.consts) s.ctl
  passed_admitted = admits _ _ _ _ _ p.limits p.common

-- two answers behind the same two first tests: what holds of their refusals and of their rests holds of them
pub admissions_agree : {A B : Type 0} (P : A → B → Type 0) (f : Refusal → A) (g : Refusal → B) (s : Store) {x : A} {y : B}
    → ((r : Refusal) → P (f r) (g r)) → P x y → P (admitted f s x) (admitted g s y)
admissions_agree P f g s refuse rest =
    choices_agree P (not (within_limits s)) (refuse Refusal.Limits) (choices_agree P (not (common_test s)) (refuse (Refusal.Broken 0)) rest)

-- ---- by the audit's answer

-- a refusal is the call's; g is how the call hands it on
pub judged_refuse : {O : Type 0} (g : Refused → O) (rest : O) (s : Store) {f : Refused} → Err f ≡ audit s
    → g f ≡ audited (λ r. g (refusal_of s.ctl r)) s rest
unfolding audit
judged_refuse {O} g rest s {f} e =
    admissions_agree Alike (λ r. refusing r s.ctl) (λ r. g (refusal_of s.ctl r)) s alike (broken (broken_rule s)) e
  where
    -- the audit's answer and the call's
    Alike : Result Control Refused → O → Type 0
    Alike x y = Err f ≡ x → g f ≡ y

    alike : (r : Refusal) → Alike (refusing r s.ctl) (g (refusal_of s.ctl r))
    alike r p = ap g (same_refused p)

    broken : (k : ℕ) → Alike (unbroken (λ r. refusing r s.ctl) k (Ok s.ctl)) (unbroken (λ r. g (refusal_of s.ctl r)) k rest)
    broken zero p = absurd (false≢true cc)
    broken (suc k) p = alike (Refusal.Broken (suc k)) p

-- after a yes the heap passes
pub judged_yes : (s : Store) {c : Control} → Ok c ≡ audit s → Passes s
unfolding audit
judged_yes s {c} e =
    let (within, x) = second_chosen (not (within_limits s)) e (λ z. false≢true cc) in
    let (common, y) = second_chosen (not (common_test s)) x (λ z. false≢true cc) in
    record { limits = not-false _ within; common = not-false _ common; unbroken = none (broken_rule s) y }
  where
    none : (k : ℕ) → Ok c ≡ unbroken (λ r. refusing r s.ctl) k (Ok s.ctl) → k ≡ 0
    none zero f = refl
    none (suc k) f = absurd (false≢true cc)

-- and only then
pub audit_yes : (s : Store) → (audit s ≡ Ok s.ctl) ↔ Passes s
unfolding audit
audit_yes s = (λ e. judged_yes s (sym e), λ p. passed s p (λ r. refusing r s.ctl) (Ok s.ctl))

-- after a yes a collection is its four steps
pub judged_collects : (s : Store) {c : Control} → Ok c ≡ audit s → collect s ≡ collected s
unfolding collect
judged_collects s e = passed s (judged_yes s e) (refused s) (collected s)
