-- The fields of a copy scanned at work and in the plain run, one after the other: a copy stands behind its page's descriptor, so both read the same
-- word and set it alike.
use Prim.Native.Nat.{ℕ, zero, suc, ◌+◌, ◌*◌, ◌^◌, ◌≤◌, ◌<◌}
use native.Mathlib.Omega.{arith}
use mathlib.Core.Path.{◌≡◌, refl, ap, ◌∙◌, subst}
use mathlib.Core.Bool.{true, false}
use mathlib.Core.Option.{none, some}
use lib.ListN.{length}
use Rattle.laws.specs.Lists.{at}
use Rattle.laws.specs.Each.{after, each}
use Rattle.rules.specs.Memory.{Store}
use Rattle.rules.specs.Words.{rec, head_of}
use Rattle.rules.specs.Pages.{Run}
use Rattle.rules.specs.Collection.{scan_fields}
use Rattle.rules.proofs.Steps.{steps_le}
use Rattle.facts.proofs.Laid.{mine≢beyond, page_in}
use Rattle.facts.proofs.Sound.{Sound}
use Rattle.working.proofs.Log.{Copy}
use Rattle.working.proofs.Invariant.{Ghost, Kept, Inv}
use Rattle.working.proofs.Scanning.{Ready, field_good, field_reached, len_is, unscanned, stepped, field_lacks, field_scans}
use Rattle.motion.specs.Leaves.{Desk}
use Rattle.motion.specs.Run as X
use Rattle.agreement.proofs.Matching.{Matching}
use Rattle.agreement.proofs.Frames.{body_plain}
use Rattle.agreement.proofs.Together.{Together, both_lack, both_go, come_to}
use Rattle.agreement.proofs.Words.{root_is, Evacuates, evacuates, field_stops, field_goes}

-- the m fields from the i-th on of the copy at b of the record at c
abbrev pub Scans : (s : Store) → Sound s → Ghost → Run → (c b l : ℕ) → Run → Desk → ℕ → ℕ → Type 0
Scans s S g₀ r₀ c b l r d m i =
    Together s S none some false true (λ r' d'. (Q : Ready s S g₀ r₀ c b l r' l) × Matching s S Q.ghost r' d') (scan_fields s.ctl.n m (b + suc i) r)
    (each m (X.evacuate s.ctl.n) (b + suc i) d)

pub scans_fields : {s : Store} {S : Sound s} {g₀ : Ghost} {r₀ : Run} {c b l : ℕ} → head_of (at s.heap c) ≡ rec l → (m : ℕ) (r : Run) (i : ℕ) → i + m ≡ l
    → (Q : Ready s S g₀ r₀ c b l r i) (d : Desk) → Matching s S Q.ghost r d → Scans s S g₀ r₀ c b l r d m i
unfolding scan_fields each stepped
scans_fields {s} {S} {g₀} {r₀} {c} {b} {l} head zero r i e Q d M =
    let q : l ≡ i = omega arith in
    subst (λ k. (P : Ready s S g₀ r₀ c b l r k) → Matching s S P.ghost r d → Scans s S g₀ r₀ c b l r d zero i) q (λ P K. both_go r refl d refl (P, K)) Q M
scans_fields {s} {S} {g₀} {r₀} {c} {b} {l} head (suc m) r i e Q d M =
    go (λ r' Q' d' M'. scans_fields head m r' (suc i) (omega arith) Q' d' M') (evacuates Q.inv M (at s.heap (c + suc i)) (field_good head i_in Q) (field_reached head i_in Q))
  where
    i_in : i < l
    i_in = omega arith

    C : Copy s.ctl.n s (Kept s) Q.ghost.own Q.ghost.fin r.heap Q.ghost.log Q.ghost.count c b
    C = Q.inv.logged.copies Q.entry

    lo : C.into * 2 ^ s.ctl.n + 2 ≤ b + suc i
    lo = let lo = steps_le C.now.steps in omega arith

    hi : b + suc i < C.into * 2 ^ s.ctl.n + 2 ^ s.ctl.n
    hi = let hi = C.now.stands.ends in let z = len_is head Q in omega arith

    here : at d.heap (b + suc i) ≡ at s.heap (c + suc i)
    here = M.words (b + suc i) (body_plain S Q.ghost.own C.into lo hi) ∙ unscanned head i_in Q

    inside : {g' : Ghost} {r' : Run} → Inv s S g' r' → b + suc i < length r'.heap
    inside I' =
        let z = I'.laid.size in
        let y = Q.inv.laid.size in
        let p = page_in Q.inv.laid C.into (λ q. mine≢beyond C.into_mine q) in
        let up = hi in
        omega arith

    step_at_work : (d' : Desk) → X.evacuate s.ctl.n (b + suc i) d ≡ after true d'
        → each (suc m) (X.evacuate s.ctl.n) (b + suc i) d ≡ each m (X.evacuate s.ctl.n) (b + suc (suc i)) d'
    step_at_work d' q = let t : suc (b + suc i) ≡ b + suc (suc i) = omega arith in rw q (ap (λ y. each m (X.evacuate s.ctl.n) y d') t)

    go : ((r' : Run) (Q' : Ready s S g₀ r₀ c b l r' (suc i)) (d' : Desk) → Matching s S Q'.ghost r' d' → Scans s S g₀ r₀ c b l r' d' m (suc i))
        → Evacuates Q.inv M (at s.heap (c + suc i)) → Scans s S g₀ r₀ c b l r d (suc m) i
    go rest (both_lack q d' t K) = both_lack (field_lacks head i_in Q m q) d' (rw (field_stops Q.inv M (b + suc i) here t)) K
    go rest (both_go (v, r') q d' t (B, M')) =
        let F = field_goes Q.inv M (b + suc i) here M' (inside B.inv) (body_plain S B.ghost.own C.into lo hi) t (root_is B.inv M' B.rel) in
        come_to (field_scans head i_in Q m v r' q) (step_at_work F.0 F.1) (λ x e G. G) (rest _ (stepped head i_in Q B) F.0 F.2)
