-- A region woken at work and in the plain run: its status is read alike, and the entry of the scan stack goes where the depth says. No region stands
-- there twice, so there is room for it.
use Prim.Native.Nat.{ℕ, zero, suc, ◌+◌, ◌*◌, ◌≤◌, ◌<◌}
use native.Mathlib.Omega.{arith}
use mathlib.Core.Path.{◌≡◌, refl, ◌∙◌}
use mathlib.Core.Logic.{◌≢◌}
use mathlib.Core.List.{List, ◌∷◌, Memᴰ}
use lib.ListN.{length, set, length-set, length-map}
use lib.Seq.{get_or-set_same, get_or-set_other}
use borrow.Author.Tests.{eq-eqb, ne_eqb}
use Rattle.laws.specs.Lists.{at}
use Rattle.laws.proofs.Once.{once_most}
use Rattle.rules.specs.Memory.{Store, status_of, set_status}
use Rattle.rules.specs.Pages.{Scan, Run, with_table, with_stack}
use Rattle.rules.specs.Collection.{wake}
use Rattle.facts.proofs.Laid.{Owner}
use Rattle.facts.proofs.Sound.{Sound}
use Rattle.working.proofs.Invariant.{Ghost, regions_of, Inv}
use Rattle.working.proofs.Waking.{of_regions}
use Rattle.motion.specs.Leaves as W
use Rattle.motion.specs.Leaves.{Desk, desk, low, entry, depth, wake_on}
use Rattle.agreement.proofs.Matching.{Alike, above}
use Rattle.agreement.proofs.Frames.{noted_below, notes_on, row_on, status_same}
use Rattle.agreement.proofs.Took.{low_is}

pub stack_few : {s : Store} {S : Sound s} {g : Ghost} {r : Run} → Inv s S g r → length r.stack ≤ 64
stack_few {s} {S} {r = r} I = let a = once_most s.ctl.regions inside I.pending.queue.once in let b = S.regions in omega (arith, length-map r.stack (λ (t : Scan). t.region))
  where
    inside : (j : ℕ) → Memᴰ j (regions_of r.stack) → j < s.ctl.regions
    inside j m = let t = of_regions r.stack m in rw t.2 (I.pending.queue.stacked t.0 t.1).known

-- the entry at depth i
module _ {s : Store} {S : Sound s} {own : ℕ → Owner} {free : List ℕ} {r : Run} {d : Desk} (M : Alike s S own free r d) (j b : ℕ) (j_r : j < s.ctl.regions) (wide : 4 * s.ctl.regions ≤ length r.table) where
  M₁ : Alike s S own free (with_table r (set_status r.table j 1)) (desk d.heap (set_status d.notes j 1))
  M₁ = row_on M (4 * j + 3) 1 (omega arith) (omega arith)

  abbrev i : ℕ
  i = length r.stack

  abbrev t₁ : List ℕ
  t₁ = set_status d.notes j 1

  abbrev t₂ : List ℕ
  t₂ = set t₁ (entry i) b

  abbrev t₃ : List ℕ
  t₃ = set t₂ (entry i + 1) j

  abbrev t₄ : List ℕ
  t₄ = set t₃ depth (suc i)

  else : (x : ℕ) → x ≢ entry i → x ≢ entry i + 1 → x ≢ depth → at t₄ x ≡ at t₁ x
  else x p q u = get_or-set_other t₃ depth x (suc i) 0 u ∙ get_or-set_other t₂ (entry i + 1) x j 0 q ∙ get_or-set_other t₁ (entry i) x b 0 p

  pushed : i < 64 → Alike s S own free (with_stack (with_table r (set_status r.table j 1)) (record { region = j; address = b } ∷ r.stack)) (desk d.heap t₄)
  pushed few =
      let long = M.notes_length_lem in
      let regions = S.regions in
      notes_on M₁ (set_status r.table j 1) (record { region = j; address = b } ∷ r.stack) t₄ (simp length-set long)
      (λ k c k_r c4. else (4 * k + c) (omega arith) (omega arith) (omega arith) ∙ M₁.rows k c k_r c4) (omega arith) (get_or-set_same t₃ depth (suc i) 0 (simp length-set (omega arith)))
      (above
      (get_or-set_other t₃ depth (entry i) (suc i) 0 (omega arith) ∙ get_or-set_other t₂ (entry i + 1) (entry i) j 0 (omega arith) ∙ get_or-set_same t₁ (entry i) b 0 (simp length-set (omega arith)))
      (get_or-set_other t₃ depth (entry i + 1) (suc i) 0 (omega arith) ∙ get_or-set_same t₂ (entry i + 1) j 0 (simp length-set (omega arith)))
      (noted_below M₁.noted (λ x p q. else x (omega arith) (omega arith) (omega arith))))
      (λ x p. else x (omega arith) (omega arith) (omega arith))

  is_pushed : i < 64 → status_of d.notes j ≡ 0 → W.wake j b d.notes ≡ t₄
  unfolding wake_on
  is_pushed few e =
      let q : at d.notes depth ≡ i = M.deep in
      let l : low (i + 1) ≡ suc i = low_is (i + 1) (omega arith) ∙ omega arith in
      rw (q, eq-eqb (status_of d.notes j) 0 e, l)

  is_awake : status_of d.notes j ≢ 0 → W.wake j b d.notes ≡ d.notes
  unfolding wake_on
  is_awake e = rw (ne_eqb (status_of d.notes j) 0 e)

  pub wakes : (status_of r.table j ≡ 0 → i < 64) → Alike s S own free (wake s.ctl.n j b r) (desk d.heap (W.wake j b d.notes))
  unfolding wake
  wakes few = go (status_of r.table j) refl
    where
      go : (c : ℕ) → status_of r.table j ≡ c → Alike s S own free (wake s.ctl.n j b r) (desk d.heap (W.wake j b d.notes))
      go zero e = rw (e, wake, is_pushed (few e) (status_same M j j_r ∙ e)) (pushed (few e))
      go (suc c) e = rw (e, wake, is_awake (λ q. let z = status_same M j j_r in omega arith)) M
