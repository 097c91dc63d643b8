-- The work, a turn by what `one_step` ensures: `loop` runs one turn, and the step's answer says which way it goes.
use Prim.Native.Nat.{ℕ, ◌+◌, ◌-◌, ◌≤◌, ◌<◌}
use native.Mathlib.Omega.{arith}
use mathlib.Core.Path.{◌≡◌}
use Rattle.std.specs.Prelude.{Ok, Err, Some, None}
use Rattle.laws.specs.Each.{after}
use Rattle.laws.proofs.Loops.{loop_more, loop_over, loop_end}
use Rattle.motion.specs.declared.Entry.{Entry}
use Rattle.motion.specs.declared.NoPage.{NoPage}
use Rattle.motion.specs.Leaves.{Desk, all_scanned, page_lacks}
use Rattle.motion.specs.Run.{step, scanning, work_on, work_turn, work}

-- i turns of f are done
pub work_more : (n f i j s : ℕ) (e : Entry) (d d' : Desk) → i < f → after (Ok (Some e)) d' ≡ step n j s d
    → work n (f - i) (scanning j s d) ≡ work n (f - (i + 1)) (scanning e.region.0 e.address.0 d')
unfolding work_turn work_on
work_more n f i j s e d d' l t = let p : f - (i + 1) ≡ f - i - 1 = omega arith in rw p (loop_more _ _ _ _ _ (omega arith) (rw (← t)))

pub work_finished : (n f i j s : ℕ) (d d' : Desk) → i < f → after (Ok None) d' ≡ step n j s d → work n (f - i) (scanning j s d) ≡ after all_scanned d'
unfolding work_turn work_on
work_finished n f i j s d d' l t = loop_over _ _ _ _ _ (omega arith) (rw (← t))

pub work_lacks : (n f i j s : ℕ) (e : NoPage) (d d' : Desk) → i < f → after (Err e) d' ≡ step n j s d → work n (f - i) (scanning j s d) ≡ after page_lacks d'
unfolding work_turn work_on
work_lacks n f i j s e d d' l t = loop_over _ _ _ _ _ (omega arith) (rw (← t))

pub work_end : (n f i : ℕ) (e : Entry) (d : Desk) → f ≤ i → work n (f - i) (scanning e.region.0 e.address.0 d) ≡ after (Ok (Some e)) d
work_end n f i e d b = loop_end _ _ _ _ (omega arith)
