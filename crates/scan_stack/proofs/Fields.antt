-- The fields of a value, a turn by what `evacuate` ensures: those from the i-th on are what is left of `each`. It is a turn of the definition.
use Prim.Native.Nat.{ℕ, ◌+◌, ◌-◌, ◌≤◌, ◌<◌}
use native.Mathlib.Omega.{arith}
use mathlib.Core.Path.{◌≡◌, refl}
use mathlib.Core.Bool.{true, false}
use Rattle.laws.specs.Each.{after, each}
use Rattle.laws.proofs.Each.{each_more, each_over, each_end}
use Rattle.motion.specs.Leaves.{Desk}
use Rattle.motion.specs.Run.{evacuate}

pub fields_more : (n l x i : ℕ) (d d' : Desk) → i < l → after true d' ≡ evacuate n (x + i) d
    → each (l - i) (evacuate n) (x + i) d ≡ each (l - (i + 1)) (evacuate n) (x + (i + 1)) d'
fields_more n l x i d d' b t =
    let p : l - (i + 1) ≡ l - i - 1 = omega arith in
    let s : x + (i + 1) ≡ x + i + 1 = omega arith in
    rw (p, s) (each_more _ _ _ _ _ _ (omega arith) refl t)

pub fields_over : (n l x i : ℕ) (d d' : Desk) → i < l → after false d' ≡ evacuate n (x + i) d → each (l - i) (evacuate n) (x + i) d ≡ after false d'
fields_over n l x i d d' b t = each_over _ _ _ _ _ _ (omega arith) refl t

pub fields_end : (n l x i : ℕ) (d : Desk) → l ≤ i → each (l - i) (evacuate n) (x + i) d ≡ after true d
fields_end n l x i d b = each_end _ _ _ _ (omega arith)
