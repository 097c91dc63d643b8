-- A turn by what `fresh` and `move_root` ensure: the regions, and the roots, from the i-th on are what is left of the definition's loop.
use Prim.Native.Nat.{ℕ, ◌+◌, ◌-◌, ◌≤◌, ◌<◌}
use native.Mathlib.Omega.{arith}
use mathlib.Core.Path.{◌≡◌, refl}
use mathlib.Core.Bool.{true, false}
use mathlib.Core.List.{List}
use lib.ListN.{length, drop}
use Rattle.laws.specs.Each.{after, each, each_of}
use Rattle.laws.specs.Lists.{at}
use Rattle.laws.proofs.Each.{each_more, each_over, each_end, each_of_more, each_of_over, each_of_end}
use Rattle.motion.specs.Leaves.{Desk}
use Rattle.motion.specs.Whole.{fresh, move_root}

-- ---- regions

pub fresh_more : (n R i : ℕ) (d d' : Desk) → i < R → after true d' ≡ fresh n i d → each (R - i) (fresh n) i d ≡ each (R - (i + 1)) (fresh n) (i + 1) d'
fresh_more n R i d d' b t = let p : R - (i + 1) ≡ R - i - 1 = omega arith in rw p (each_more _ _ _ _ _ _ (omega arith) refl t)

pub fresh_over : (n R i : ℕ) (d d' : Desk) → i < R → after false d' ≡ fresh n i d → each (R - i) (fresh n) i d ≡ after false d'
fresh_over n R i d d' b t = each_over _ _ _ _ _ _ (omega arith) refl t

pub fresh_end : (n R i : ℕ) (d : Desk) → R ≤ i → each (R - i) (fresh n) i d ≡ after true d
fresh_end n R i d b = each_end _ _ _ _ (omega arith)

-- ---- roots

pub root_more : (n : ℕ) (ws : List ℕ) (i : ℕ) (d d' : Desk) → i < length ws → after true d' ≡ move_root n (at ws i) d
    → each_of (move_root n) (drop i ws) d ≡ each_of (move_root n) (drop (i + 1) ws) d'
root_more n ws i d d' b t = each_of_more _ _ _ _ _ _ _ b refl refl t

pub root_over : (n : ℕ) (ws : List ℕ) (i : ℕ) (d d' : Desk) → i < length ws → after false d' ≡ move_root n (at ws i) d
    → each_of (move_root n) (drop i ws) d ≡ after false d'
root_over n ws i d d' b t = each_of_over _ _ _ _ _ _ _ b refl refl t

pub root_end : (n : ℕ) (ws : List ℕ) (i : ℕ) (d : Desk) → length ws ≤ i → each_of (move_root n) (drop i ws) d ≡ after true d
root_end n ws i d b = each_of_end _ _ _ _ b
