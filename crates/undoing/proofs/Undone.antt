-- The undoing of one page, a turn by what `undo_value` ensures: the loop runs the definition's.
use Prim.Native.Nat.{ℕ, ◌+◌, ◌-◌, ◌*◌, ◌^◌, ◌≤◌, ◌<◌}
use mathlib.Core.Path.{◌≡◌}
use mathlib.Core.List.{List}
use native.Mathlib.Omega.{arith}
use borrow.Author.Tests.{le-leb, lt-leb}
use Rattle.laws.specs.Lists.{at}
use Rattle.laws.specs.Each.{After, after}
use Rattle.laws.proofs.Tests.{is_eqb, not_eqb}
use Rattle.laws.proofs.Loops.{loop_more, loop_over, loop_end}
use Rattle.motion.specs.Whole.{undo_value, undo_turn, undo_vals, undo_page}

pub undo_more : (f g e x w : ℕ) (h : List ℕ) (o : After ℕ (List ℕ)) → g + 1 ≡ f → x < e → w ≡ at h x → (w ≡ 0 → ⊥) → o ≡ undo_value x h
    → undo_vals f e (after x h) ≡ undo_vals g e o
unfolding undo_turn
undo_more f g e x w h o l b q n r =
    let d : f - 1 ≡ g = omega arith in
    rw (← d) (loop_more _ _ _ _ _ (omega arith) (rw (lt-leb e x b, not_eqb w (at h x) 0 q n, r)))

pub undo_past : (f e x : ℕ) (h : List ℕ) → 0 < f → e ≤ x → undo_vals f e (after x h) ≡ h
unfolding undo_turn
undo_past f e x h l b = loop_over _ _ _ _ _ l (rw (le-leb e x b))

pub undo_zero : (f e x w : ℕ) (h : List ℕ) → 0 < f → x < e → w ≡ at h x → w ≡ 0 → undo_vals f e (after x h) ≡ h
unfolding undo_turn
undo_zero f e x w h l b q n = loop_over _ _ _ _ _ l (rw (lt-leb e x b, is_eqb w (at h x) 0 q n))

-- page k, of p words: its body is from x to e
pub undo_all : (n k p e x : ℕ) (h : List ℕ) → p ≡ 2 ^ n → e ≡ k * 2 ^ n + 2 ^ n → x ≡ k * 2 ^ n + 2 → undo_vals (p - 0) e (after x h) ≡ undo_page n k h
unfolding undo_page
undo_all n k p e x h q r s = let z : p - 0 ≡ 2 ^ n = omega arith in rw (s, r, z)

pub undo_out : (f g e : ℕ) (o : After ℕ (List ℕ)) → f ≤ g → undo_vals (f - g) e o ≡ o.state
unfolding undo_turn
undo_out f g e o l = loop_end _ _ _ _ (omega arith)
