-- A place in a stretch of a list is a place of the list itself: so where a stretch has a newline, the list has one.
use Rattle.std.specs.Prelude.{◌≡◌, ℕ, ◌+◌, ◌-◌, ◌<◌, List, length, take, drop, slice_index}
use Rattle.std.proofs.Common.{◌∙◌, sym, ap}
use native.Mathlib.Omega.{arith}
use lib.ListN.{length-take}
use lib.Seq.{get_or-take, get_or-drop}

-- the n-th place from `from` on is the one before that behind it
pub before_next : (xs ys : List ℕ) (from end n b : ℕ) → ys ≡ take (end - from) (drop from xs) → n < length ys → slice_index ys n ≡ b
    → slice_index xs (from + (n + 1) - 1) ≡ b
before_next xs ys from end n b part l e =
    ap (slice_index xs) (omega arith) ∙ sym (get_or-drop from xs n 0)
    ∙ sym (get_or-take (end - from) (drop from xs) n 0 (omega (arith, length-take (end - from) (drop from xs), ap length part)))
    ∙ sym (ap (λ s. slice_index s n) part) ∙ e
