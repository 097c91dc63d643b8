-- The words from one address up to another: there are none where the second is not above the first, and else they are what is lent.
use Prim.Native.Nat.{ℕ, ◌+◌, ◌-◌, ◌≤◌, ◌<◌}
use mathlib.Core.Path.{◌≡◌, sym, ap, ◌∙◌}
use mathlib.Core.Bool.{true}
use mathlib.Core.List.{List}
use lib.ListN.{take, drop}
use lib.Seq.{slice}
use native.Mathlib.Omega.{arith}
use Rattle.laws.specs.Lists.{zeros}
use Rattle.laws.proofs.Lists.{drop_take, slice_none}

module _ (l : List ℕ) (s e : ℕ) where
  pub between_none : e ≤ s → zeros (slice s e l) ≡ true
  unfolding zeros
  between_none b = rw (slice_none s e l b)

  pub between_lent : s < e → zeros (slice s e l) ≡ zeros (take (e - s) (drop s l))
  between_lent b = let q : s + (e - s) ≡ e = omega arith in ap zeros (sym (ap (λ x. slice s x l) q) ∙ drop_take s (e - s) l)
