-- A test of each of a run of numbers, as an iterator makes it: it is one recursion along the run.
use Prim.Native.Nat.{ℕ, zero, suc}
use mathlib.Core.Path.{◌≡◌, refl, sym, ap, ◌∙◌}
use mathlib.Core.Bool.{Bool, ◌&&◌}
use native.Mathlib.Numerals.{add-one}
use Rattle.std.specs.List.{list_all, range_with_len}
use Rattle.laws.specs.Lists.{all_from}
use Rattle.laws.proofs.Tests.{from_step}

pub run_all : (p : ℕ → Bool) (m j : ℕ) → list_all p (range_with_len j m) ≡ all_from p m j
unfolding all_from
run_all p zero j = refl
run_all p (suc m) j = rw (add-one j) (ap (λ b. p j && b) (run_all p m (suc j)) ∙ sym (from_step p m j))
