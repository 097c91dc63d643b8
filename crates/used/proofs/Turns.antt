-- The turn laws of used words: at each value and at each page, what was counted and what is left to count is the whole.
use Prim.Native.Nat.{ℕ, ◌+◌, ◌-◌, ◌*◌, ◌/◌, ◌^◌, ◌≤◌, ◌<◌}
use mathlib.Core.Path.{◌≡◌}
use mathlib.Core.Bool.{true}
use mathlib.Core.List.{List, []}
use native.Mathlib.Omega.{arith}
use lib.ListN.{length, get_or}
use Rattle.laws.proofs.Tallies.{sum_done}
use Rattle.rules.specs.Memory.{chain}
use Rattle.rules.specs.Words.{fits, vals_in, used_of}
use Rattle.rules.specs.Audit.{used_on}
use Rattle.rules.proofs.Chains.{page_vals_lem, Next, Over}
use Rattle.contents.proofs.Turns.{end_step}

-- u words are counted, those of the values from address a up to address e are left, and w is the whole
module _ (h : List ℕ) (a e u w : ℕ) (i : u + used_of (vals_in h a e) ≡ w) where
  pub used_over : vals_in h a e ≡ [] → u ≡ w
  unfolding used_of
  used_over q = sum_done u (used_of (vals_in h a e)) w i (rw q)

  -- over code that has the next value's address as d and has counted v words then
  pub used_step : a < e → e ≤ length h → fits (get_or h a 0) (e - (a + 1)) ≡ true → (d v : ℕ) → d ≡ a + (1 + get_or h a 0 / 8) → v ≡ u + 1 + get_or h a 0 / 8 → v + used_of (vals_in h d e) ≡ w
  used_step b c f d v q r =
      let s : d ≡ a + 1 + get_or h a 0 / 8 = omega arith in
      rw s (omega (arith, end_step h a e b c f))

-- u words are counted, and those of the pages from the link k on are left, with fuel f
module _ {n : ℕ} {h : List ℕ} {f k : ℕ} (u w : ℕ) (i : u + used_on n h (chain f n h k) ≡ w) where
  -- the page is p, and its values take v words
  pub page_used : {b : ℕ} → Next n h f k b → (p v : ℕ) → p ≡ k - 1 → v ≡ used_of (vals_in h (p * 2 ^ n + 2) (p * 2 ^ n + 2 ^ n)) → u + v + used_on n h (chain (f - 1) n h (get_or h b 0)) ≡ w
  unfolding used_on
  page_used {b} x p v q r =
      let t : used_on n h (chain f n h k) ≡ v + used_on n h (chain (f - 1) n h (get_or h b 0)) = rw (x.pages, ← q, page_vals_lem n h p, ← r) in
      omega arith

  pub pages_used : Over n h f k → u ≡ w
  unfolding used_on
  pages_used o = sum_done u (used_on n h (chain f n h k)) w i (rw o.none)
