-- A page cleared: its words are 0, and since no word is in two pages every other page is as it was. With it the link to a region's first page.
use Prim.Native.Nat.{ℕ, suc, ◌+◌, ◌-◌, ◌*◌, ◌/◌, ◌^◌, ◌≤◌, ◌<◌}
use native.Mathlib.Nat.{le_refl, mul-div_left}
use native.Mathlib.Omega.{arith}
use mathlib.Core.Path.{◌≡◌, sym, ap, ◌∙◌}
use mathlib.Core.Logic.{◌≢◌}
use mathlib.Core.List.{List}
use lib.ListN.{length, replicate, length-replicate, get_or-replicate}
use Rattle.laws.specs.Lists.{at}
use Rattle.laws.proofs.Lists.{put_elsewhere, length_put, at_put_in}
use Rattle.rules.specs.Memory.{link, first_of, first_link}
use Rattle.rules.specs.Pages.{clear_page}

module _ (n : ℕ) (h : List ℕ) (k : ℕ) (inside : k * 2 ^ n + 2 ^ n ≤ length h) where
  abbrev Z : List ℕ
  Z = replicate (2 ^ n) 0

  len_z : length Z ≡ 2 ^ n
  len_z = length-replicate {A = ℕ} (2 ^ n) 0

  fits : k * 2 ^ n + length Z ≤ length h
  fits = let b = len_z in omega arith

  pub clear_length : length (clear_page n h k) ≡ length h
  unfolding clear_page
  clear_length = length_put h (k * 2 ^ n) Z fits

  pub clear_else : (l x : ℕ) → l ≢ k → l * 2 ^ n ≤ x → x < l * 2 ^ n + 2 ^ n → at (clear_page n h k) x ≡ at h x
  unfolding clear_page
  clear_else l x ne p q = put_elsewhere (2 ^ n) h k (k * 2 ^ n) Z l x fits (le_refl _) (let e = len_z in omega arith) ne p q

  -- so is its link
  pub clear_link : 0 < 2 ^ n → (l : ℕ) → l ≢ k → link n (clear_page n h k) l ≡ link n h l
  unfolding link
  clear_link p l ne = clear_else l (l * 2 ^ n) ne (le_refl _) (omega arith)

  pub clear_in : (x : ℕ) → k * 2 ^ n ≤ x → x < k * 2 ^ n + 2 ^ n → at (clear_page n h k) x ≡ 0
  unfolding clear_page
  clear_in x p q =
      let e : k * 2 ^ n + (x - k * 2 ^ n) ≡ x = omega arith in
      let len = len_z in
      ap (at (clear_page n h k)) (sym e) ∙ at_put_in h (k * 2 ^ n) Z (x - k * 2 ^ n) fits (omega arith) ∙ get_or-replicate {A = ℕ} (2 ^ n) (x - k * 2 ^ n) 0 0 (omega arith)

-- the link to a region's first page
pub first_link_lem : (n : ℕ) (t : List ℕ) (j k : ℕ) → 16 ≤ 2 ^ n → first_of t j ≡ k * 2 ^ n → first_link n t j ≡ suc k
first_link_lem n t j k big e = ap suc (ap (λ x. x / 2 ^ n) e ∙ mul-div_left k {n = 2 ^ n} (omega arith))
