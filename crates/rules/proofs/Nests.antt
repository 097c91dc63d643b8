-- The turn laws of walks over regions and pages, as the code makes them. Each is stated with what the outer levels still have to test, `&& r`, so
-- that one law serves every nest. They hold because a chain goes one page a turn, and a test of all regions one region.
use Prim.Native.Nat.{ℕ, suc, ◌+◌, ◌-◌, ◌/◌, ◌^◌, ◌≤◌, ◌<◌}
use mathlib.Core.Path.{◌≡◌}
use mathlib.Core.Bool.{Bool, ◌&&◌}
use mathlib.Core.List.{List}
use native.Mathlib.Omega.{arith}
use lib.ListN.{length, get_or}
use Rattle.laws.specs.Lists.{all, all_from}
use Rattle.laws.proofs.Tests.{all_turn, from_go}
use Rattle.rules.specs.Memory.{chain, first_link, region_pages}
use Rattle.rules.specs.Audit.{if_last}
use Rattle.rules.proofs.Chains.{Next, Over}

-- a test of each page of a chain
module _ {n : ℕ} {h : List ℕ} {f k : ℕ} (q : ℕ → Bool) (r : Bool) where
  pub pages_go : {b : ℕ} → Next n h f k b → (all q (chain f n h k) && r) ≡ (q (k - 1) && (all q (chain (f - 1) n h (get_or h b 0)) && r))
  pages_go x = rw x.pages (all_turn q (k - 1) _ r)

  pub pages_over : Over n h f k → (all q (chain f n h k) && r) ≡ r
  unfolding all
  pages_over o = rw o.none

-- a test of each page of each region; l is the link to region j's first page
pub regions_go : (q : ℕ → ℕ → Bool) (n N : ℕ) (h t : List ℕ) (m j l : ℕ) → N ≡ length h / 2 ^ n → l ≡ first_link n t j → 0 < m
    → all_from (λ j. all (q j) (region_pages n h t j)) m j ≡ (all (q j) (chain N n h l) && all_from (λ j. all (q j) (region_pages n h t j)) (m - 1) (j + 1))
unfolding region_pages
regions_go q n N h t m j l e g b = rw (e, g) (from_go (λ j. all (q j) (region_pages n h t j)) m j b)

-- the last page of a chain: there the test decides

module _ (x : ℕ) (test r : Bool) where
  pub last_not : 0 < x → (if_last x test && r) ≡ r
  unfolding if_last
  last_not b = let e : x ≡ suc (x - 1) = omega arith in rw e

  pub last_is : x ≤ 0 → (if_last x test && r) ≡ (test && r)
  unfolding if_last
  last_is b = let z : x ≡ 0 = omega arith in rw z
