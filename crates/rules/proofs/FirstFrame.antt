-- The tests of an image's first frame as facts. They hold because each test is one of those that `head_fits` joins.
use Prim.Native.Nat.{ℕ, ◌*◌, ◌^◌, ◌≤◌}
use mathlib.Core.Path.{◌≡◌}
use mathlib.Core.Bool.{true}
use mathlib.Core.List.{List}
use native.Mathlib.Nat.{mul-le-mul_left, mul-one, one-le-pow}
use native.Mathlib.Omega.{arith}
use borrow.Author.Tests.{leb-true, eqb-true}
use lib.ListN.{length}
use Rattle.laws.specs.Lists.{at}
use Rattle.laws.proofs.Tests.{both, eight_hold}
use Rattle.rules.specs.Image.{head_fits, program_fits}

pub record Limited (ws : List ℕ) : Type 0 where
  pub eight : length ws ≡ 8
  pub low : 4 ≤ at ws 0
  pub high : at ws 0 ≤ 8
  pub two : 2 ≤ at ws 1
  pub size : at ws 1 * 2 ^ at ws 0 ≤ 65536
  pub regions : at ws 2 ≤ 64
  pub roots : at ws 6 ≤ 1024
  pub consts : at ws 7 ≤ 65535

pub limited : (ws : List ℕ) → head_fits ws ≡ true → Limited ws
unfolding head_fits
limited ws e =
    let (eight, n4, n8, t, s, g, r, k) = eight_hold e in
    record {
      eight = eqb-true _ _ eight;
      low = leb-true _ _ n4;
      high = leb-true _ _ n8;
      two = leb-true _ _ t;
      size = leb-true _ _ s;
      regions = leb-true _ _ g;
      roots = leb-true _ _ r;
      consts = leb-true _ _ k;
    }

-- a page has a word at least
pub pages_limited : (ws : List ℕ) → Limited ws → at ws 1 ≤ 65536
pages_limited ws l = let s = l.size in omega (arith, mul-le-mul_left (at ws 1) (one-le-pow (at ws 0) 2 (omega arith)), mul-one (at ws 1))

-- what the program's test says beside it
pub program_limited : (ws : List ℕ) → program_fits ws ≡ true → (head_fits ws ≡ true) × (at ws 1 * 2 ^ at ws 0 ≤ 4096) × (at ws 7 ≤ 1024)
unfolding program_fits
program_limited ws e =
    let (e1, k) = both e in
    let (h, p) = both e1 in
    (h, leb-true _ _ p, leb-true _ _ k)
