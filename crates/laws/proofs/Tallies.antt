-- A sum that is made part by part: u is made, x is what is left here, y what is left further out, and w is the whole. Each is linear arithmetic.
use Prim.Native.Nat.{ℕ, ◌+◌}
use native.Mathlib.Omega.{arith}
use mathlib.Core.Path.{◌≡◌}

pub sum_done : (u x w : ℕ) → u + x ≡ w → x ≡ 0 → u ≡ w
sum_done u x w p q = omega arith

pub sum_skip : (u x y w : ℕ) → u + (x + y) ≡ w → x ≡ 0 → u + y ≡ w
sum_skip u x y w p q = omega arith

pub sum_step : (u x y d x' w : ℕ) → u + (x + y) ≡ w → x ≡ d + x' → u + d + (x' + y) ≡ w
sum_step u x y d x' w p q = omega arith

pub sum_open : (u z x y w : ℕ) → u + z ≡ w → z ≡ x + y → u + (x + y) ≡ w
sum_open u z x y w p q = omega arith
