-- The bits below a page's size are what an address leaves of whole pages. That size is a power of two.
use Prim.Native.Nat.{ℕ, ◌-◌, ◌%◌, ◌^◌}
use mathlib.Core.Path.{◌≡◌, sym}
use lib.Bits.{bit_and, and_mask}

pub off_pages : (t n : ℕ) → t % 2 ^ n ≡ bit_and t (2 ^ n - 1)
off_pages t n = sym (and_mask t n)
