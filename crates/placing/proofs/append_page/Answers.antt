-- `placing::append_page` meets its contract: it makes the three writes of the contract, in their order.
use Prim.Native.Nat.{ℕ}
use native.Mathlib.Omega.{arith}
use lib.ListN.{length-set}
use Rattle.placing.proofs.append_page.Goals as goal

pub bounds-heap-i_start-2 : goal.bounds-heap-i_start-2
bounds-heap-i_start-2 c = omega (arith, length-set {A = ℕ})

pub bounds-heap-i_before : goal.bounds-heap-i_before
bounds-heap-i_before c = omega (arith, length-set {A = ℕ})
