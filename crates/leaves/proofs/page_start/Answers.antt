-- `leaves::page_start` meets its contract: the number of a page of a heap is at most 65,536, so its address fits; any other gives the number past every heap.
use Prim.Native.Nat.{◌≤◌, ◌^◌}
use native.Mathlib.Omega.{arith}
use lib.Pow.{pow_mono}
use native.Mathlib.Nat.{mul-le-mul}
use Rattle.laws.proofs.Tests.{tests}
use Rattle.motion.specs.Leaves.{page_start}
use Rattle.leaves.proofs.page_start.Goals as goal

pub returns-then-k-le65536 : goal.returns-then-k-le65536
unfolding page_start
returns-then-k-le65536 c =
    let b : c.args.k.0 ≤ 65536 = c.if-k-le65536.true in
    let p : 2 ^ c.args.n ≤ 256 = pow_mono {j = 8} c.requires in
    (rw c.page_address.ensures (search tests), rw c.page_address.ensures (mul-le-mul {n₁ = c.args.k.0} {m₁ = 2 ^ c.args.n} {n₂ = 65536} {m₂ = 256} b p))

pub returns : goal.returns
unfolding page_start
returns c = (rw c.address_numbered.ensures (search tests), omega arith)
