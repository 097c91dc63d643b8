-- `limits::within_limits` meets its contract: it makes the tests of `limits` one by one, n before the shift by n.
use native.Mathlib.Omega.{arith}
use borrow.Author.Tests.{le-leb, lt-leb}
use Prim.Native.Nat.{◌*◌, ◌^◌}
use lib.Pow.{pow_pos}
use Rattle.laws.proofs.Tests.{tests}
use Rattle.rules.specs.Memory.{limits}
use Rattle.rules.proofs.Limits.{page_size}
use Rattle.limits.proofs.within_limits.Goals as goal

pub returns-then-n-lt4 : goal.returns-then-n-lt4
unfolding limits
returns-then-n-lt4 c = search tests

pub returns-then-n-gt8 : goal.returns-then-n-gt8
unfolding limits
returns-then-n-gt8 c = search tests

pub nonzero_rem-heap : goal.nonzero_rem-heap
nonzero_rem-heap c = rw c.page_words-p.ensures (pow_pos _)

pub returns-then-heap-p-ne0 : goal.returns-then-heap-p-ne0
unfolding limits
returns-then-heap-p-ne0 c = search (← c.page_words-p.ensures, tests)

pub overflow_mul-p : goal.overflow_mul-p
overflow_mul-p c = let s = page_size _ c.if-n-lt4.false c.if-n-gt8.false in omega (arith, c.page_words-p.ensures)

pub returns-then-heap-p : goal.returns-then-heap-p
unfolding limits
returns-then-heap-p c = search (lt-leb (2 * 2 ^ c.args.n) c.args.heap (omega (arith, c.page_words-p.ensures)), ← c.page_words-p.ensures, tests)

pub returns-then-heap-gt65536 : goal.returns-then-heap-gt65536
unfolding limits
returns-then-heap-gt65536 c = search (le-leb (2 * 2 ^ c.args.n) c.args.heap (omega (arith, c.page_words-p.ensures)), ← c.page_words-p.ensures, tests)

pub returns-then-table-ne256 : goal.returns-then-table-ne256
unfolding limits
returns-then-table-ne256 c = search (le-leb (2 * 2 ^ c.args.n) c.args.heap (omega (arith, c.page_words-p.ensures)), ← c.page_words-p.ensures, tests)

pub returns-then-roots-gt1024 : goal.returns-then-roots-gt1024
unfolding limits
returns-then-roots-gt1024 c = search (le-leb (2 * 2 ^ c.args.n) c.args.heap (omega (arith, c.page_words-p.ensures)), ← c.page_words-p.ensures, tests)

pub returns : goal.returns
unfolding limits
returns c = search (le-leb (2 * 2 ^ c.args.n) c.args.heap (omega (arith, c.page_words-p.ensures)), ← c.page_words-p.ensures, tests)
