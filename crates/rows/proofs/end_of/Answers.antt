-- `rows::end_of` meets its contract: the row lies inside the table, and a word of it is below 2^32.
use Prim.Native.Nat.{◌*◌}
use native.Mathlib.Omega.{arith}
use Rattle.rows.proofs.end_of.Goals as goal

pub overflow_cast-table : goal.overflow_cast-table
overflow_cast-table c = omega (arith, c.shared_slice_known-2-1.given (4 * c.args.j.0))

pub returns : goal.returns
returns c = (c.address_numbered.ensures, omega (arith, c.address_numbered.ensures, c.shared_slice_known-2-1.given (4 * c.args.j.0)))
