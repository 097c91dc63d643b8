-- `rows::clear_row` meets its contract: the row lies inside the table, and its four words become 0 in order.
use native.Mathlib.Omega.{arith}
use lib.ListN.{length-set}
use Rattle.rows.proofs.clear_row.Goals as goal

pub bounds-table-row-2 : goal.bounds-table-row-2
bounds-table-row-2 c = simp length-set (omega arith)

pub bounds-table-row-3 : goal.bounds-table-row-3
bounds-table-row-3 c = simp length-set (omega arith)

pub bounds-table-row-4 : goal.bounds-table-row-4
bounds-table-row-4 c = simp length-set (omega arith)
