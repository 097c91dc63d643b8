-- `rows::set_row` meets its contract: the row lies inside the table, and its four words are written in order.
use Prim.Native.Nat.{ℕ, ◌+◌, ◌*◌}
use mathlib.Core.Path.{◌≡◌}
use mathlib.Core.List.{List}
use native.Mathlib.Nat.{add_comm}
use native.Mathlib.Omega.{arith}
use lib.ListN.{set, length-set}
use Rattle.rules.specs.Memory.{set_row}
use Rattle.rows.proofs.set_row.Goals as goal

-- the four writes, by their places
written : (t : List ℕ) (j e fp a b i₀ i₁ i₂ i₃ : ℕ) → i₀ ≡ 4 * j → i₁ ≡ 4 * j + 1 → i₂ ≡ 4 * j + 2 → i₃ ≡ 4 * j + 3 → set (set (set (set t i₀ e) i₁ fp) i₂ a) i₃ b ≡ set_row t j e fp a b
written t j e fp a b i₀ i₁ i₂ i₃ q₀ q₁ q₂ q₃ = rw (q₀, q₁, q₂, q₃)

pub bounds-table-row-2 : goal.bounds-table-row-2
bounds-table-row-2 c = simp length-set (omega arith)

pub bounds-table-row-3 : goal.bounds-table-row-3
bounds-table-row-3 c = simp length-set (omega arith)

pub bounds-table-row-4 : goal.bounds-table-row-4
bounds-table-row-4 c = simp length-set (omega arith)

pub returns : goal.returns
returns c = search (written, add_comm)
