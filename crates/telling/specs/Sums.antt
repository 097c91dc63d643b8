-- The sum of what stands after a call.
use Rattle.std.specs.Prelude.{ℕ, ◌+◌, ◌*◌, ◌%◌, ◌++◌}
use Rattle.std.specs.List.{fold}
use Rattle.rules.specs.declared.Lent.{Lent}

-- one word more
abbrev pub add_word : ℕ → ℕ → ℕ
add_word sum w = (sum * 31 + w) % 4294967291

-- the words of the heap, the table and the roots, in their order
abbrev pub sum_of : Lent → ℕ
sum_of lent = fold add_word 1 (lent.heap.now ++ lent.table.now ++ lent.roots.now)
