-- What recipes say of the parts that calls are lent.
use Rattle.std.specs.Prelude.{ℕ, List, [], ◌∷◌, length}
use Rattle.recipes.specs.declared.heaps.Parts.{Parts}

-- how many words each part has
abbrev pub lengths : Parts → List ℕ
lengths p = length p.heap.now ∷ length p.table.now ∷ length p.roots.now ∷ length p.consts.now ∷ []
