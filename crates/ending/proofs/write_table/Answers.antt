-- `ending::write_table` meets its contract: the first words are the notes', and the others are as they were.
use Prim.Native.Nat.{ℕ, ◌≤◌}
use native.Mathlib.Nat.{zero-add}
use mathlib.Core.Path.{◌≡◌}
use mathlib.Core.List.{List, ◌++◌}
use lib.ListN.{length, take, drop}
use lib.Seq.{length-take-le}
use Rattle.laws.specs.Lists.{put}
use Rattle.ending.proofs.write_table.Goals as goal

front : (d s ws : List ℕ) (m : ℕ) → m ≤ length s → ws ≡ take m s → ws ++ drop m d ≡ put d 0 (take m s)
unfolding put
front d s ws m b e = rw (e, zero-add, length-take-le m s b)

pub returns : goal.returns
returns c = front c.args.table.now _ _ _ c.requires.2 c.copy_from_slice.ensures.after
