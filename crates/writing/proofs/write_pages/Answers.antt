-- `writing::write_pages` meets its contract: a turn writes the next page's frame, and writing the frames that are left makes the whole.
use Prim.Native.Nat.{◌-◌, ◌<◌}
use mathlib.Core.Path.{ap, ◌∙◌}
use native.Mathlib.Omega.{arith}
use Rattle.rules.specs.Memory.{page_words}
use Rattle.rules.proofs.Frames.{pages_room}
use Rattle.writing.proofs.write_pages.Goals as goal

pub write_part-i-requires : goal.write_part-i-requires
write_part-i-requires c =
    let a = c.args in
    let l : 0 < a.pages - c.loop-k.k = omega arith in
    let e = c.page_part.ensures.0 ∙ ap (page_words a.n a.heap.now) c.page_numbered.ensures in
    (omega arith, omega (arith, pages_room a.n a.heap.now (a.pages - c.loop-k.k) c.loop-k.k _ l e))
