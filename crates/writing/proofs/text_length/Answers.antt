-- `writing::text_length` meets its contract: the text is four frames and the pages', and each is short.
use Prim.Native.Nat.{◌^◌}
use native.Mathlib.Nat.{div-le_self}
use native.Mathlib.Omega.{arith}
use lib.ListN.{length}
use Rattle.rules.proofs.Frames.{text_length}
use Rattle.writing.proofs.text_length.Goals as goal

pub returns : goal.returns
returns c =
    let l = c.args.heap.lent in
    let w = text_length l.heap.now l.table.now l.roots.now l.consts.now l.control _ c.page_count-pages.ensures in
    let d = div-le_self (length l.heap.now) (2 ^ l.control.n) in
    (omega arith, omega arith)
