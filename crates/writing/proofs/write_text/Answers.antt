-- `writing::write_text` meets its contract: each frame begins where the last one ends, and the last ends where the text does.
use Prim.Native.Nat.{◌+◌, ◌-◌, ◌*◌}
use mathlib.Core.Path.{◌≡◌, ap}
use native.Mathlib.Nat.{sub-zero}
use native.Mathlib.Omega.{arith}
use lib.ListN.{length, take}
use Rattle.rules.specs.Memory.{store}
use Rattle.rules.specs.Image.{trim, page_frames, image_text}
use Rattle.rules.proofs.Frames.{text_length, image_sets}
use Rattle.writing.proofs.write_text.Goals as goal
use Rattle.writing.proofs.write_text.Goals.{After-page_count-pages}

-- how long the text is, by the parts that are written
whole : (c : After-page_count-pages)
    → length (image_text (store c.args.heap.lent))
    ≡ 71 + (7 + 8 * length (trim (take (4 * c.args.heap.lent.control.regions - 0) c.args.heap.lent.table.now))) + (7 + 8 * length (trim c.args.heap.lent.roots.now))
    + (7 + 8 * length (trim c.args.heap.lent.consts.now)) + length (page_frames c.args.heap.lent.control.n c.args.heap.lent.heap.now c.page_count-pages.result 0)
whole c = let l = c.args.heap.lent in text_length l.heap.now l.table.now l.roots.now l.consts.now l.control _ c.page_count-pages.ensures

pub write_frame-requires : goal.write_frame-requires
write_frame-requires c = let w = whole (goal.at.write_frame-requires c).After-page_count-pages in (omega arith, omega arith)

pub write_part-after_table-requires : goal.write_part-after_table-requires
write_part-after_table-requires c = let w = whole (goal.at.write_part-after_table-requires c).After-page_count-pages in (omega arith, omega arith)

pub write_part-after_roots-requires : goal.write_part-after_roots-requires
write_part-after_roots-requires c = let w = whole (goal.at.write_part-after_roots-requires c).After-page_count-pages in (omega arith, omega arith)

pub write_part-after_consts-requires : goal.write_part-after_consts-requires
write_part-after_consts-requires c = let w = whole (goal.at.write_part-after_consts-requires c).After-page_count-pages in (omega arith, omega arith)

pub write_pages-requires : goal.write_pages-requires
write_pages-requires c =
    let w = whole (goal.at.write_pages-requires c).After-page_count-pages in
    (c.args.heap.fits.paged, c.page_count-pages.ensures, omega arith)

pub returns : goal.returns
returns c =
    let l = c.args.heap.lent in
    image_sets (store l) _ _ _ _ _ _ _ _ _ _ _ c.page_count-pages.ensures
    (ap (λ k. take k l.table.now) (sub-zero (4 * l.control.regions))) c.write_frame.ensures c.write_part-after_table.ensures
    c.write_part-after_roots.ensures c.write_part-after_consts.ensures c.write_pages.ensures
