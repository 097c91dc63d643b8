-- `image::write_image` meets its contract: the first tests, the table past 4R, the length, and then the text.
use Prim.Native.Nat.{◌*◌}
use mathlib.Core.Path.{sym, ap, ◌∙◌}
use native.Mathlib.Omega.{arith}
use lib.ListN.{length}
use lib.Seq.{sets}
use Rattle.std.specs.Prelude.{Err}
use Rattle.std.proofs.lemmas.Result.{err_from_is_err_and}
use Rattle.laws.proofs.Parts.{zeros_rest}
use Rattle.laws.proofs.Turned.{told_true, told_false}
use Rattle.rules.specs.Memory.{store}
use Rattle.rules.specs.Image.{written, refused_text, image_text, write_image}
use Rattle.rules.proofs.Frames.{text_long, text_done}
use Rattle.limits.proofs.First.{refused_first, admitted_first}
use Rattle.image.proofs.write_image.Goals as goal

pub returns-in_err-heap : goal.returns-in_err-heap
unfolding write_image
returns-in_err-heap c =
    let p = err_from_is_err_and c.from_residual.result c.from_residual.ensures.1 in
    rw (p.1, p.2) (refused_first (store c.args.lent) (λ f. written (Err f) c.args.bytes.now) _ c.in_err-heap.ensures)

pub returns-then-not-all_zero : goal.returns-then-not-all_zero
unfolding write_image
returns-then-not-all_zero c =
    let l = c.args.lent in
    let s = store l in
    let z = zeros_rest l.table.now (4 * l.control.regions) ∙ told_false c.all_zero.ensures c.if-not-all_zero.true in
    rw (admitted_first s (refused_text s c.args.bytes.now) _ c.in_ok-heap.ensures.1, z)

pub returns-then-bytes-length : goal.returns-then-bytes-length
unfolding write_image
returns-then-bytes-length c =
    let l = c.args.lent in
    let s = store l in
    let z = zeros_rest l.table.now (4 * l.control.regions) ∙ told_true c.all_zero.ensures c.if-not-all_zero.false in
    let m = c.text_length-length.ensures.0 ∙ ap (λ k. length (image_text (store k))) c.in_ok-heap.ensures.0 in
    rw (admitted_first s (refused_text s c.args.bytes.now) _ c.in_ok-heap.ensures.1, z) (sym (text_long s _ _ m (omega arith)))

pub returns : goal.returns
unfolding write_image
returns c =
    let l = c.args.lent in
    let s = store l in
    let z = zeros_rest l.table.now (4 * l.control.regions) ∙ told_true c.all_zero.ensures c.if-not-all_zero.false in
    let m = c.text_length-length.ensures.0 ∙ ap (λ k. length (image_text (store k))) c.in_ok-heap.ensures.0 in
    let w = c.write_text.ensures ∙ ap (λ k. sets c.args.bytes.now 0 (image_text (store k))) c.in_ok-heap.ensures.0 in
    rw (admitted_first s (refused_text s c.args.bytes.now) _ c.in_ok-heap.ensures.1, z) (sym (text_done s _ _ m _ (omega arith) w))
