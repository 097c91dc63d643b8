-- `image::read_image` meets its contract: the judgement is that of the definition, and a text that is well formed gives what filling leaves.
use mathlib.Core.Path.{sym, ◌∙◌}
use native.Mathlib.Omega.{arith}
use lib.ListN.{length}
use Rattle.std.proofs.lemmas.Result.{err_from_is_err_and}
use Rattle.laws.proofs.Turned.{told_true, told_false}
use Rattle.reading.proofs.Wells.{Well, judged_well, Fit, fit, fit_pages, read_short, read_filled, read_malformed}
use Rattle.image.proofs.read_image.Goals as goal
use Rattle.image.proofs.read_image.Goals.{In_ok-h, Else-not-lengths_fit}

well : (c : In_ok-h) → Well c.args.text.now c.in_ok-h.h
well c = judged_well _ _ (sym c.judge.ensures ∙ c.in_ok-h.was)

room : (c : Else-not-lengths_fit) → Fit c.in_ok-h.h (length c.args.heap.now) (length c.args.table.now) (length c.args.roots.now) (length c.args.consts.now)
room c = fit _ _ _ _ _ (told_true c.lengths_fit.ensures c.if-not-lengths_fit.false)

pub returns-in_err-h : goal.returns-in_err-h
returns-in_err-h c =
    let p = err_from_is_err_and c.from_residual.result c.from_residual.ensures.1 in
    rw (p.1, p.2) (read_malformed _ _ _ _ _ _ (sym c.judge.ensures ∙ c.in_err-h.was))

pub lengths_fit-requires : goal.lengths_fit-requires
lengths_fit-requires c = (well (goal.at.lengths_fit-requires c).In_ok-h).limits.high

pub returns-then-not-lengths_fit : goal.returns-then-not-lengths_fit
returns-then-not-lengths_fit c =
    read_short _ _ (well (goal.at.returns-then-not-lengths_fit c).In_ok-h) _ _ _ _ (told_false c.lengths_fit.ensures c.if-not-lengths_fit.true)

pub fill_part-after_table-requires : goal.fill_part-after_table-requires
fill_part-after_table-requires c =
    let f = room (goal.at.fill_part-after_table-requires c).Else-not-lengths_fit in
    (omega arith, omega (arith, f.table))

pub fill_part-after_roots-requires : goal.fill_part-after_roots-requires
fill_part-after_roots-requires c =
    let f = room (goal.at.fill_part-after_roots-requires c).Else-not-lengths_fit in
    let g = (well (goal.at.fill_part-after_roots-requires c).In_ok-h).limits in
    (omega (arith, c.fill_part-after_table.ensures.2), omega (arith, f.roots, g.roots))

pub fill_part-after_consts-requires : goal.fill_part-after_consts-requires
fill_part-after_consts-requires c =
    let f = room (goal.at.fill_part-after_consts-requires c).Else-not-lengths_fit in
    let g = (well (goal.at.fill_part-after_consts-requires c).In_ok-h).limits in
    (omega (arith, c.fill_part-after_table.ensures.2, c.fill_part-after_roots.ensures.2), omega (arith, f.consts, g.consts))

pub fill_pages-requires : goal.fill_pages-requires
fill_pages-requires c =
    let f = room (goal.at.fill_pages-requires c).Else-not-lengths_fit in
    let g = (well (goal.at.fill_pages-requires c).In_ok-h).limits in
    let p = fit_pages _ _ _ _ _ g f in
    (omega (arith, c.fill_part-after_table.ensures.2, c.fill_part-after_roots.ensures.2, c.fill_part-after_consts.ensures.2), p.0, p.1)

pub returns : goal.returns
returns c =
    let w = well (goal.at.returns c).In_ok-h in
    let fits = told_true c.lengths_fit.ensures c.if-not-lengths_fit.false in
    let t = c.fill_part-after_table.ensures in
    let r = c.fill_part-after_roots.ensures in
    let k = c.fill_part-after_consts.ensures in
    rw c.from.ensures (read_filled _ _ w _ _ _ _ fits _ _ _ _ _ _ _ t.0 t.1 r.0 r.1 k.0 k.1 c.fill_pages.ensures)
