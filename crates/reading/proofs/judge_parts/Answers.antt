-- `reading::judge_parts` meets its contract: each frame is judged where the last one ends, and the pages follow.
use Prim.Native.Nat.{◌^◌}
use mathlib.Core.Path.{sym, ◌∙◌}
use native.Mathlib.Omega.{arith}
use Rattle.std.proofs.lemmas.Result.{err_from_is_err_and}
use Rattle.rules.specs.Image.{layout}
use Rattle.rules.proofs.FirstFrame.{limited, pages_limited}
use Rattle.reading.proofs.Lines.{step_far, rest_next, rest_stop, page_sized}
use Rattle.reading.proofs.judge_parts.Goals as goal

pub part_frame-requires-2 : goal.part_frame-requires-2
part_frame-requires-2 c = let f = step_far _ _ _ _ _ _ c.in_ok-roots.was c.part_frame.ensures in (omega arith, omega arith)

pub part_frame-requires-3 : goal.part_frame-requires-3
part_frame-requires-3 c =
    let f = step_far _ _ _ _ _ _ c.in_ok-roots.was c.part_frame.ensures in
    let g = step_far _ _ _ _ _ _ c.in_ok-consts.was c.part_frame-2.ensures in
    (omega arith, omega arith)

pub page_words-requires : goal.page_words-requires
page_words-requires c = let g = limited _ c.requires in (g.low, g.high)

pub judge_pages-requires : goal.judge_pages-requires
judge_pages-requires c =
    let f = step_far _ _ _ _ _ _ c.in_ok-roots.was c.part_frame.ensures in
    let g = step_far _ _ _ _ _ _ c.in_ok-consts.was c.part_frame-2.ensures in
    let h = step_far _ _ _ _ _ _ c.in_ok-first.was c.part_frame-3.ensures in
    (omega arith, omega arith, pages_limited _ (limited _ c.requires))

pub returns-in_err-roots : goal.returns-in_err-roots
unfolding layout
returns-in_err-roots c =
    let p = err_from_is_err_and c.from_residual.result c.from_residual.ensures.1 in
    rw (p.1, p.2) (sym (rest_stop _ _ _ _ _ _ c.part_frame.ensures _ c.in_err-roots.was))

pub returns-in_err-consts : goal.returns-in_err-consts
unfolding layout
returns-in_err-consts c =
    let p = err_from_is_err_and c.from_residual-in_err-consts.result c.from_residual-in_err-consts.ensures.1 in
    let table = rest_next _ _ _ _ _ _ c.part_frame.ensures _ c.in_ok-roots.was in
    rw (p.1, p.2) (sym (table ∙ rest_stop _ _ _ _ _ _ c.part_frame-2.ensures _ c.in_err-consts.was))

pub returns-in_err-first : goal.returns-in_err-first
unfolding layout
returns-in_err-first c =
    let p = err_from_is_err_and c.from_residual-in_err-first.result c.from_residual-in_err-first.ensures.1 in
    let table = rest_next _ _ _ _ _ _ c.part_frame.ensures _ c.in_ok-roots.was in
    let roots = rest_next _ _ _ _ _ _ c.part_frame-2.ensures _ c.in_ok-consts.was in
    rw (p.1, p.2) (sym (table ∙ roots ∙ rest_stop _ _ _ _ _ _ c.part_frame-3.ensures _ c.in_err-first.was))

pub returns : goal.returns
unfolding layout
returns c =
    let table = rest_next _ _ _ _ _ _ c.part_frame.ensures _ c.in_ok-roots.was in
    let roots = rest_next _ _ _ _ _ _ c.part_frame-2.ensures _ c.in_ok-consts.was in
    let consts = rest_next _ _ _ _ _ _ c.part_frame-3.ensures _ c.in_ok-first.was in
    page_sized _ _ c.args.h.pages (2 ^ c.args.h.n) _ _ c.page_words.ensures c.judge_pages.ensures ∙ sym (table ∙ roots ∙ consts)
