-- `reading::judge_pages` meets its contract: a turn passes one page's frame, and the frames that are left decide as the whole does.
use Prim.Native.Nat.{◌+◌, ◌-◌, ◌<◌}
use mathlib.Core.Path.{◌≡◌, sym, ◌∙◌}
use native.Mathlib.Omega.{arith}
use Rattle.std.proofs.lemmas.Result.{err_from_is_err_and}
use Rattle.reading.proofs.Lines.{step_far, page_next, page_stop}
use Rattle.reading.proofs.judge_pages.Goals as goal

pub returns-in_err-here : goal.returns-in_err-here
returns-in_err-here c =
    let l : 0 < c.args.pages - c.loop.counter = omega arith in
    let p = err_from_is_err_and c.from_residual.result c.from_residual.ensures.1 in
    rw (p.1, p.2) (sym (page_stop _ _ _ _ l _ c.part_frame.ensures _ c.in_err-here.was) ∙ c.loop.invariant.0)

pub loop-preserved : goal.loop-preserved
loop-preserved c =
    let l : 0 < c.args.pages - c.loop.counter = omega arith in
    let q : c.args.pages - (c.loop.counter + 1) ≡ c.args.pages - c.loop.counter - 1 = omega arith in
    let f = step_far _ _ _ _ _ _ c.in_ok-here.was c.part_frame.ensures in
    (rw q (sym (page_next _ _ _ _ l _ c.part_frame.ensures _ c.in_ok-here.was) ∙ c.loop.invariant.0), omega arith, omega arith)
