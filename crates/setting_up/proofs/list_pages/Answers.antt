-- `setting_up::list_pages` meets its contract. The invariant is `Linked`: the pages below k are linked, and from page k on all words are 0.
use Prim.Native.Nat.{suc, ◌+◌, ◌-◌, ◌*◌, ◌/◌, ◌^◌}
use mathlib.Core.Path.{◌≡◌, sym, ap, ◌∙◌}
use native.Mathlib.Omega.{arith}
use lib.ListN.{length}
use Rattle.rules.proofs.Limits.{whole_pages, two_pages}
use Rattle.rules.proofs.Fresh.{linked_start, linked_more, linked_end}
use Rattle.setting_up.proofs.list_pages.Goals as goal

pub loop-k-init : goal.loop-k-init
loop-k-init c =
    let b = two_pages _ _ c.requires.0 c.requires.1 in
    let all : c.page_count-last.result - 1 - 0 ≡ length c.args.heap.now / 2 ^ c.args.n - 1 = omega arith in
    rw all (linked_start _ _ _ (omega arith) (sym (whole_pages _ _ c.requires.0)) c.requires.2)

pub loop-k-preserved : goal.loop-k-preserved
loop-k-preserved c =
    let fewer : c.page_count-last.result - 1 - (c.loop-k.k + 1) ≡ c.page_count-last.result - 1 - c.loop-k.k - 1 = omega arith in
    let start = c.page_address-start.ensures ∙ ap (λ k. k * 2 ^ c.args.n) c.page_numbered.ensures in
    rw fewer (linked_more _ _ _ _ _ _ _ c.loop-k.invariant (omega (arith, c.loop-k-test.true)) start (c.page_link.ensures ∙ ap suc c.page_numbered-in-loop-k.ensures))

pub returns : goal.returns
returns c = linked_end _ _ _ _ _ c.loop-k.invariant (omega (arith, c.loop-k-test.false))
