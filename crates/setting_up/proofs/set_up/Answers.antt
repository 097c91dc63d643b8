-- `setting_up::set_up` meets its contract: within the limits the cleared heap is one that `list_pages` can list, and the last page has number N - 1.
use Prim.Native.Nat.{suc, ◌-◌, ◌/◌, ◌^◌}
use mathlib.Core.Path.{◌≡◌, sym, ap, ◌∙◌}
use native.Mathlib.Omega.{arith}
use lib.Pow.{shr_le}
use lib.ListN.{length, replicate}
use Rattle.laws.proofs.Turned.{told_true}
use Rattle.rules.specs.Calls.{set_up}
use Rattle.rules.proofs.Limits.{Within, within, two_pages}
use Rattle.setting_up.proofs.set_up.Goals as goal
use Rattle.setting_up.proofs.set_up.Goals.{Else-not-within_limits}

pub returns-then-not-within_limits : goal.returns-then-not-within_limits
unfolding set_up
returns-then-not-within_limits c = rw (← c.within_limits.ensures, c.if-not-within_limits.true)

inside : (c : Else-not-within_limits) → Within c.args.n (length c.args.heap.now) (length c.args.table.now) (length c.args.roots.now) (length c.args.consts.now)
inside c = within _ _ _ _ _ (told_true c.within_limits.ensures c.if-not-within_limits.false)

pub page_count-pages-requires : goal.page_count-pages-requires
page_count-pages-requires c = (inside (goal.at.page_count-pages-requires c).Else-not-within_limits).paged.high

pub list_pages-requires : goal.list_pages-requires
list_pages-requires c =
    let q = c.clear.auto.part in
    (rw q (inside (goal.at.list_pages-requires c).Else-not-within_limits).paged, rw q (inside (goal.at.list_pages-requires c).Else-not-within_limits).two, c.clear.ensures ∙ ap (λ m. replicate m 0) (sym q))

pub overflow_sub-pages : goal.overflow_sub-pages
overflow_sub-pages c = let b = two_pages _ _ (inside (goal.at.overflow_sub-pages c).Else-not-within_limits).paged (inside (goal.at.overflow_sub-pages c).Else-not-within_limits).two in omega (arith, c.page_count-pages.ensures)

pub page_link-last-requires : goal.page_link-last-requires
page_link-last-requires c = omega (arith, c.page_numbered.ensures, c.page_count-pages.ensures, shr_le (length c.args.heap.now) c.args.n, (inside (goal.at.page_link-last-requires c).Else-not-within_limits).paged.size)

pub returns : goal.returns
unfolding set_up
returns c =
    let b = two_pages _ _ (inside (goal.at.returns c).Else-not-within_limits).paged (inside (goal.at.returns c).Else-not-within_limits).two in
    let n : suc (length c.args.heap.now / 2 ^ c.args.n - 1) ≡ length c.args.heap.now / 2 ^ c.args.n = omega arith in
    rw (← c.within_limits.ensures, c.if-not-within_limits.false, c.list_pages.ensures, c.clear.auto.part, c.clear-2.ensures, c.fill.ensures.after (λ y e. e), c.page_link-last.ensures, c.page_numbered.ensures, c.page_link.ensures, c.page_numbered-2.ensures, c.page_count-pages.ensures, n)
