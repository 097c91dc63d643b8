-- `reading::fill_pages` meets its contract: a turn fills the next page, and filling the pages that are left makes the whole.
use Prim.Native.Nat.{◌+◌, ◌-◌, ◌*◌, ◌/◌, ◌^◌, ◌≤◌, ◌<◌}
use mathlib.Core.Path.{◌≡◌, refl, sym, ap, ◌∙◌}
use native.Mathlib.Omega.{arith}
use lib.ListN.{length}
use Rattle.laws.proofs.Writes.{sets_whole}
use Rattle.rules.proofs.Limits.{page_inside, whole_pages}
use Rattle.reading.proofs.Fills.{pages_fill_turn, pages_fill_end, pages_at_length}
use Rattle.reading.proofs.fill_pages.Goals as goal

pub loop-k-preserved : goal.loop-k-preserved
loop-k-preserved c =
    let a = c.args in
    let k = c.loop-k.k in
    let below : k < length a.heap.now / 2 ^ a.n = omega arith in
    let here = page_inside _ _ _ _ refl c.requires.1 below in
    let b : k * 2 ^ a.n + 2 ^ a.n ≤ length c.loop-k.heap = omega (arith, here) in
    let l : 0 < a.pages - k = omega arith in
    let q : a.pages - (k + 1) ≡ a.pages - k - 1 = omega arith in
    let s = c.page_address-start.ensures ∙ ap (λ x. x * 2 ^ a.n) c.page_numbered.ensures in
    let f = c.fill_part-i.ensures in
    (rw q (sym (pages_fill_turn _ _ _ _ _ _ _ _ _ _ s c.page_words-p.ensures b f.0 l f.1) ∙ c.loop-k.invariant.0), omega arith)

pub returns : goal.returns
returns c =
    let a = c.args in
    sym (pages_fill_end a.n c.loop-k.k c.loop-k.heap a.text.now c.loop-k.i (a.pages - c.loop-k.k) (omega arith)) ∙ c.loop-k.invariant.0
    ∙ sets_whole _ _ (pages_at_length _ _ _ _ ∙ ap (λ k. k * 2 ^ a.n) c.requires.2 ∙ whole_pages _ _ c.requires.1)
