-- `giving::give_chain` meets its contract: the loop goes along the links, and a turn is what `give_back` does.
use mathlib.Core.Path.{◌≡◌, ap}
use Prim.Native.Nat.{◌+◌, ◌-◌}
use native.Mathlib.Omega.{arith}
use Rattle.laws.specs.Lists.{at}
use Rattle.rules.proofs.Limits.{page_here, pages_few}
use Rattle.giving.proofs.Going.{begins, goes_free, goes_on, ends_none, ends_far, ends_out}
use Rattle.giving.proofs.give_chain.Goals as goal

pub page_count-pages-requires : goal.page_count-pages-requires
page_count-pages-requires c = c.requires.paged.high

pub overflow_cast-pages : goal.overflow_cast-pages
overflow_cast-pages c = let b = pages_few _ _ _ c.requires.paged c.page_count-pages.ensures in omega arith

pub pages-init : goal.pages-init
pages-init c =
    let q : c.page_count-pages.result - 0 ≡ c.page_count-pages.result = omega arith in
    rw q (begins _ _ _ _ c.page_count-pages.ensures c.requires)

pub returns-then-link-eq0 : goal.returns-then-link-eq0
returns-then-link-eq0 c = rw (← c.page_count-pages.ensures) (ends_none _ _ _ _ _ _ _ _ c.pages.invariant c.if-link-eq0.true)

pub returns-then-pages-link : goal.returns-then-pages-link
returns-then-pages-link c = rw (← c.page_count-pages.ensures) (ends_far _ _ _ _ _ _ _ _ c.pages.invariant c.if-pages-link.true)

pub link_address-start-requires : goal.link_address-start-requires
link_address-start-requires c = let b = pages_few _ _ _ c.requires.paged c.page_count-pages.ensures in (omega arith, omega arith, c.requires.paged.high)

pub offset_bounds-heap-i : goal.offset_bounds-heap-i
offset_bounds-heap-i c = let i = page_here _ _ _ _ _ c.requires.paged c.page_count-pages.ensures c.link_address-start.ensures c.if-link-eq0.false c.if-pages-link.false in let e = c.pages.invariant.long in omega arith

pub bounds-heap-i : goal.bounds-heap-i
bounds-heap-i c = let i = page_here _ _ _ _ _ c.requires.paged c.page_count-pages.ensures c.link_address-start.ensures c.if-link-eq0.false c.if-pages-link.false in let e = c.pages.invariant.long in omega arith

pub give_back-free-requires : goal.give_back-free-requires
give_back-free-requires c = goes_free _ _ _ _ _ _ _ _ c.pages.invariant _ c.requires.paged c.page_count-pages.ensures (omega arith) c.if-link-eq0.false c.if-pages-link.false c.link_page-k.ensures

pub pages-preserved : goal.pages-preserved
pages-preserved c =
    let q : c.page_count-pages.result - (c.pages.counter + 1) ≡ c.page_count-pages.result - c.pages.counter - 1 = omega arith in
    rw q (goes_on _ _ _ _ _ _ _ _ c.pages.invariant _ _ _ _ (omega arith) c.if-link-eq0.false c.if-pages-link.false c.link_page-k.ensures (ap (at c.pages.heap) c.link_address-start.ensures) c.give_back-free.ensures c.give_back-free.auto.heap)

pub returns-after-pages : goal.returns-after-pages
returns-after-pages c = rw (← c.page_count-pages.ensures) (ends_out _ _ _ _ _ _ _ _ c.pages.invariant (omega arith))
