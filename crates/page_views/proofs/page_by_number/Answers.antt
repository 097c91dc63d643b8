-- `page_views::page_by_number` meets its contract: after the tests the page lies inside the heap, and its own words are handed back.
use Prim.Native.Nat.{◌≤◌, ◌<◌}
use mathlib.Core.List.{[]}
use borrow.Author.Tests.{le-leb, lt-leb}
use Rattle.rules.specs.Calls.{page_by_number}
use Rattle.rules.specs.Memory.{store}
use Rattle.limits.proofs.First.{refused_first, admitted_first}
use Rattle.laws.proofs.Turned.{turned}
use Rattle.page_views.proofs.page_by_number.Goals as goal

pub returns-in_default : goal.returns-in_default
unfolding page_by_number
returns-in_default c = refused_first (store c.args.lent) (λ e. []) _ c.in_default.ensures

pub returns-then-pages-k : goal.returns-then-pages-k
unfolding page_by_number
returns-then-pages-k c =
    let none : c.page_count-pages.result ≤ c.args.k.0 = search turned in
    rw (admitted_first (store c.args.lent) _ _ c.in-Ok.ensures.1, ← c.page_count-pages.ensures, le-leb _ _ none)

pub returns : goal.returns
unfolding page_by_number
returns c =
    let below : c.args.k.0 < c.page_count-pages.result = search turned in
    rw (admitted_first (store c.args.lent) _ _ c.in-Ok.ensures.1, ← c.page_count-pages.ensures, lt-leb _ _ below) (search c.page_part.ensures)
