-- What an allocation has tested, as facts: the tests of `row_fits` one by one. Each fact is one of the tests that it joins.
use Prim.Native.Nat.{ℕ, ◌+◌, ◌%◌, ◌^◌, ◌≤◌, ◌<◌}
use mathlib.Core.Path.{◌≡◌}
use mathlib.Core.Bool.{true}
use mathlib.Core.List.{List}
use borrow.Author.Tests.{leb-true}
use lib.ListN.{length}
use lib.Dec.{eqb}
use Rattle.laws.proofs.Tests.{both}
use Rattle.rules.specs.declared.Control.{Control}
use Rattle.rules.specs.Memory.{end_of, top_of}
use Rattle.rules.specs.Audit.{top_fits}
use Rattle.rules.specs.Calls.{row_fits}
use Rattle.rules.specs.Refusals.{Admitted}
use Rattle.placing.specs.Placing.{Fit}

top_facts : (n : ℕ) (table : List ℕ) (j : ℕ) → top_fits n table j ≡ true → (end_of table j + 2 ≤ top_of table j + 2 ^ n) × (top_of table j ≤ end_of table j)
unfolding top_fits
top_facts n table j t = let (f, g) = both t in (leb-true _ _ f, leb-true _ _ g)

pub fitted : (heap table : List ℕ) (r k : ℕ) (c : Control) (j l : ℕ) → Admitted (length heap) (length table) r k c → j < 64
    → row_fits c.n heap table j ≡ true → l + 3 ≤ 2 ^ c.n → Fit heap table c j l
unfolding row_fits
fitted heap table r k c j l a b t s =
    let (t3, f) = both t in
    let (t2, e) = both t3 in
    let (whole, p) = both {a = eqb (end_of table j % 2 ^ c.n) 0} t2 in
    let (low, top) = top_facts c.n table j f in
    record {
      paged = a.paged;
      rows = a.table;
      region = b;
      first = a.first;
      some_page = a.some_page;
      page = leb-true _ _ p;
      end = leb-true _ _ e;
      low = low;
      top = top;
      short = s;
    }
