-- `limits::common_test` meets its contract: it makes the tests of `common` one by one.
use native.Mathlib.Omega.{arith}
use borrow.Author.Tests.{le-leb, lt-leb}
use Rattle.laws.proofs.Tests.{tests}
use Rattle.rules.specs.Refusals.{common}
use Rattle.limits.proofs.common_test.Goals as goal

pub returns-then-c-gt64 : goal.returns-then-c-gt64
unfolding common
returns-then-c-gt64 c = rw (lt-leb c.args.c.regions 64 (omega arith))

pub returns-then-pages-c : goal.returns-then-pages-c
unfolding common
returns-then-pages-c c = search (← c.page_count-pages.ensures, le-leb c.args.c.regions 64 (omega arith), tests)

pub returns-then-pages-c-2 : goal.returns-then-pages-c-2
unfolding common
returns-then-pages-c-2 c = search (← c.page_count-pages.ensures, le-leb c.args.c.regions 64 (omega arith), tests)

pub returns : goal.returns
unfolding common
returns c = search (← c.page_count-pages.ensures, le-leb c.args.c.regions 64 (omega arith), tests)
