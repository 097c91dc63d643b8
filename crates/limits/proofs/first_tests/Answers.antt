-- `limits::first_tests` meets its contract: the limits first, and once they hold, n is small enough for the common test.
use Rattle.laws.proofs.Turned.{told_true}
use Rattle.rules.proofs.Limits.{within}
use Rattle.limits.specs.First.{first_tests}
use Rattle.limits.proofs.first_tests.Goals as goal

pub returns-then-not-within_limits : goal.returns-then-not-within_limits
unfolding first_tests
returns-then-not-within_limits c = rw (← c.within_limits.ensures, c.if-not-within_limits.true)

pub common_test-requires : goal.common_test-requires
common_test-requires c = (within _ _ _ _ _ (told_true c.within_limits.ensures c.if-not-within_limits.false)).paged.high

pub returns-then-not-common_test : goal.returns-then-not-common_test
unfolding first_tests
returns-then-not-common_test c = rw (← c.within_limits.ensures, c.if-not-within_limits.false, ← c.common_test.ensures, c.if-not-common_test.true)

pub returns : goal.returns
unfolding first_tests
returns c = rw (← c.within_limits.ensures, c.if-not-within_limits.false, ← c.common_test.ensures, c.if-not-common_test.false)
