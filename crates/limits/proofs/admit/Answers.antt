-- `limits::admit` meets its contract: what passes the tests is within the limits, and they are the tests of the store that is lent.
use Rattle.limits.proofs.First.{tests_admit}
use Rattle.limits.proofs.admit.Goals as goal

pub invariant_of-result : goal.invariant_of-result
invariant_of-result c = record { fits = tests_admit _ _ _ _ _ c.first_tests.ensures c.in_ok-first_tests.was }
