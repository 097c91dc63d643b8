-- `telling::lent::sum` adds the words in their order, and a sum that is taken modulo 2^32-5 fits after it is multiplied.
use Rattle.std.proofs.Common.{◌<◌, ◌≡◌}
use Rattle.std.specs.List.{fold}
use Rattle.telling.specs.Sums.{add_word}
use Rattle.telling.proofs.lent.sum.Given as goal

abbrev pub invariant-loop-w : goal.invariant-loop-w
invariant-loop-w l = (l.sum < 4294967291) × (l.sum ≡ fold (λ sum w. add_word sum w.now) 1 l.yielded)
