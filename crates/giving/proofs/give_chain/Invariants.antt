-- `giving::give_chain` meets its contract: the loop goes along the links, and a turn is what `give_back` does.
use Prim.Native.Nat.{◌-◌}
use Rattle.giving.proofs.Going.{Going}
use Rattle.giving.proofs.give_chain.Given as goal

abbrev pub invariant-pages : goal.invariant-pages
invariant-pages l = Going l.pages l.initial.heap l.c l.first l.heap l.free l.link (l.pages - l.counter)
