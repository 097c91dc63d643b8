-- `recipes::heaps::Parts::push`: a push keeps the length of each part, and so do as many as there are.
use Rattle.std.proofs.Common.{◌≡◌}
use Rattle.recipes.specs.Heaps.{lengths}
use Rattle.recipes.proofs.heaps.Parts.push.Given as goal

abbrev pub invariant-loop : goal.invariant-loop
invariant-loop l = lengths l.self ≡ lengths l.initial.self
