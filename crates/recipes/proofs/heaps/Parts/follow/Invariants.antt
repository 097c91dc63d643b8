-- `recipes::heaps::Parts::follow`: a step keeps the length of each part, and so do all of them.
use Rattle.std.proofs.Common.{◌≡◌}
use Rattle.recipes.specs.Heaps.{lengths}
use Rattle.recipes.proofs.heaps.Parts.follow.Given as goal

abbrev pub invariant-loop-step : goal.invariant-loop-step
invariant-loop-step l = lengths l.self ≡ lengths l.initial.self
