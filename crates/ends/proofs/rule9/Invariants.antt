-- `ends::rule9` meets its contract: what is left to test from the present page on is the whole rule.
use mathlib.Core.Path.{◌≡◌}
use mathlib.Core.Bool.{true, ◌&&◌}
use Prim.Native.Nat.{◌-◌}
use Rattle.laws.specs.Lists.{all}
use Rattle.rules.specs.Memory.{chain}
use Rattle.rules.specs.Audit.{clean}
use Rattle.ends.proofs.rule9.Given as goal

abbrev pub invariant-pages : goal.invariant-pages
invariant-pages l = (all (clean l.n l.heap) (chain (l.pages - l.counter) l.n l.heap l.link) && true) ≡ (all (clean l.n l.heap) (chain l.pages l.n l.heap l.first) && true)
