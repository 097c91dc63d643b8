-- `ends::rule4` meets its contract: at each level what is left to test, with what the outer level has left, is the whole rule.
use mathlib.Core.Path.{◌≡◌}
use mathlib.Core.Bool.{◌&&◌}
use Prim.Native.Nat.{◌+◌, ◌-◌}
use Rattle.laws.specs.Lists.{all, all_from}
use Rattle.rules.specs.Memory.{chain}
use Rattle.rules.specs.Audit.{ends_at}
use Rattle.ends.proofs.Turns.{region_ends}
use Rattle.ends.proofs.rule4.Given as goal

abbrev pub invariant-pages : goal.invariant-pages
invariant-pages l = (all (ends_at l.n l.heap l.table l.j) (chain (l.pages - l.counter) l.n l.heap l.link) && all_from (region_ends l.n l.heap l.table) (l.regions - l.j - 1) (l.j + 1)) ≡ all_from (region_ends l.n l.heap l.table) l.regions 0

abbrev pub invariant-loop-j : goal.invariant-loop-j
invariant-loop-j l = all_from (region_ends l.n l.heap l.table) (l.regions - l.j) l.j ≡ all_from (region_ends l.n l.heap l.table) l.regions 0
