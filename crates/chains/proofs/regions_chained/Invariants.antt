-- `chains::regions_chained` meets its contract. At each level what is left to test, with what the outer level has left, is the whole test, and
-- the pages passed with those that are left are all pages.
use mathlib.Core.Path.{◌≡◌}
use mathlib.Core.Bool.{◌&&◌}
use Prim.Native.Nat.{suc, ◌+◌, ◌-◌}
use lib.Dec.{eqb}
use lib.ListN.{length}
use Rattle.laws.specs.Lists.{all_from}
use Rattle.rules.specs.Memory.{chain, chain_end, pages_from}
use Rattle.chains.specs.Walked.{bear, region_chained}
use Rattle.chains.proofs.regions_chained.Given as goal

abbrev pub invariant-pages : goal.invariant-pages
invariant-pages l = ((bear l.n l.heap (suc l.j) (chain (l.pages - l.counter) l.n l.heap l.link) && (eqb (chain_end (l.pages - l.counter) l.n l.heap l.link) 0 && all_from (region_chained l.n l.heap l.table) (l.regions - l.j - 1) (l.j + 1))) ≡ all_from (region_chained l.n l.heap l.table) l.regions 0) × (l.passed + (length (chain (l.pages - l.counter) l.n l.heap l.link) + length (pages_from l.n l.heap l.table (l.regions - l.j - 1) (l.j + 1))) ≡ length (pages_from l.n l.heap l.table l.regions 0))

abbrev pub invariant-loop-j : goal.invariant-loop-j
invariant-loop-j l = (all_from (region_chained l.n l.heap l.table) (l.regions - l.j) l.j ≡ all_from (region_chained l.n l.heap l.table) l.regions 0) × (l.passed + length (pages_from l.n l.heap l.table (l.regions - l.j) l.j) ≡ length (pages_from l.n l.heap l.table l.regions 0))
