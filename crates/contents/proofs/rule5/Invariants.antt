-- `contents::rule5` meets its contract: at each level what is left to test, with what the outer levels have left, is the whole rule.
use mathlib.Core.Path.{◌≡◌}
use mathlib.Core.Bool.{◌&&◌}
use Prim.Native.Nat.{◌+◌, ◌-◌}
use lib.ListN.{get_or}
use Rattle.laws.specs.Lists.{all, all_from}
use Rattle.rules.specs.Memory.{chain, region_pages}
use Rattle.rules.specs.Audit.{page_filled}
use Rattle.contents.proofs.Turns.{Rest}
use Rattle.contents.proofs.rule5.Given as goal

abbrev pub invariant-values : goal.invariant-values
invariant-values l = Rest l.heap l.at.0 l.end.0 (get_or l.heap l.base.0 0) l.top.0 (all (page_filled l.n l.heap l.table l.j) (chain (l.pages - l.counter - 1) l.n l.heap (get_or l.heap l.base.0 0)) && all_from (λ i. all (page_filled l.n l.heap l.table i) (region_pages l.n l.heap l.table i)) (l.regions - l.j - 1) (l.j + 1)) ≡ all_from (λ i. all (page_filled l.n l.heap l.table i) (region_pages l.n l.heap l.table i)) l.regions 0

abbrev pub decreases-values : goal.decreases-values
decreases-values l = l.end.0 - l.at.0

abbrev pub invariant-pages : goal.invariant-pages
invariant-pages l = (all (page_filled l.n l.heap l.table l.j) (chain (l.pages - l.counter) l.n l.heap l.link) && all_from (λ i. all (page_filled l.n l.heap l.table i) (region_pages l.n l.heap l.table i)) (l.regions - l.j - 1) (l.j + 1)) ≡ all_from (λ i. all (page_filled l.n l.heap l.table i) (region_pages l.n l.heap l.table i)) l.regions 0

abbrev pub invariant-loop-j : goal.invariant-loop-j
invariant-loop-j l = all_from (λ i. all (page_filled l.n l.heap l.table i) (region_pages l.n l.heap l.table i)) (l.regions - l.j) l.j ≡ all_from (λ i. all (page_filled l.n l.heap l.table i) (region_pages l.n l.heap l.table i)) l.regions 0
