-- `used::region_used` meets its contract. The invariant: the words counted and those of the pages that are left are the region's, and at most 256
-- were counted for each page passed, so that a sum never wraps.
use mathlib.Core.Path.{◌≡◌}
use Prim.Native.Nat.{◌+◌, ◌-◌, ◌*◌, ◌≤◌}
use Rattle.rules.specs.Memory.{chain}
use Rattle.rules.specs.Audit.{used_on}
use Rattle.used.proofs.region_used.Given as goal

abbrev pub invariant-pages : goal.invariant-pages
invariant-pages l = (l.used + used_on l.n l.heap (chain (l.pages - l.counter) l.n l.heap l.link) ≡ used_on l.n l.heap (chain l.pages l.n l.heap l.initial.link)) × (l.used + 256 * (l.pages - l.counter) ≤ 256 * l.pages)
