-- `chains::free_listed` meets its contract: what is left to test is the whole test, the pages passed with those that are left are all of them, and
-- the last link of those that are left is the last link.
use mathlib.Core.Path.{◌≡◌}
use mathlib.Core.Bool.{true, ◌&&◌}
use Prim.Native.Nat.{◌+◌, ◌-◌}
use lib.Dec.{eqb}
use lib.ListN.{length}
use Rattle.rules.specs.Memory.{chain, chain_end, free_pages}
use Rattle.rules.specs.Audit.{ends_well, last_link}
use Rattle.chains.specs.Walked.{bear}
use Rattle.chains.proofs.Turns.{last_by}
use Rattle.chains.proofs.free_listed.Given as goal

abbrev pub invariant-pages : goal.invariant-pages
invariant-pages l = ((bear l.n l.heap 0 (chain (l.pages - l.counter) l.n l.heap l.link) && (eqb (chain_end (l.pages - l.counter) l.n l.heap l.link) 0 && true)) ≡ (bear l.n l.heap 0 (free_pages l.n l.heap l.first) && ends_well l.n l.heap l.first)) × (l.passed + (length (chain (l.pages - l.counter) l.n l.heap l.link) + 0) ≡ length (free_pages l.n l.heap l.first)) × (last_by l.last (chain (l.pages - l.counter) l.n l.heap l.link) ≡ last_link (free_pages l.n l.heap l.first))
