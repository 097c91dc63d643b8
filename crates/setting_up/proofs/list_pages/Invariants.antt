-- `setting_up::list_pages` meets its contract. The invariant is `Linked`: the pages below k are linked, and from page k on all words are 0.
use Prim.Native.Nat.{◌/◌, ◌^◌, ◌-◌}
use lib.ListN.{length}
use Rattle.rules.proofs.Fresh.{Linked}
use Rattle.setting_up.proofs.list_pages.Given as goal

abbrev pub invariant-loop-k : goal.invariant-loop-k
invariant-loop-k l = Linked l.n (length l.initial.heap / 2 ^ l.n) l.k (l.last - l.k) l.heap
