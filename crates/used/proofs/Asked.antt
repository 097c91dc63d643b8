-- What the audit's answer says of the used words: where it refuses, the call refuses with the same; where it passes, the call is the test of the
-- region's number and the count.
use Rattle.std.specs.Prelude.{Ok, Err}
use Prim.Native.Nat.{ℕ, ◌≤◌, ◌<◌}
use mathlib.Core.Path.{◌≡◌, ap}
use borrow.Author.Tests.{le-leb, lt-leb}
use lib.ListN.{length}
use Rattle.rules.specs.declared.Control.{Control}
use Rattle.rules.specs.declared.Refusal.{Refusal}
use Rattle.rules.specs.declared.Refused.{Refused}
use Rattle.rules.specs.Memory.{Store}
use Rattle.rules.specs.Refusals.{Paged}
use Rattle.rules.specs.Audit.{used_by}
use Rattle.rules.specs.Calls.{audit, used_words}
use Rattle.rules.proofs.Judged.{passed_admitted, judged_refuse, judged_yes}

pub used_broken : (s : Store) (j : ℕ) (f : Refused) → Err f ≡ audit s → Err f ≡ used_words s j
unfolding used_words
used_broken s j f e = judged_refuse Err _ s e

module _ (s : Store) (c : Control) (e : Ok c ≡ audit s) where
  pub used_within : (Paged s.ctl.n (length s.heap)) × (length s.table ≡ 256) × (s.ctl.regions ≤ 64)
  used_within = let a = passed_admitted s (judged_yes s e) in (a.paged, a.table, a.regions)

  pub used_no_region : (j : ℕ) → s.ctl.regions ≤ j → Err (record { why = Refusal.NoRegion; control = s.ctl }) ≡ used_words s j
  unfolding used_words
  used_no_region j l = let y = judged_yes s e in rw (y.limits, y.common, y.unbroken, le-leb s.ctl.regions j l)

  pub used_counted : (j u : ℕ) → j < s.ctl.regions → u ≡ used_by s.ctl.n s.heap s.table j → Ok (u, s.ctl) ≡ used_words s j
  unfolding used_words
  used_counted j u l q = let y = judged_yes s e in rw (y.limits, y.common, y.unbroken, lt-leb s.ctl.regions j l) (ap (λ x. Ok (x, s.ctl)) q)
