-- Demand 3 holds: a run on a sound heap lacks a page or ends with each reached value copied once, in its region and with its words; and each
-- call keeps a heap sound.
use Prim.Native.Nat.{ℕ}
use mathlib.Core.Path.{sym, ◌∙◌}
use mathlib.Core.Logic.{inl, inr}
use mathlib.Core.List.{List}
use Rattle.laws.proofs.Once.{once_nodup}
use Rattle.laws.proofs.Sums.{sum_over_lem}
use Rattle.rules.specs.Memory.{Store}
use Rattle.rules.specs.Pages.{Run}
use Rattle.rules.proofs.Seen.{reading_tells}
use Rattle.facts.proofs.Sound.{Sound}
use Rattle.rules.proofs.Judged.{audit_yes, judged_collects}
use Rattle.facts.proofs.Passing.{meaning, judged_sound}
use Rattle.working.proofs.Running.{Ran, runs_dry, runs_through, collects}
use Rattle.working.proofs.Ending.{left_store}
use Rattle.working.proofs.Collecting.{live as live_values, live_once, live_exactly, left_counts, never_more as no_more, left_reads, left_meets, ran_leaves}
use Rattle.promises.proofs.Keeps.{collect_keeps, fresh_run_passes}
use Rattle.promises.proofs.Demand3.{Finished, Demand3}

-- what a run that is done leaves
finished : (s : Store) (S : Sound s) (roots : List ℕ) (r : Run) (A : Ran s S roots r) → Finished s (left_store A)
finished s S roots r A = record {
  reads = left_reads A;
  meets = left_meets A;
  live = live_values A;
  once = once_nodup (live_once A);
  exactly = live_exactly A;
  counts = λ j b. rw sum_over_lem at (left_counts A j b);
  never_more = no_more A;
}

pub demand3 : Demand3
demand3 = record {
  collection = λ s e.
      let S = judged_sound s s.ctl (sym e) in
      let is = judged_collects s (sym e) in
      elim (collects s S) [
        | runs_dry q R ↦ inl (is ∙ q)
        | runs_through roots r q A ↦ inr (left_store A, is ∙ q ∙ ran_leaves A, finished s S roots r A)
      ];
  passes = λ s e. (audit_yes _).1 ((meaning _).1 (collect_keeps s (judged_sound s s.ctl (sym e))));
  reading = reading_tells;
  any_run = λ n heap table roots consts c t e calls. (audit_yes _).1 (fresh_run_passes n heap table roots consts c t e calls);
}
