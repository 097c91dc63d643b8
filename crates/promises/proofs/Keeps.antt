-- Every call keeps a heap that passes passing, so any run of calls from a fresh heap passes. `Sound` is what passing means, each call keeps it,
-- and a refused call changes nothing.
use Rattle.std.specs.Prelude.{Ok}
use Prim.Native.Nat.{ℕ}
use mathlib.Core.Path.{◌≡◌, ◌∙◌}
use mathlib.Core.Bool.{true, false≢true}
use mathlib.Core.List.{List, [], ◌∷◌}
use borrow.Author.Tests.{not-false}
use Rattle.rules.specs.declared.Control.{Control}
use Rattle.rules.specs.Memory.{Store, lent, control, page_count}
use Rattle.rules.specs.Audit.{rule8}
use Rattle.rules.specs.Refusals.{refused}
use Rattle.rules.specs.Calls.{set_up}
use Rattle.rules.specs.Collection.{collected, collect}
use Rattle.facts.proofs.Means.{constants_of}
use Rattle.rules.proofs.Judged.{Passes, passed}
use Rattle.facts.proofs.Passing.{meaning}
use Rattle.facts.proofs.Sound.{Sound}
use Rattle.working.proofs.Running.{Collects, runs_dry, runs_through, collects}
use Rattle.working.proofs.Ending.{left_sound}
use Rattle.working.proofs.Collecting.{ran_leaves}
use Rattle.rules.specs.Left.{record_opened, left_plain, left_opened}
use Rattle.rules.specs.Runs.{Call, a_push, a_pop, a_collect, an_audit, a_due, an_allocate, a_fetch, a_fetch_refusal, an_assign, a_set_root, a_set_up, a_walk, a_used_words, a_page, a_page_refusal, a_word_of_number, a_number_of_word, a_write_image, after, run, fresh}
use Rattle.promises.proofs.Ordered.{lawful_keeps}
use Rattle.promises.proofs.Outcomes.{set_up_lawful}
use Rattle.promises.proofs.KeepsFields.{set_root_keeps, assign_keeps}
use Rattle.promises.proofs.KeepsPush.{push_keeps}
use Rattle.promises.proofs.KeepsAllocate.{allocate_keeps}
use Rattle.promises.proofs.KeepsPop.{pop_keeps}
use Rattle.promises.proofs.KeepsSetUp.{set_up_sound}

-- ---- setting up

pub set_up_passes : (n : ℕ) (heap table roots consts : List ℕ) (c : Control) → rule8 (lent heap table roots consts c) ≡ true
    → (set_up n heap table roots consts).answer ≡ Ok c → Passes (fresh n heap table roots consts c)
unfolding set_up
set_up_passes n heap table roots consts c t =
    lawful_keeps (λ o. o.answer ≡ Ok c → Passes (left_opened o c)) (set_up_lawful n heap table roots consts) (λ r e. absurd (false≢true cc))
    (λ q.
    rw q
    (λ e.
    let x : control n 0 1 (page_count n heap) (page_count n heap) ≡ c = cc in
    rw (← x) ((meaning _).1 (set_up_sound n (lent heap table roots consts c) (not-false _ q) (constants_of (lent heap table roots consts c) t)))))

-- setting up again is done, on the constants of a sound heap, or refused
pub set_up_keeps : (n : ℕ) (s : Store) → Sound s → Sound (after (a_set_up n) s)
unfolding set_up
set_up_keeps n s S =
    lawful_keeps (λ o. Sound (left_opened o (record_opened s.ctl o.answer))) (set_up_lawful n s.heap s.table s.roots s.consts) (λ r. S)
    (λ q. rw q (set_up_sound n s (not-false _ q) S.consts))

-- ---- each call

-- a collection is done and leaves a sound heap, or is refused
pub collect_keeps : (s : Store) → Sound s → Sound (left_plain (collect s))
unfolding collect
collect_keeps s S = rw (passed s ((meaning s).1 S) (refused s) (collected s)) (go (collects s S))
  where
    go : Collects s S → Sound (left_plain (collected s))
    go (runs_dry e R) = rw e S
    go (runs_through roots r e A) = rw (e ∙ ran_leaves A) (left_sound A)

pub call_keeps : (c : Call) (s : Store) → Sound s → Sound (after c s)
call_keeps a_push s S = push_keeps s S
call_keeps a_pop s S = pop_keeps s S
call_keeps a_collect s S = collect_keeps s S
call_keeps (an_allocate j kind ws) s S = allocate_keeps s j kind ws S
call_keeps (an_assign w i x) s S = assign_keeps s w i x S
call_keeps (a_set_root i w) s S = set_root_keeps s i w S
call_keeps (a_set_up n) s S = set_up_keeps n s S
call_keeps an_audit s S = S
call_keeps a_due s S = S
call_keeps (a_fetch w) s S = S
call_keeps (a_fetch_refusal w) s S = S
call_keeps (a_walk i path) s S = S
call_keeps (a_used_words j) s S = S
call_keeps (a_page k) s S = S
call_keeps (a_page_refusal k) s S = S
call_keeps (a_word_of_number i) s S = S
call_keeps (a_number_of_word w) s S = S
call_keeps (a_write_image bytes) s S = S

pub run_keeps : (cs : List Call) (s : Store) → Sound s → Sound (run cs s)
unfolding run
run_keeps [] s S = S
run_keeps (c ∷ cs) s S = run_keeps cs (after c s) (call_keeps c s S)

-- ---- in the audit's words

pub run_passes : (cs : List Call) (s : Store) → Passes s → Passes (run cs s)
run_passes cs s p = (meaning (run cs s)).1 (run_keeps cs s ((meaning s).0 p))

-- from a fresh heap whose constants keep rule 8, every run of calls passes
pub fresh_run_passes : (n : ℕ) (heap table roots consts : List ℕ) (c : Control) → rule8 (lent heap table roots consts c) ≡ true
    → (set_up n heap table roots consts).answer ≡ Ok c → (cs : List Call) → Passes (run cs (fresh n heap table roots consts c))
fresh_run_passes n heap table roots consts c t e cs = run_passes cs (fresh n heap table roots consts c) (set_up_passes n heap table roots consts c t e)
