-- The collection at work and the plain one end alike, whichever way steps 1 to 3 went: done, or undone for want of a page.
use Prim.Native.Nat.{ℕ, ◌*◌}
use mathlib.Core.Path.{◌≡◌, sym, ◌∙◌}
use mathlib.Core.Bool.{Bool, true, false}
use mathlib.Core.List.{List}
use lib.ListN.{length}
use Rattle.laws.specs.Each.{After}
use Rattle.rules.specs.declared.Refusal.{Refusal}
use Rattle.rules.specs.Memory.{Store}
use Rattle.rules.specs.Refusals.{refused}
use Rattle.rules.specs.Pages.{Run}
use Rattle.rules.specs.Collection.{finished, ending, collected}
use Rattle.facts.proofs.Sound.{Sound}
use Rattle.working.proofs.Running.{Ran}
use Rattle.motion.specs.Leaves.{Desk, desk, begun_notes}
use Rattle.motion.specs.Whole.{attempt, ended, working_collect}
use Rattle.agreement.proofs.Matching.{Matching}
use Rattle.agreement.proofs.Together.{Together, both_lack, both_go}
use Rattle.agreement.proofs.Rooted.{roots_written}
use Rattle.agreement.proofs.Undone.{lacking_is}
use Rattle.agreement.proofs.Done.{done_is}

-- what steps 1 to 3 at work come to
abbrev pub tried : Store → After Bool Desk
tried s = attempt s.ctl.n s.ctl.regions (2 * length s.heap) s.roots (desk s.heap (begun_notes s.ctl.first s.ctl.last))

-- steps 1 to 3 at work and plain: a page is lacking in both, or all is scanned in both
abbrev pub Attempted : (s : Store) → Sound s → Type 0
Attempted s S =
    Together s S (refused s Refusal.NoPage) (λ (x : List ℕ × Run). ending s x.0 (finished x.1)) false true
    (λ x d. (A : Ran s S x.0 x.1) × Matching s S A.end.ghost x.1 d) (collected s) (tried s)

pub ends_alike : (s : Store) (S : Sound s) → Attempted s S → working_collect s ≡ collected s
unfolding working_collect ended
ends_alike s S (both_lack e d t K) = rw (working_collect, ended, t) (lacking_is K ∙ sym e)
ends_alike s S (both_go (roots, r) e d t (A, M)) =
    rw (working_collect, ended, t) (done_is A.end.inv M (roots_written A.end.inv M s.roots roots A.count A.rels) ∙ sym e)
