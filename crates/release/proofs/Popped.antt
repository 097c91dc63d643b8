-- What the answers of the first tests and of the audit say of a pop: where one of them refuses, the pop refuses with the same; where the audit
-- passes, the heap is sound, so what is given back along the links is what document 01 gives back.
use Rattle.std.specs.Prelude.{Ok, Err}
use Rattle.rules.specs.declared.Refused.{Refused}
use Rattle.rules.specs.Refusals.{outcome, refused, unchanged}
use Prim.Native.Nat.{ℕ, ◌-◌}
use mathlib.Core.Path.{◌≡◌, refl, sym, ◌∙◌}
use mathlib.Core.Bool.{true, false}
use mathlib.Core.List.{List}
use native.Mathlib.Omega.{arith}
use borrow.Author.Tests.{eq-eqb, ne_eqb}
use lib.ListN.{length}
use Rattle.rules.specs.declared.Control.{Control}
use Rattle.rules.specs.declared.Refusal.{Refusal}
use Rattle.rules.specs.Memory.{Store, lent, page_count, first_link, set_row}
use Rattle.rules.specs.Pages.{Run, begun, record_after}
use Rattle.rules.specs.Calls.{audit, let_go, pop_on, pop_top, pop}
use Rattle.rules.proofs.Limits.{pages_few}
use Rattle.rules.proofs.Judged.{passed, passed_admitted, judged_refuse, judged_yes}
use Rattle.limits.specs.First.{tests_of}
use Rattle.limits.proofs.First.{refused_first}
use Rattle.facts.proofs.Passing.{judged_sound}
use Rattle.giving.specs.Giving.{Free, give_chain}
use Rattle.giving.proofs.Chain.{last_there, region_given}

-- the heap, the table, the roots and the constants are h, t, r and k
pub pop_early : (h t r k : List ℕ) (c : Control) (f : Refused) → tests_of (lent h t r k c) ≡ Err f → outcome (Err f) h t r k ≡ pop (lent h t r k c)
unfolding pop
pop_early h t r k c f q = refused_first (lent h t r k c) (λ g. outcome (Err g) h t r k) _ q

pub pop_broken : (s : Store) (f : Refused) → Err f ≡ audit s → unchanged (Err f) s ≡ pop s
unfolding pop
pop_broken s f e = judged_refuse (λ g. unchanged (Err g) s) _ s e

module _ (s : Store) (c : Control) (e : Ok c ≡ audit s) where
  -- pages can follow the free list
  pub passed_free : Free (length s.heap) (page_count s.ctl.n s.heap) s.ctl
  passed_free =
      let a = passed_admitted s (judged_yes s e) in
      let few = a.count in
      let f = pages_few _ _ _ a.paged refl in
      record { paged = a.paged; last = last_there s (judged_sound s c e); count = omega arith }

  pub pop_none : s.ctl.regions ≡ 0 → refused s Refusal.NoRegion ≡ pop s
  unfolding pop
  pop_none z = sym (passed s (judged_yes s e) (refused s) _ ∙ rw (eq-eqb _ _ z))

  module _ (some : s.ctl.regions ≡ 0 → ⊥) (j : ℕ) (top : j ≡ s.ctl.regions - 1) where
    pub pop_held : let_go s.ctl.n s.heap s.table s.roots j ≡ false → refused s Refusal.Held ≡ pop s
    unfolding pop pop_top
    pop_held f = sym (passed s (judged_yes s e) (refused s) _ ∙ rw (ne_eqb _ _ some, ← top, f))

    -- the pages given back along the links leave the run r
    pub pop_done : let_go s.ctl.n s.heap s.table s.roots j ≡ true
        → (r : Run) → r ≡ give_chain s.ctl.n (page_count s.ctl.n s.heap) (first_link s.ctl.n s.table j) (begun s)
        → pop s ≡ outcome (Ok (record_after s (s.ctl.regions - 1) r)) r.heap (set_row r.table j 0 0 0 0) s.roots s.consts
    unfolding pop pop_top pop_on
    pop_done f r q =
        passed s (judged_yes s e) (refused s) _
        ∙ rw (ne_eqb _ _ some, ← top, f, q, region_given s (judged_sound s c e) j (omega arith))
