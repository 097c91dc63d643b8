-- The roots evacuated in order, then the scan stack worked: from a fresh state to one in which all is scanned. Each evacuation keeps the
-- invariant, and what a new root stands for stays.
use Prim.Native.Nat.{ℕ, zero, suc, ◌+◌, ◌*◌, ◌≤◌, ◌<◌, zero-le, suc-le-suc}
use native.Mathlib.Omega.{arith}
use mathlib.Core.Path.{◌≡◌, refl, ap}
use mathlib.Core.Option.{none, some}
use mathlib.Core.List.{List, [], ◌∷◌}
use lib.ListN.{length}
use Rattle.laws.specs.Lists.{at}
use Rattle.rules.specs.Memory.{Store, top_of}
use Rattle.rules.specs.Pages.{Scan, Run, with_stack}
use Rattle.rules.specs.Collection.{finished, lacks_page, evacuate, evacuate_all, work, work_stack}
use Rattle.rules.specs.Seen.{seen, Reached}
use Rattle.facts.proofs.Copied.{Rel}
use Rattle.facts.proofs.Sound.{Good, Sound}
use Rattle.working.proofs.Owned.{total}
use Rattle.working.proofs.Log.{pointers, rel_grows}
use Rattle.working.proofs.Next.{head_or}
use Rattle.rules.specs.Wanted.{evacuate_for, roots_for, work_for, stack_for}
use Rattle.working.proofs.Wanting.{Goes, wants_page_lem, goes_on, lacks_as, follows_some, evacuate_beside, roots_dry}
use Rattle.working.proofs.Dry.{Overdrawn}
use Rattle.working.proofs.Invariant.{Ghost, Kept, Inv, Later, later_refl, later_trans, Became, Evacuates, Enough}
use Rattle.working.proofs.Evacuation.{evacuates}
use Rattle.working.proofs.Leaving.{scanning, entered, top_begins}
use Rattle.working.proofs.Work.{Finished, finished_from, works}

-- the words ws became the words vs
pub record AllBecame (s : Store) (S : Sound s) (g : Ghost) (r : Run) (ws vs : List ℕ) (r' : Run) : Type 0 where
  pub ghost : Ghost
  pub inv : Inv s S ghost r'
  pub later : Later s.ctl.regions g r ghost r'
  pub count : length ws ≡ length vs
  pub rels : (i : ℕ) → i < length ws → Rel (Kept s) (pointers ghost.log) (at ws i) (at vs i)

unfoldable pub all_none : {s : Store} {S : Sound s} {g : Ghost} {r : Run} → Inv s S g r → AllBecame s S g r [] [] r
all_none {g = g} I = record { ghost = g; inv = I; later = later_refl _ _ _; count = refl; rels = λ i b. absurd (omega arith) }

-- one word, and then the others
unfoldable pub all_more : {s : Store} {S : Sound s} {g : Ghost} {r r₁ r₂ : Run} {w v : ℕ} {ws vs : List ℕ} (B : Became s S g r w v r₁) → AllBecame s S B.ghost r₁ ws vs r₂
    → AllBecame s S g r (w ∷ ws) (v ∷ vs) r₂
all_more {s} {w = w} {v} {ws} {vs} B A =
    record {
      ghost = A.ghost;
      inv = A.inv;
      later = later_trans B.later A.later;
      count = ap suc A.count;
      rels = each;
    }
  where
    each : (i : ℕ) → i < suc (length ws) → Rel (Kept s) (pointers A.ghost.log) (at (w ∷ ws) i) (at (v ∷ vs) i)
    each zero b = rel_grows B.ghost.log A.ghost.log A.later.log B.rel
    each (suc i) b = A.rels i (omega arith)

-- the words evacuated one after the other
abbrev pub EvacuatesAll : (s : Store) → Sound s → Ghost → Run → List ℕ → Type 0
EvacuatesAll s S g r ws =
    Goes none some (evacuate_all s.ctl.n ws r) (Overdrawn s (roots_for s.ctl.n ws r)) (λ (p : List ℕ × Run). AllBecame s S g r ws p.0 p.1)

-- the scan stack worked
abbrev pub WorksStack : (s : Store) → Sound s → Ghost → Run → Type 0
WorksStack s S g r = Goes lacks_page finished (work_stack s.ctl.n r) (Overdrawn s (stack_for s.ctl.n r)) (λ r'. Finished s S g r')

pub evacuates_all : {s : Store} {S : Sound s} {g : Ghost} {r : Run} (ws : List ℕ) → Inv s S g r
    → ((i : ℕ) → i < length ws → Good s.ctl.n s.ctl.regions s.heap s.consts (at ws i)) → ((i : ℕ) → i < length ws → Reached (seen s) s.roots (at ws i))
    → EvacuatesAll s S g r ws
unfolding evacuate_all roots_for
evacuates_all {r = r} [] I good reached = goes_on ([], r) refl (all_none I)
evacuates_all {s} {S} {g} {r} (w ∷ ws) I good reached =
    go (λ g' r' I'. evacuates_all ws I' (λ i b. good (suc i) (suc-le-suc b)) (λ i b. reached (suc i) (suc-le-suc b)))
    (evacuates I w (good 0 (suc-le-suc zero-le)) (reached 0 (suc-le-suc zero-le)))
  where
    then : (v : ℕ) (r₁ : Run) → evacuate s.ctl.n w r ≡ some (v, r₁) → (B : Became s S g r w v r₁) → EvacuatesAll s S B.ghost r₁ ws → EvacuatesAll s S g r (w ∷ ws)
    then v r₁ e B (wants_page_lem q y) =
        let t : evacuate_for s.ctl.n w r ≡ (v, r₁) = follows_some (evacuate_beside s.ctl.n w r).0 e in
        wants_page_lem (rw (e, evacuate_all, q)) (rw t y)
    then v r₁ e B (goes_on (vs, r₂) q A) = goes_on (v ∷ vs, r₂) (rw (e, evacuate_all, q)) (all_more B A)

    go : ((g' : Ghost) (r' : Run) → Inv s S g' r' → EvacuatesAll s S g' r' ws)
        → Evacuates s S g r w (evacuate s.ctl.n w r) (evacuate_for s.ctl.n w r).1 → EvacuatesAll s S g r (w ∷ ws)
    go rest (wants_page_lem q y) = wants_page_lem (rw (q, evacuate_all)) (roots_dry s.ctl.n ws y)
    go rest (goes_on (v, r₁) q B) = then v r₁ q B (rest B.ghost r₁ B.inv)

-- ---- the scan begins

-- at what waits in the region of the stack's top
abbrev pub begin : Ghost → Run → Scan → ℕ
begin g r t = head_or (top_of r.table t.region) (g.todo t.region)

module _ {s : Store} {S : Sound s} {g : Ghost} {r : Run} (I : Inv s S g r) (t : Scan) (ts : List Scan) (e : r.stack ≡ t ∷ ts) where
  pub begins_at : t.address ≡ begin g r t
  begins_at = top_begins I t ts e _

  pub begins_work : work_stack s.ctl.n r ≡ work s.ctl.n (2 * length r.heap) t.region (begin g r t) (with_stack r ts)
  unfolding work_stack
  begins_work = rw (e, work_stack) (ap (λ x. work s.ctl.n (2 * length r.heap) t.region x (with_stack r ts)) begins_at)

  begins_for : stack_for s.ctl.n r ≡ work_for s.ctl.n (2 * length r.heap) t.region (begin g r t) (with_stack r ts)
  unfolding stack_for
  begins_for = rw (e, stack_for) (ap (λ x. work_for s.ctl.n (2 * length r.heap) t.region x (with_stack r ts)) begins_at)

  -- and has turns enough
  pub entered_enough : total g.todo s.ctl.regions + length r.stack ≤ 2 * length g.log → Enough s (scanning g (some t.region)) (with_stack r ts) (2 * length r.heap)
  entered_enough cost =
      let a = I.laid.size in
      let b = S.laid.size in
      let c : length r.stack ≡ suc (length ts) = ap length e in
      record { steps = omega arith }

-- nothing waits
pub ends_work : (n : ℕ) (r : Run) → r.stack ≡ [] → work_stack n r ≡ finished r
unfolding work_stack
ends_work n r e = rw (e, work_stack) (ap (λ st. finished (with_stack r st)) e)

unfoldable pub ends_finished : {s : Store} {S : Sound s} {g : Ghost} {r : Run} → Inv s S g r → g.cur ≡ none → g.half ≡ none → r.stack ≡ [] → Finished s S g r
ends_finished {g = g} I none_cur none_open e = record { ghost = g; inv = I; no_cur = none_cur; none_open = none_open; stack = e; log = λ x m. m }

-- the whole scan, from a state in which no region is being scanned and what waits costs no more than the log pays
pub works_stack : {s : Store} {S : Sound s} {g : Ghost} {r : Run} → Inv s S g r → g.cur ≡ none → g.half ≡ none → total g.todo s.ctl.regions + length r.stack ≤ 2 * length g.log
    → WorksStack s S g r
works_stack {s} {S} {g} {r} I none_cur none_open cost = go r.stack refl
  where
    go : (st : List Scan) → r.stack ≡ st → WorksStack s S g r
    go [] e = goes_on r (ends_work s.ctl.n r e) (ends_finished I none_cur none_open e)
    go (t ∷ ts) e =
        lacks_as (begins_work I t ts e) (begins_for I t ts e) (λ r'. finished_from (λ x m. m))
        (works s S _ _ _ _ (entered I none_cur t ts e) refl none_open (entered_enough I t ts e cost))
