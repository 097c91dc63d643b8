-- The whole run up to its end: fresh pages, roots, scan. It ends with all scanned, or for want of a page, and never for want of fuel. Each of the
-- three keeps the invariant or lacks a page, and the invariant bounds the fuel that the scan needs.
use Prim.Native.Nat.{ℕ, zero, suc, ◌+◌, ◌-◌, ◌*◌, ◌^◌, ◌<◌, ◌≤◌}
use native.Mathlib.Omega.{arith}
use mathlib.Core.Path.{◌≡◌, refl, sym, ap, ◌∙◌, subst}
use mathlib.Core.Option.{none, some}
use mathlib.Core.List.Memᴰ
use mathlib.Core.List.{List, [], Memᴰ}
use mathlib.Core.Bool.{false≢true}
use lib.ListN.{length}
use Rattle.laws.specs.Lists.{at}
use Rattle.laws.specs.Sums.{sum_over}
use Rattle.laws.proofs.Once.{once_none}
use Rattle.rules.specs.declared.Refusal.{Refusal}
use Rattle.rules.specs.Memory.{Store}
use Rattle.rules.specs.Pages.{Run, begun}
use Rattle.rules.specs.Collection.{finished, freshen, evacuate_all, work_stack, ending, collected}
use Rattle.rules.specs.Refusals.{refused}
use Rattle.rules.specs.Seen.{root}
use Rattle.rules.proofs.Steps.{steps_le}
use Rattle.facts.proofs.Laid.{mine}
use Rattle.facts.proofs.Copied.{Rel}
use Rattle.facts.proofs.Sound.{Sound}
use Rattle.working.proofs.Owned.{owned_mine, total}
use Rattle.working.proofs.Log.{pointers, Log, rel_grows}
use Rattle.working.proofs.Next.{Row, row_last, vals_empty}
use Rattle.rules.specs.Wanted.{freshen_for, unbounded}
use Rattle.working.proofs.Wanting.{wants_page_lem, goes_on, follows_some, ends_finished, fresh_beside, roots_follow, roots_dry, stack_beside}
use Rattle.working.proofs.Dry.{Overdrawn}
use Rattle.working.proofs.Invariant.{Ghost, Kept, Pending, Inv}
use Rattle.working.proofs.Fresh.{Fresh, fresh_start}
use Rattle.working.proofs.Freshening.{Freshens, freshens}
use Rattle.working.proofs.Roots.{AllBecame, EvacuatesAll, WorksStack, evacuates_all, works_stack}
use Rattle.working.proofs.Work.{Finished}

-- lists of the same length
total_each : (f : ℕ → List ℕ) (c m : ℕ) → ((i : ℕ) → i < m → length (f i) ≡ c) → total f m ≡ m * c
unfolding total
total_each f c zero e = omega arith
total_each f c (suc m) e = let t = e m (omega arith) in let u = total_each f c m (λ i b. e i (omega arith)) in omega arith

-- ---- nothing is copied yet

-- the regions below j have their fresh page
module _ {s : Store} {S : Sound s} {j : ℕ} {r : Run} (F : Fresh s S j r) where
  abbrev pub unmoved : Ghost
  unmoved =
      record {
        own = F.own;
        fin = F.fin;
        pages = F.pages;
        free = F.free;
        log = [];
        count = λ b. 0;
        past = λ j. [];
        todo = λ j. [];
        cur = none;
        half = none;
      }

  fin_is : (k i : ℕ) → F.own k ≡ mine i → F.fin k ≡ k * 2 ^ s.ctl.n + 2
  fin_is k i o =
      let m = owned_mine F.laid F.owned o in
      let t = F.single i m.0 in
      let e : k ≡ t.0 = Memᴰ.eq_of_singleton (rw t.1 at m.1) in
      ap F.fin e ∙ t.2 ∙ ap (λ x. x * 2 ^ s.ctl.n + 2) (sym e)

  pub unmoved_log : Log s.ctl.n s (Kept s) F.own F.fin r.heap [] (λ b. 0)
  unmoved_log =
      record {
        copies = λ m. elim m [ ];
        unmoved = λ k x o p q no_entry. F.words k x o p q;
        one_new = λ m m'. elim m [ ];
        one_old = λ m m'. elim m [ ];
        live = λ m. elim m [ ];
        every = λ k i b o t u. let e = fin_is k i o in let lo = steps_le t in absurd (omega arith);
        once = once_none;
      }

-- ---- the first state

module _ {s : Store} {S : Sound s} {r : Run} (F : Fresh s S s.ctl.regions r) where
  abbrev n : ℕ
  n = s.ctl.n

  abbrev R : ℕ
  R = s.ctl.regions

  abbrev pub first : Ghost
  first = unmoved F

  rows : (j : ℕ) → j < R → Row n r.heap F.fin (F.pages j) []
  rows j j_r =
      let t = F.single j j_r in
      subst (λ ks. Row n r.heap F.fin ks []) (sym t.1) (row_last (vals_empty (sym t.2)))

  pending : Pending n R first r
  pending =
      record {
        rows = rows;
        untouched = λ j b j_r m. elim m [ ];
        scanned = λ m gone ne l e. elim m [ ];
        raws = λ m l e. elim m [ ];
        queue =
            record {
              stacked = λ t m. let m' : Memᴰ t [] = rw F.stack at m in elim m' [ ];
              once = rw F.stack once_none;
              at_work = λ j e. absurd (false≢true cc);
              idle = λ j j_r e. refl;
              busy = λ j j_r ne. absurd (ne (F.asleep j j_r));
            };
      }

  tallied : (j : ℕ) → j < R → sum_over (λ k. F.fin k - (k * 2 ^ n + 2)) (F.pages j) ≡ 0
  unfolding sum_over
  tallied j j_r = let t = F.single j j_r in let e = t.2 in rw t.1 (omega arith)

  pub first_inv : Inv s S first r
  unfolding sum_over
  first_inv =
      record {
        laid = F.laid;
        logged = unmoved_log F;
        pending = pending;
        from_space_lem = F.from_space_lem;
        owned = F.owned;
        tallied = tallied;
        taken =
            let t = F.taken in
            let u = total_each F.pages 1 R (λ i b. ap length (F.single i b).1) in
            omega arith;
        width = F.width;
        past_rows = F.past_rows;
      }

-- ---- the run

-- all is scanned; `roots` are the new roots
pub record Ran (s : Store) (S : Sound s) (roots : List ℕ) (r : Run) : Type 0 where
  pub start : Ghost
  pub end : Finished s S start r
  pub count : length s.roots ≡ length roots
  pub unbound : unbounded s ≡ r
  pub rels : (i : ℕ) → i < length s.roots → Rel (Kept s) (pointers end.ghost.log) (at s.roots i) (at roots i)

-- a run in its order: fresh pages, roots, scan
pub fresh_is : (s : Store) {r : Run} → freshen s.ctl.n s.ctl.regions 0 (begun s) ≡ some r → freshen_for s.ctl.n s.ctl.regions 0 (begun s) ≡ r
fresh_is s = follows_some (fresh_beside s.ctl.n s.ctl.regions 0 (begun s)).0

module _ {s : Store} {S : Sound s} {r : Run} {roots : List ℕ} {r₁ : Run} (F : Fresh s S s.ctl.regions r) (A : AllBecame s S (first F) r s.roots roots r₁) where
  -- what waits costs no more than the log pays
  pub rooted_cost : total A.ghost.todo s.ctl.regions + length r₁.stack ≤ 2 * length A.ghost.log
  rooted_cost =
      let cost = A.later.cost in
      let z = total_each (λ j. []) 0 s.ctl.regions (λ i b. refl) in
      let d : length r.stack ≡ 0 = ap length F.stack in
      omega arith

  unfoldable pub ran : {r₂ : Run} → freshen s.ctl.n s.ctl.regions 0 (begun s) ≡ some r → evacuate_all s.ctl.n s.roots r ≡ some (roots, r₁)
      → work_stack s.ctl.n r₁ ≡ finished r₂ → Finished s S A.ghost r₂ → Ran s S roots r₂
  unfolding unbounded
  ran {r₂} e e₁ w G =
      record {
        start = A.ghost;
        end = G;
        count = A.count;
        unbound = rw (fresh_is s e, roots_follow s.ctl.n s.roots r e₁) (ends_finished (stack_beside s.ctl.n r₁).0 w);
        rels = λ i b. rel_grows A.ghost.log G.ghost.log G.log (A.rels i b);
      }

-- how the four steps end on a sound heap: for want of a page, or done
pub data Collects (s : Store) (S : Sound s) : Type 0 where
  runs_dry : collected s ≡ refused s Refusal.NoPage → Overdrawn s (unbounded s) → Collects s S
  runs_through : (roots : List ℕ) (r : Run) → collected s ≡ ending s roots (finished r) → Ran s S roots r → Collects s S

module _ (s : Store) (S : Sound s) where
  pub collects : Collects s S
  unfolding collected ending unbounded
  collects = freshened (freshens s S s.ctl.regions 0 (begun s) (omega arith) (fresh_start s S))
    where
      scanned : (r : Run) (F : Fresh s S s.ctl.regions r) → freshen s.ctl.n s.ctl.regions 0 (begun s) ≡ some r
          → (roots : List ℕ) (r₁ : Run) → evacuate_all s.ctl.n s.roots r ≡ some (roots, r₁) → (A : AllBecame s S (first F) r s.roots roots r₁)
          → WorksStack s S A.ghost r₁ → Collects s S
      scanned r F e roots r₁ e₁ A (wants_page_lem q y) = runs_dry (rw (e, collected, e₁, q)) (rw (fresh_is s e, roots_follow s.ctl.n s.roots r e₁) y)
      scanned r F e roots r₁ e₁ A (goes_on r₂ q G) = runs_through roots r₂ (rw (e, collected, e₁, q)) (ran F A e e₁ q G)

      rooted : (r : Run) (F : Fresh s S s.ctl.regions r) → freshen s.ctl.n s.ctl.regions 0 (begun s) ≡ some r
          → EvacuatesAll s S (first F) r s.roots → Collects s S
      rooted r F e (wants_page_lem q y) = runs_dry (rw (e, collected, q)) (rw (fresh_is s e) ((stack_beside s.ctl.n _).1 _ y))
      rooted r F e (goes_on (roots, r₁) q A) = scanned r F e roots r₁ q A (works_stack A.inv A.later.cur A.later.half (rooted_cost F A))

      freshened : Freshens s S s.ctl.regions 0 (begun s) → Collects s S
      freshened (wants_page_lem q y) = runs_dry (rw (q, collected)) ((stack_beside s.ctl.n _).1 _ (roots_dry s.ctl.n s.roots y))
      freshened (goes_on r q F) = rooted r F q (evacuates_all s.roots (first_inv F) S.roots (λ i b. root i b))
