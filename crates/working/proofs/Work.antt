-- The scan stack worked to its end. Each turn scans one copy or leaves one region, and each copy made costs two turns, so the fuel, two for
-- each word of the heap, never runs out: no more values can be copied than the heap has words.
use Prim.Native.Nat.{ℕ, zero, suc, ◌≤◌, ◌<◌}
use native.Mathlib.Omega.{arith}
use native.Mathlib.Decide.{ℕ_discrete}
use mathlib.Core.Path.{◌≡◌, refl, sym, ap, ◌∙◌, subst}
use mathlib.Core.Logic.{◌⊎◌, inl, inr}
use mathlib.Core.Bool.{true, false}
use mathlib.Core.Option.{none, some, none-ne-some}
use mathlib.Core.List.{List, [], ◌∷◌, ◌++◌, Memᴰ}
use lib.ListN.{length, length-map}
use lib.Dec.{eqb}
use borrow.Author.Tests.{eq-eqb, ne_eqb}
use Rattle.laws.proofs.Once.{once_most}
use Rattle.rules.specs.Memory.{Store, top_of, status_of}
use Rattle.rules.specs.Pages.{Scan, Run}
use Rattle.rules.specs.Collection.{finished, lacks_page, scan_value, next_scan, work}
use Rattle.rules.proofs.Steps.{steps_le}
use Rattle.facts.proofs.Laid.{below_top}
use Rattle.facts.proofs.Copied.{Moved}
use Rattle.facts.proofs.Sound.{Sound}
use Rattle.working.proofs.Log.{olds, in_olds}
use Rattle.working.proofs.Next.{Row, head_or, After, after_here, after_there, next_row}
use Rattle.working.proofs.Rows.{row_in}
use Rattle.rules.specs.Wanted.{value_for, work_for}
use Rattle.working.proofs.Wanting.{Goes, wants_page_lem, goes_on, lacks_as, follows_some, value_beside, work_beside}
use Rattle.working.proofs.Dry.{Overdrawn}
use Rattle.working.proofs.Invariant.{Ghost, regions_of, Inv, copied_in, Enough}
use Rattle.working.proofs.Turn.{ScanAt, Turned, Turns, scans_value}
use Rattle.working.proofs.Leaving.{scanning, left, left_empty, left_last, left_next, top_begins}

-- all is scanned
pub record Finished (s : Store) (S : Sound s) (g : Ghost) (r : Run) : Type 0 where
  pub ghost : Ghost
  pub inv : Inv s S ghost r
  pub no_cur : ghost.cur ≡ none
  pub none_open : ghost.half ≡ none
  pub stack : r.stack ≡ []
  pub log : (x : Moved) → Memᴰ x g.log → Memᴰ x ghost.log

-- from an earlier state too
unfoldable pub finished_from : {s : Store} {S : Sound s} {g g' : Ghost} {r : Run} → ((x : Moved) → Memᴰ x g.log → Memᴰ x g'.log) → Finished s S g' r → Finished s S g r
finished_from grew F = record { ghost = F.ghost; inv = F.inv; no_cur = F.no_cur; none_open = F.none_open; stack = F.stack; log = λ x m. F.log x (grew x m) }

pub asleep : {s : Store} {S : Sound s} {g : Ghost} {r : Run} (F : Finished s S g r) (i : ℕ) → i < s.ctl.regions → status_of r.table i ≡ 0
asleep {r = r} F i i_r = go (ℕ_discrete (status_of r.table i) 0)
  where
    by : Memᴰ i (regions_of r.stack) ⊎ (F.ghost.cur ≡ some i) → ⊥
    by (inl m) = let m' : Memᴰ i [] = subst (λ t. Memᴰ i (regions_of t)) F.stack m in elim m' [ ]
    by (inr q) = none-ne-some i (sym F.no_cur ∙ q)

    go : Dec (status_of r.table i ≡ 0) → status_of r.table i ≡ 0
    go (yes e) = e
    go (no ne) = absurd (by (F.inv.pending.queue.busy i i_r ne))

pub none_waits : {s : Store} {S : Sound s} {g : Ghost} {r : Run} (F : Finished s S g r) (i : ℕ) → i < s.ctl.regions → F.ghost.todo i ≡ []
none_waits F i i_r = F.inv.pending.queue.idle i i_r (asleep F i i_r)

mid : (xs : List ℕ) {b : ℕ} {ys : List ℕ} → After ((xs ++ b ∷ []) ++ ys) b ys
mid [] = after_here
mid (x ∷ xs) = after_there (mid xs)

module _ {s : Store} {S : Sound s} {g : Ghost} {r : Run} (I : Inv s S g r) where
  abbrev n : ℕ
  n = s.ctl.n

  -- ---- the bound

  pub log_bound : length g.log ≤ length s.heap
  log_bound = let b = once_most (length s.heap) inside I.logged.once in let e : length (olds g.log) ≡ length g.log = length-map g.log (λ (m : Moved). m.old) in omega arith
    where
      inside : (a : ℕ) → Memᴰ a (olds g.log) → a < length s.heap
      inside a m = let b = copied_in I (in_olds g.log m).1 in omega arith

  -- ---- one turn
  module _ {j : ℕ} (cur : g.cur ≡ some j) (f : ℕ) where
    at_top : eqb (top_of r.table j) (top_of r.table j) ≡ true
    at_top = eq-eqb (top_of r.table j) (top_of r.table j) refl

    -- the region is done, and the stack is empty
    pub work_done_lem : r.stack ≡ [] → work n (suc f) j (top_of r.table j) r ≡ finished (left j [] r)
    unfolding work
    work_done_lem q = rw (at_top, work, q) (ap finished (sym (left_empty j r q)))

    unfoldable pub left_finished : g.todo j ≡ [] → g.half ≡ none → r.stack ≡ [] → Finished s S g (left j [] r)
    left_finished e shut q = record { ghost = scanning g none; inv = left_last I cur e q; no_cur = refl; none_open = shut; stack = refl; log = λ x m. m }

    -- the region is done, and the one on top is next
    module _ (t : Scan) (ts : List Scan) (q : r.stack ≡ t ∷ ts) where
      pub next_begins : t.address ≡ head_or (top_of (left j ts r).table t.region) (g.todo t.region)
      next_begins = top_begins I t ts q _

      pub work_leaves : work n (suc f) j (top_of r.table j) r ≡ work n f t.region (head_or (top_of (left j ts r).table t.region) (g.todo t.region)) (left j ts r)
      unfolding work
      work_leaves = rw (at_top, work, q) (ap (λ x. work n f t.region x (left j ts r)) next_begins)

      leaves_for : work_for n (suc f) j (top_of r.table j) r ≡ work_for n f t.region (head_or (top_of (left j ts r).table t.region) (g.todo t.region)) (left j ts r)
      unfolding work_for
      leaves_for = rw (at_top, work_for, q) (ap (λ x. work_for n f t.region x (left j ts r)) next_begins)

      pub left_enough : Enough s g r (suc f) → Enough s (scanning g (some t.region)) (left j ts r) f
      left_enough enough = let b = enough.steps in let d : length r.stack ≡ suc (length ts) = ap length q in record { steps = omega arith }

  -- a copy is scanned
  module _ {j b : ℕ} {ts : List ℕ} (A : ScanAt g j b ts) (f : ℕ) where
    j_r : j < s.ctl.regions
    j_r = (I.pending.queue.at_work j A.cur).0

    -- no copy stands at the region's a
    pub at_copy : eqb b (top_of r.table j) ≡ false
    at_copy =
        let m : Memᴰ b (g.todo j) = rw A.todo (mathlib.Core.List.Memᴰ.head refl) in
        let F = row_in (I.pending.rows j j_r) (mathlib.Core.List.Memᴰ.append_right (g.past j) m) in
        let hi = F.value.stands.ends in
        let below = F.below in
        ne_eqb b (top_of r.table j) (below_top I.laid j j_r F.page b (steps_le F.value.steps) (omega arith) (omega arith))

    pub work_lacks : scan_value n b r ≡ none → work n (suc f) j b r ≡ lacks_page
    unfolding work
    work_lacks q = rw (at_copy, work, q)

    module _ {r₁ : Run} (T : Turned s S g r j b r₁) where
      -- after the copy, the next that waits, or the region's a
      pub next_copy : next_scan n j b r₁ ≡ head_or (top_of r₁.table j) (T.ghost.todo j)
      next_copy =
          let L = T.inv.laid in
          next_row L j j_r (L.mine_links j j_r).links (L.mine_once j j_r) (L.mine_top j j_r).last (λ k m. L.mine_own j k j_r m)
          (subst (λ xs. Row n r₁.heap T.ghost.fin (T.ghost.pages j) (xs ++ T.ghost.todo j)) T.past (T.inv.pending.rows j j_r)) (mid (g.past j))

      pub work_scans : scan_value n b r ≡ some r₁ → work n (suc f) j b r ≡ work n f j (head_or (top_of r₁.table j) (T.ghost.todo j)) r₁
      unfolding work
      work_scans q = rw (at_copy, work, q) (ap (λ x. work n f j x r₁) next_copy)

      scans_for : scan_value n b r ≡ some r₁ → work_for n (suc f) j b r ≡ work_for n f j (head_or (top_of r₁.table j) (T.ghost.todo j)) r₁
      unfolding work_for
      scans_for q =
          let v : value_for n b r ≡ r₁ = follows_some (value_beside n b r).0 q in
          rw (at_copy, work_for, v) (ap (λ x. work_for n f j x r₁) next_copy)

      pub scanned_enough : Enough s g r (suc f) → Enough s T.ghost r₁ f
      scanned_enough enough = let c = T.cost in let d = enough.steps in record { steps = omega arith }

-- ---- all of it

-- the work from a on, with fuel f
abbrev Works : (s : Store) → Sound s → Ghost → Run → ℕ → ℕ → ℕ → Type 0
Works s S g r f j a = Goes lacks_page finished (work s.ctl.n f j a r) (Overdrawn s (work_for s.ctl.n f j a r)) (λ r'. Finished s S g r')

-- from wherever the scan is
abbrev WorksOn : (s : Store) → Sound s → ℕ → Type 0
WorksOn s S f =
    (g : Ghost) (r : Run) (j : ℕ) → Inv s S g r → g.cur ≡ some j → g.half ≡ none → Enough s g r f → Works s S g r f j (head_or (top_of r.table j) (g.todo j))

pub works : (s : Store) (S : Sound s) (f : ℕ) → WorksOn s S f
unfolding work_for work
works s S zero g r j I cur shut enough = let a = log_bound I in let b = enough.steps in absurd (omega arith)
works s S (suc f) g r j I cur shut enough = go (g.todo j) refl (works s S f)
  where
    -- the region is done
    leave : g.todo j ≡ [] → (st : List Scan) → r.stack ≡ st → WorksOn s S f → Works s S g r (suc f) j (top_of r.table j)
    leave e [] q rest = goes_on (left j [] r) (work_done_lem I cur f q) (left_finished I cur f e shut q)
    leave e (t ∷ ts) q rest =
        lacks_as (work_leaves I cur f t ts q) (leaves_for I cur f t ts q) (λ r'. finished_from (λ x m. m))
        (rest (scanning g (some t.region)) (left j ts r) t.region (left_next I cur e t ts q) refl shut (left_enough I cur f t ts q enough))

    -- a copy is scanned
    scan : {b : ℕ} {ts : List ℕ} → ScanAt g j b ts → WorksOn s S f → Turns s S g r j b → Works s S g r (suc f) j b
    scan A rest (wants_page_lem q y) = wants_page_lem (work_lacks I A f q) (rw (at_copy I A f, work_for) ((work_beside s.ctl.n f j _ _).1 _ y))
    scan A rest (goes_on r₁ q T) =
        lacks_as (work_scans I A f T q) (scans_for I A f T q) (λ r'. finished_from T.log) (rest T.ghost r₁ j T.inv T.cur T.none_open (scanned_enough I A f T enough))

    go : (xs : List ℕ) → g.todo j ≡ xs → WorksOn s S f → Works s S g r (suc f) j (head_or (top_of r.table j) xs)
    go [] e rest = leave e r.stack refl rest
    go (b ∷ ts) e rest = let A : ScanAt g j b ts = record { cur = cur; todo = e; none_open = shut } in scan A rest (scans_value I A)
