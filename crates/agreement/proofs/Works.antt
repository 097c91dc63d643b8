-- The scan stack worked, at work and in the plain run, step for step with the same fuel: both scan the same copy or leave the same region, and the
-- entry on top is the same.
use Prim.Native.Nat.{ℕ, zero, suc, ◌+◌, ◌*◌, ◌≤◌, ◌<◌}
use native.Mathlib.Numerals.{sub-one}
use native.Mathlib.Omega.{arith}
use mathlib.Core.Path.{◌≡◌, refl, sym, ap, ◌∙◌, subst}
use mathlib.Core.Logic.{◌≢◌}
use mathlib.Core.Bool.{true, false, false≢true}
use mathlib.Core.Option.{none, some}
use mathlib.Core.List.{List, [], ◌∷◌, Memᴰ}
use lib.ListN.{length, set, length-set}
use lib.Seq.{get_or-set_same, get_or-set_other}
use lib.Dec.{eqb}
use borrow.Author.Tests.{eq-eqb, ne_eqb}
use Rattle.laws.specs.Lists.{at}
use Rattle.laws.specs.Each.{after}
use Rattle.laws.specs.Loop.{loop}
use Rattle.rules.specs.Memory.{Store, top_of, set_status}
use Rattle.rules.specs.Pages.{Scan, Run, with_table, with_stack}
use Rattle.rules.specs.Collection.{finished, lacks_page, next_scan, work, work_stack}
use Rattle.facts.proofs.Copied.{Moved}
use Rattle.facts.proofs.Laid.{Owner}
use Rattle.facts.proofs.Sound.{Sound}
use Rattle.working.proofs.Owned.{total}
use Rattle.working.proofs.Next.{head_or}
use Rattle.working.proofs.Rows.{InRow, row_in}
use Rattle.working.proofs.Invariant.{Ghost, Inv, Enough}
use Rattle.working.proofs.Turn.{ScanAt}
use Rattle.working.proofs.Leaving.{scanning, left, left_empty, left_next, entered}
use Rattle.working.proofs.Work.{Finished, finished_from, log_bound, work_done_lem, left_finished, next_begins, work_leaves, left_enough, at_copy, work_lacks, next_copy, work_scans, scanned_enough}
use Rattle.working.proofs.Roots.{begin, begins_at, begins_work, entered_enough, ends_work, ends_finished}
use Rattle.motion.specs.Leaves.{Desk, desk, low, entry, depth, go_on, all_scanned, page_lacks, pop_on, pop}
use Rattle.motion.specs.Run as X
use Rattle.motion.specs.Run.{step_on, step, work_on, work_turn}
use Rattle.motion.specs.Whole as Y
use Rattle.agreement.proofs.Matching.{Alike, Noted, bare, above, Matching}
use Rattle.agreement.proofs.Frames.{noted_same, notes_on, row_on, top_same}
use Rattle.agreement.proofs.Together.{Together, both_lack, both_go, come_to}
use Rattle.agreement.proofs.Took.{low_is}
use Rattle.agreement.proofs.Values.{Values, scans_value}
use Rattle.agreement.proofs.Nexts.{nexts, next_small}

-- ---- the entry on top

-- only ts are left
abbrev pub popped : Desk → List Scan → Desk
popped d ts = desk d.heap (set d.notes depth (length ts))

module _ {s : Store} {S : Sound s} {own : ℕ → Owner} {free : List ℕ} {r : Run} {d : Desk} (M : Alike s S own free r d) where
  pub pops_none : r.stack ≡ [] → pop d.notes ≡ after all_scanned d.notes
  unfolding pop_on
  pops_none e = let q : at d.notes depth ≡ 0 = M.deep ∙ ap length e in rw (q, pop_on)

  module _ (t : Scan) (ts : List Scan) (e : r.stack ≡ t ∷ ts) where
    noted : Noted d.notes (t ∷ ts)
    noted = subst (Noted d.notes) e M.noted

    few : suc (length ts) ≤ 64
    few = let a = M.shallow in let b : length r.stack ≡ suc (length ts) = ap length e in omega arith

    top_is : {us : List Scan} → Noted d.notes us → us ≡ t ∷ ts
        → (at d.notes (entry (length ts)) ≡ t.address) × (at d.notes (entry (length ts) + 1) ≡ t.region) × Noted d.notes ts
    top_is bare q = absurd (false≢true cc)
    top_is (above {t = t'} {ts = ts'} a b rest) q =
        let p : t' ≡ t = cc in
        let p' : ts' ≡ ts = cc in
        (rw (p, p') at a, rw (p, p') at b, rw p' at rest)

    pub pops : pop d.notes ≡ after (go_on t.region t.address) (popped d ts).notes
    unfolding pop_on
    pops =
        let q : at d.notes depth ≡ suc (length ts) = M.deep ∙ ap length e in
        let u = top_is noted refl in
        rw (q, pop_on, ne_eqb (suc (length ts)) 0 (omega arith), sub-one (suc (length ts)), u.0, u.1)

    pub popped_matches : Alike s S own free (with_stack r ts) (popped d ts)
    popped_matches =
        let regions = S.regions in
        let wide = M.notes_length_lem in
        let b = few in
        let else : (x : ℕ) → x ≢ depth → at (popped d ts).notes x ≡ at d.notes x = λ x ne. get_or-set_other d.notes depth x (length ts) 0 ne in
        notes_on M r.table ts (popped d ts).notes (length-set d.notes depth (length ts) ∙ M.notes_length_lem) (λ j c j_r c4. else (4 * j + c) (omega arith) ∙ M.rows j c j_r c4)
        (omega arith) (get_or-set_same d.notes depth (length ts) 0 (omega arith)) (noted_same (top_is noted refl).2 (omega arith) (λ x p q. else x (omega arith)))
        (λ x p. else x (omega arith))

-- ---- all of it

module _ (s : Store) (S : Sound s) where
  abbrev n : ℕ
  n = s.ctl.n

  abbrev R : ℕ
  R = s.ctl.regions

  -- all is scanned
  abbrev pub Scanned : Ghost → Run → Desk → Type 0
  Scanned g r d = (F : Finished s S g r) × Matching s S F.ghost r d

  abbrev pub Works : Ghost → Run → Desk → ℕ → ℕ → ℕ → Type 0
  Works g r d f j a = Together s S lacks_page finished page_lacks all_scanned (Scanned g) (work n f j a r) (X.work n f (X.scanning j a d))

  -- from wherever the scan is, with fuel f
  abbrev pub WorksOn : ℕ → Type 0
  WorksOn f =
      (g : Ghost) (r : Run) (j : ℕ) → Inv s S g r → g.cur ≡ some j → g.half ≡ none → Enough s g r f → (d : Desk) → Matching s S g r d
      → Works g r d f j (head_or (top_of r.table j) (g.todo j))

  pub works : (f : ℕ) → WorksOn f
  unfolding work finished_from left_finished loop work_turn work_on step step_on
  works zero g r j I cur shut enough d M = let a = log_bound I in let b = enough.steps in absurd (omega arith)
  works (suc f) g r j I cur shut enough d M = go (g.todo j) refl (works f)
    where
      j_r : j < R
      j_r = (I.pending.queue.at_work j cur).0

      same_top : top_of d.notes j ≡ top_of r.table j
      same_top = top_same M j j_r

      from : (g' : Ghost) → ((x : Moved) → Memᴰ x g.log → Memᴰ x g'.log) → (r' : Run) (d' : Desk) → Scanned g' r' d' → Scanned g r' d'
      from g' grew r' d' (F, M') = (finished_from grew F, M')

      -- the region is done
      M₁ : Matching s S g (with_table r (set_status r.table j 0)) (desk d.heap (set_status d.notes j 0))
      M₁ = let a = I.laid.rows in let b = j_r in row_on M (4 * j + 3) 0 (omega arith) (omega arith)

      at_top : eqb (top_of r.table j) (top_of d.notes j) ≡ true
      at_top = eq-eqb (top_of r.table j) (top_of d.notes j) (sym same_top)

      leave : g.todo j ≡ [] → (st : List Scan) → r.stack ≡ st → WorksOn f → Works g r d (suc f) j (top_of r.table j)
      leave e [] q rest =
          both_go (left j [] r) (work_done_lem I cur f q) (desk d.heap (set_status d.notes j 0)) (rw (at_top, pops_none M₁ q)) (left_finished I cur f e shut q, rw (left_empty j r q) M₁)
      leave e (t ∷ ts) q rest =
          let d' : Desk = popped (desk d.heap (set_status d.notes j 0)) ts in
          let z : X.work n (suc f) (X.scanning j (top_of r.table j) d) ≡ X.work n f (X.scanning t.region t.address d') = rw (at_top, pops M₁ t ts q) in
          come_to (work_leaves I cur f t ts q) (z ∙ ap (λ x. X.work n f (X.scanning t.region x d')) (next_begins I cur f t ts q)) (from _ (λ x m. m))
          (rest _ _ _ (left_next I cur e t ts q) refl shut (left_enough I cur f t ts q enough) d' (popped_matches M₁ t ts q))

      -- a copy is scanned
      copy_at : {b : ℕ} {ts : List ℕ} → ScanAt g j b ts → eqb b (top_of d.notes j) ≡ false
      copy_at A = rw same_top (at_copy I A f)

      scan : (b : ℕ) (ts : List ℕ) (A : ScanAt g j b ts) → WorksOn f → Values I A M → Works g r d (suc f) j b
      scan b ts A rest (both_lack q d₁ w K) = both_lack (work_lacks I A f q) d₁ (rw (copy_at A, w)) K
      scan b ts A rest (both_go r₁ q d₁ w (T, M')) =
          let in_past : Memᴰ b (T.ghost.past j) = rw T.past (mathlib.Core.List.Memᴰ.append_right (g.past j) (mathlib.Core.List.Memᴰ.head refl)) in
          let F : InRow n r₁.heap T.ghost.fin (T.ghost.pages j) b = row_in (T.inv.pending.rows j j_r) (mathlib.Core.List.Memᴰ.append_left (T.ghost.todo j) in_past) in
          let next : low (X.next_scan n j b d₁) ≡ head_or (top_of r₁.table j) (T.ghost.todo j)
          = ap low (nexts T.inv M' j_r F) ∙ low_is (next_scan n j b r₁) (next_small T.inv M' j_r F) ∙ next_copy I A f T in
          come_to (work_scans I A f T q) (rw (copy_at A, w, next)) (from T.ghost T.log)
          (rest T.ghost r₁ j T.inv T.cur T.none_open (scanned_enough I A f T enough) d₁ M')

      go : (xs : List ℕ) → g.todo j ≡ xs → WorksOn f → Works g r d (suc f) j (head_or (top_of r.table j) xs)
      go [] e rest = leave e r.stack refl rest
      go (b ∷ ts) e rest = let A : ScanAt g j b ts = record { cur = cur; todo = e; none_open = shut } in scan b ts A rest (scans_value I A M)

  -- ---- from the top of the stack

  abbrev pub WorksStack : Ghost → Run → Desk → Type 0
  WorksStack g r d = Together s S lacks_page finished page_lacks all_scanned (Scanned g) (work_stack n r) (Y.work_stack n (2 * length r.heap) d)

pub works_stack : {s : Store} {S : Sound s} {g : Ghost} {r : Run} {d : Desk} → Inv s S g r → g.cur ≡ none → g.half ≡ none → total g.todo s.ctl.regions + length r.stack ≤ 2 * length g.log
    → Matching s S g r d → WorksStack s S g r d
unfolding work_stack Y.work_from ends_finished finished_from
works_stack {s} {S} {g} {r} {d} I none_cur none_open cost M = go r.stack refl
  where
    go : (st : List Scan) → r.stack ≡ st → WorksStack s S g r d
    go [] e = both_go r (ends_work s.ctl.n r e) d (rw (pops_none M e)) (ends_finished I none_cur none_open e, M)
    go (t ∷ ts) e =
        come_to (begins_work I t ts e) is_at_work (λ r' e (F, M'). (finished_from (λ x m. m) F, M'))
        (works s S f (scanning g (some t.region)) (with_stack r ts) t.region (entered I none_cur t ts e) refl none_open (entered_enough I t ts e cost) d'
        (popped_matches M t ts e))
      where
        f : ℕ
        f = 2 * length r.heap

        d' : Desk
        d' = popped d ts

        a : ℕ
        a = begin g r t

        is_at_work : Y.work_stack s.ctl.n f d ≡ X.work s.ctl.n f (X.scanning t.region a d')
        is_at_work = rw (pops M t ts e) (ap (λ x. X.work s.ctl.n f (X.scanning t.region x d')) (begins_at I t ts e))
