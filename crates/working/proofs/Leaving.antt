-- The scan goes to the region on top of the stack, or is over. It comes from no region, or from one whose copies are all scanned and whose
-- status is 0 again.
use Prim.Native.Nat.{ℕ, ◌+◌, ◌*◌, ◌≤◌, ◌<◌}
use native.Mathlib.Omega.{arith}
use native.Mathlib.Decide.{ℕ_discrete}
use mathlib.Core.Path.{◌≡◌, refl, sym, ap, ◌∙◌}
use mathlib.Core.Logic.{◌≢◌, ◌⊎◌, inl, inr}
use mathlib.Core.Option.{Option, none, some, none-ne-some, discrete}
use mathlib.Core.List.Memᴰ
use mathlib.Core.List.{List, [], ◌∷◌, Memᴰ}
use mathlib.Core.Bool.{false≢true}
use lib.ListN.{length, length-set}
use lib.Seq.{get_or-set_same, get_or-set_other}
use Rattle.laws.specs.Lists.{at}
use Rattle.laws.proofs.Once.{Once, once_none, once_tail, once_head}
use Rattle.rules.specs.Memory.{Store, status_of, set_status}
use Rattle.rules.specs.Pages.{Scan, Run, with_table, with_stack}
use Rattle.facts.proofs.Sound.{Sound}
use Rattle.working.proofs.Invariant.{waiting, waiting_on, Ghost, regions_of, Waits, Queue, Inv}
use Rattle.working.proofs.Next.{head_or}
use Rattle.working.proofs.Waking.{in_regions}

-- another region is scanned, or none
abbrev pub scanning : Ghost → Option ℕ → Ghost
scanning g c = waiting g g.past g.todo c g.half

-- a region on the stack waits still when the top is taken, or is the one taken
top_or_rest : (t : Scan) (ts : List Scan) (i : ℕ) → Memᴰ i (regions_of (t ∷ ts)) → Memᴰ i (regions_of ts) ⊎ (some t.region ≡ some i)
top_or_rest t ts i m = go (Memᴰ.cases_cons m)
  where
    go : (i ≡ t.region) ⊎ Memᴰ i (regions_of ts) → Memᴰ i (regions_of ts) ⊎ (some t.region ≡ some i)
    go (inl q) = inr (ap some (sym q))
    go (inr m) = inl m

-- the scan of the region on top begins at what waits in it
pub top_begins : {s : Store} {S : Sound s} {g : Ghost} {r : Run} (I : Inv s S g r) (t : Scan) (ts : List Scan) → r.stack ≡ t ∷ ts → (m : ℕ) → t.address ≡ head_or m (g.todo t.region)
top_begins I t ts e m = rw (I.pending.queue.stacked t (rw e (Memᴰ.head refl))).begins

-- the region taken is on the stack no more
top_once : (t : Scan) (ts : List Scan) → Once (regions_of (t ∷ ts)) → (u : Scan) → Memᴰ u ts → some t.region ≢ some u.region
top_once t ts o u m q = once_head o (rw (let z : t.region ≡ u.region = cc in z) (in_regions m))

-- region j left
abbrev pub left : ℕ → List Scan → Run → Run
left j stack r = with_stack (with_table r (set_status r.table j 0)) stack

pub left_empty : (j : ℕ) (r : Run) → r.stack ≡ [] → left j [] r ≡ with_table r (set_status r.table j 0)
left_empty j r e = ap (λ st. left j st r) (sym e)

-- another table for r: the region that was being scanned, if one was, sleeps there, and nothing waits in it; all else is as it was
record Relieved (s : Store) (g : Ghost) (r : Run) (table : List ℕ) : Type 0 where
  pub long : length table ≡ length r.table
  pub past : (x : ℕ) → 4 * s.ctl.regions ≤ x → at table x ≡ at r.table x
  pub rows : (i x : ℕ) → i < s.ctl.regions → 4 * i ≤ x → x < 4 * i + 3 → at table x ≡ at r.table x
  pub same : (i : ℕ) → g.cur ≢ some i → status_of table i ≡ status_of r.table i
  pub over : (i : ℕ) → g.cur ≡ some i → (status_of table i ≡ 0) × (g.todo i ≡ [])

module _ {s : Store} {S : Sound s} {g : Ghost} {r : Run} {table : List ℕ} (I : Inv s S g r) (T : Relieved s g r table) where
  abbrev R : ℕ
  R = s.ctl.regions

  abbrev Q : Queue R g.todo g.cur r.table r.stack
  Q = I.pending.queue

  -- c is scanned next, and the stack is then st
  module _ (c : Option ℕ) (st : List Scan) (sub : (t : Scan) → Memᴰ t st → Memᴰ t r.stack) (once : Once (regions_of st))
      (others : (t : Scan) → Memᴰ t st → c ≢ some t.region) (next : (i : ℕ) → c ≡ some i → (i < R) × (status_of r.table i ≢ 0) × (g.cur ≢ some i))
      (split : (i : ℕ) → Memᴰ i (regions_of r.stack) → Memᴰ i (regions_of st) ⊎ (c ≡ some i)) where
    waits : (t : Scan) → Memᴰ t st → Waits R g.todo c table t
    waits t m =
        let W = Q.stacked t (sub t m) in
        record { known = W.known; awake = rw (T.same t.region W.other) W.awake; other = others t m; rest = W.rest; begins = W.begins }

    idle : (i : ℕ) → i < R → status_of table i ≡ 0 → Dec (g.cur ≡ some i) → g.todo i ≡ []
    idle i i_r e (yes q) = (T.over i q).1
    idle i i_r e (no ne) = Q.idle i i_r (sym (T.same i ne) ∙ e)

    busy : (i : ℕ) → i < R → status_of table i ≢ 0 → Dec (g.cur ≡ some i) → Memᴰ i (regions_of st) ⊎ (c ≡ some i)
    busy i i_r e (yes q) = absurd (e (T.over i q).0)
    busy i i_r e (no ne) = go (Q.busy i i_r (λ q. e (T.same i ne ∙ q)))
      where
        go : Memᴰ i (regions_of r.stack) ⊎ (g.cur ≡ some i) → Memᴰ i (regions_of st) ⊎ (c ≡ some i)
        go (inl m) = split i m
        go (inr q) = absurd (ne q)

    next_inv : Inv s S (scanning g c) (with_stack (with_table r table) st)
    next_inv =
        waiting_on table st I T.long T.past T.rows
        (record {
          rows = I.pending.rows;
          untouched = I.pending.untouched;
          scanned = I.pending.scanned;
          raws = I.pending.raws;
          queue =
              record {
                stacked = waits;
                once = once;
                at_work = λ i e. let t = next i e in (t.0, rw (T.same i t.2) t.1);
                idle = λ i i_r e. idle i i_r e (discrete ℕ_discrete g.cur (some i));
                busy = λ i i_r e. busy i i_r e (discrete ℕ_discrete g.cur (some i));
              };
        })

  -- the stack is empty
  next_none : r.stack ≡ [] → Inv s S (scanning g none) (with_stack (with_table r table) [])
  next_none e =
      next_inv none [] (λ t m. elim m [ ]) once_none (λ t m. elim m [ ])
      (λ i q. absurd (false≢true cc)) (λ i m. inl (rw e at m))

  -- the region on top is next
  next_top : (t : Scan) (ts : List Scan) → r.stack ≡ t ∷ ts → Inv s S (scanning g (some t.region)) (with_stack (with_table r table) ts)
  next_top t ts e =
      next_inv (some t.region) ts (λ u m. rw e (Memᴰ.tail m)) (once_tail (rw e at Q.once))
      (top_once t ts (rw e at Q.once))
      (λ i q. let z : t.region ≡ i = cc in rw (← z) (top.known, top.awake, top.other))
      (λ i m. top_or_rest t ts i (rw e at m))
    where
      top : Waits R g.todo g.cur r.table t
      top = Q.stacked t (rw e (Memᴰ.head refl))

-- no region was being scanned: the one on top of the stack is first
pub entered : {s : Store} {S : Sound s} {g : Ghost} {r : Run} → Inv s S g r → g.cur ≡ none → (t : Scan) (ts : List Scan) → r.stack ≡ t ∷ ts
    → Inv s S (scanning g (some t.region)) (with_stack r ts)
entered I e =
    next_top I (record { long = refl; past = λ x b. refl; rows = λ i x b lo hi. refl; same = λ i ne. refl; over = λ i q. absurd (none-ne-some i (sym e ∙ q)) })

-- region j was being scanned, and nothing waits in it
module _ {s : Store} {S : Sound s} {g : Ghost} {r : Run} {j : ℕ} (I : Inv s S g r) (cur : g.cur ≡ some j) (none_left : g.todo j ≡ []) where
  relieved : Relieved s g r (set_status r.table j 0)
  relieved =
      let wide = I.laid.rows in
      let j_r = (I.pending.queue.at_work j cur).0 in
      let else : (x : ℕ) → x ≢ 4 * j + 3 → at (set_status r.table j 0) x ≡ at r.table x = λ x ne. get_or-set_other r.table (4 * j + 3) x 0 0 ne in
      record {
        long = length-set r.table (4 * j + 3) 0;
        past = λ x b. else x (omega arith);
        rows = λ i x b lo hi. else x (omega arith);
        same = λ i ne. let d : i ≢ j = λ q. ne (cur ∙ ap some (sym q)) in else (4 * i + 3) (omega arith);
        over = λ i q.
            let z : some j ≡ some i = sym cur ∙ q in
            let e : j ≡ i = cc in
            rw (← e) (get_or-set_same r.table (4 * j + 3) 0 0 (omega arith), none_left);
      }

  -- the stack is empty
  pub left_last : r.stack ≡ [] → Inv s S (scanning g none) (left j [] r)
  left_last = next_none I relieved

  -- the region on top is next
  pub left_next : (u : Scan) (us : List Scan) → r.stack ≡ u ∷ us → Inv s S (scanning g (some u.region)) (left j us r)
  left_next = next_top I relieved
