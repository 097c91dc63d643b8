-- A copy put into region j: its region is woken, or was awake; what waits stays in order. Only the region's status and the top of the
-- stack change, and the copy is the last of its region's copies to be scanned.
use Prim.Native.Nat.{ℕ, suc, ◌+◌, ◌*◌, ◌≤◌, ◌<◌}
use native.Mathlib.Omega.{arith}
use native.Mathlib.Decide.{ℕ_discrete}
use mathlib.Core.Path.{◌≡◌, refl, sym, ap, ◌∙◌}
use mathlib.Core.Logic.{◌≢◌, ◌⊎◌, inl, inr}
use mathlib.Core.Option.{Option, some}
use mathlib.Core.List.Memᴰ
use mathlib.Core.List.{List, [], ◌∷◌, ◌++◌, Memᴰ}
use lib.ListN.{length, length-set}
use lib.Seq.{get_or-set_same, get_or-set_other}
use Rattle.laws.specs.Lists.{at}
use Rattle.laws.proofs.Once.{Once, once_more}
use Rattle.rules.specs.Memory.{status_of}
use Rattle.rules.specs.Pages.{Scan, Run}
use Rattle.rules.specs.Collection.{wake}
use Rattle.working.proofs.Aside.{wake_by}
use Rattle.working.proofs.Invariant.{regions_of, Waits, Queue}

abbrev pub entry : ℕ → ℕ → Scan
entry j b = record { region = j; address = b }

-- the region slept and is on top of the stack now, or was awake and the stack is as it was
pub data Stacked (j b : ℕ) (r r' : Run) : Type 0 where
  slept : status_of r.table j ≡ 0 → r'.stack ≡ entry j b ∷ r.stack → Stacked j b r r'
  was_awake : status_of r.table j ≢ 0 → r'.stack ≡ r.stack → Stacked j b r r'

-- region j woken for the copy at b
pub record Woken (j b : ℕ) (r r' : Run) : Type 0 where
  pub heap : r'.heap ≡ r.heap
  pub width : length r'.table ≡ length r.table
  pub row : (x : ℕ) → x ≢ 4 * j + 3 → at r'.table x ≡ at r.table x
  pub awake : status_of r'.table j ≢ 0
  pub how : Stacked j b r r'

pub wakes : (n j b : ℕ) (r : Run) → 4 * j + 3 < length r.table → Woken j b r (wake n j b r)
wakes n j b r inside =
    wake_by n j b r (Woken j b r)
    (λ e.
    record {
      heap = refl;
      width = length-set r.table (4 * j + 3) 1;
      row = λ x ne. get_or-set_other r.table (4 * j + 3) x 1 0 ne;
      awake = λ q. let t = get_or-set_same r.table (4 * j + 3) 1 0 inside in omega arith;
      how = slept e refl;
    })
    (λ ne. record { heap = refl; width = refl; row = λ x f. refl; awake = ne; how = was_awake ne refl })

pub in_regions : {t : Scan} {ts : List Scan} → Memᴰ t ts → Memᴰ t.region (regions_of ts)
in_regions m = Memᴰ.map (λ (t : Scan). t.region) m

pub of_regions : {j : ℕ} (ts : List Scan) → Memᴰ j (regions_of ts) → (t : Scan) × Memᴰ t ts × (j ≡ t.region)
of_regions ts m = let t = Memᴰ.of_map (λ (t : Scan). t.region) ts m in (t.0, t.1, sym t.2)

-- the queue after it: the copy b waits behind region j's others
module _ {R : ℕ} {todo todo' : ℕ → List ℕ} {cur : Option ℕ} {r r' : Run} {j b : ℕ} (Q : Queue R todo cur r.table r.stack) (j_r : j < R)
    (todo_own : todo' j ≡ todo j ++ b ∷ []) (todo_other : (i : ℕ) → i ≢ j → todo' i ≡ todo i)
    (rows : (i : ℕ) → i ≢ j → status_of r'.table i ≡ status_of r.table i) (awake : status_of r'.table j ≢ 0) (how : Stacked j b r r') where
  -- an entry of before
  old_entry : (t : Scan) → Memᴰ t r.stack → Waits R todo' cur r'.table t
  old_entry t m = go (ℕ_discrete t.region j)
    where
      W : Waits R todo cur r.table t
      W = Q.stacked t m

      go : Dec (t.region ≡ j) → Waits R todo' cur r'.table t
      go (yes e) =
          record {
            known = W.known;
            awake = rw e awake;
            other = W.other;
            rest = W.rest ++ b ∷ [];
            begins = ap todo' e ∙ todo_own ∙ ap (λ i. todo i ++ b ∷ []) (sym e) ∙ ap (λ xs. xs ++ b ∷ []) W.begins;
          }
      go (no ne) =
          record { known = W.known; awake = rw (rows t.region ne) W.awake; other = W.other; rest = W.rest; begins = todo_other t.region ne ∙ W.begins }

  -- a sleeping region is on no stack and not at work
  not_stacked : status_of r.table j ≡ 0 → Memᴰ j (regions_of r.stack) → ⊥
  not_stacked e m = let t = of_regions r.stack m in (Q.stacked t.0 t.1).awake (ap (status_of r.table) (sym t.2) ∙ e)

  new_entry : status_of r.table j ≡ 0 → Waits R todo' cur r'.table (entry j b)
  new_entry e =
      record {
        known = j_r;
        awake = awake;
        other = λ q. (Q.at_work j q).1 e;
        rest = [];
        begins = todo_own ∙ ap (λ xs. xs ++ b ∷ []) (Q.idle j j_r e);
      }

  stacked : (t : Scan) → Memᴰ t r'.stack → Waits R todo' cur r'.table t
  stacked t m = go how
    where
      by : status_of r.table j ≡ 0 → (t ≡ entry j b) ⊎ Memᴰ t r.stack → Waits R todo' cur r'.table t
      by e (inl q) = rw q (new_entry e)
      by e (inr q) = old_entry t q

      go : Stacked j b r r' → Waits R todo' cur r'.table t
      go (slept e q) = by e (Memᴰ.cases_cons (rw q at m))
      go (was_awake e q) = old_entry t (rw q at m)

  once : Once (regions_of r'.stack)
  once = go how
    where
      go : Stacked j b r r' → Once (regions_of r'.stack)
      go (slept e q) = rw q (once_more (not_stacked e) Q.once)
      go (was_awake e q) = rw q Q.once

  at_work : (i : ℕ) → cur ≡ some i → (i < R) × (status_of r'.table i ≢ 0)
  at_work i e = go (ℕ_discrete i j)
    where
      W : (i < R) × (status_of r.table i ≢ 0)
      W = Q.at_work i e

      go : Dec (i ≡ j) → (i < R) × (status_of r'.table i ≢ 0)
      go (yes q) = (W.0, rw q awake)
      go (no ne) = (W.0, rw (rows i ne) W.1)

  idle : (i : ℕ) → i < R → status_of r'.table i ≡ 0 → todo' i ≡ []
  idle i i_r e = go (ℕ_discrete i j)
    where
      go : Dec (i ≡ j) → todo' i ≡ []
      go (yes q) = absurd (awake (ap (status_of r'.table) (sym q) ∙ e))
      go (no ne) = todo_other i ne ∙ Q.idle i i_r (sym (rows i ne) ∙ e)

  busy : (i : ℕ) → i < R → status_of r'.table i ≢ 0 → Memᴰ i (regions_of r'.stack) ⊎ (cur ≡ some i)
  busy i i_r ne = go how (ℕ_discrete i j)
    where
      up : ((x : ℕ) → Memᴰ x (regions_of r.stack) → Memᴰ x (regions_of r'.stack)) → Memᴰ i (regions_of r.stack) ⊎ (cur ≡ some i)
          → Memᴰ i (regions_of r'.stack) ⊎ (cur ≡ some i)
      up f (inl m) = inl (f i m)
      up f (inr q) = inr q

      go : Stacked j b r r' → Dec (i ≡ j)
          → Memᴰ i (regions_of r'.stack) ⊎ (cur ≡ some i)
      go (slept f t) (yes q) = inl (rw t (Memᴰ.head q))
      go (slept f t) (no nq) = up (λ x m. rw t (Memᴰ.tail m)) (Q.busy i i_r (λ e. ne (rows i nq ∙ e)))
      go (was_awake f t) (yes q) = up (λ x m. rw t m) (Q.busy i i_r (λ e. f (ap (status_of r.table) (sym q) ∙ e)))
      go (was_awake f t) (no nq) = up (λ x m. rw t m) (Q.busy i i_r (λ e. ne (rows i nq ∙ e)))

  pub woken : Queue R todo' cur r'.table r'.stack
  woken = record { stacked = stacked; once = once; at_work = at_work; idle = idle; busy = busy }

-- one entry more at most
pub woken_deep : {j b : ℕ} {r r' : Run} → Stacked j b r r' → length r'.stack ≤ suc (length r.stack)
woken_deep (slept e q) = rw q (omega arith)
woken_deep (was_awake e q) = rw q (omega arith)
