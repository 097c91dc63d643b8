-- A copy scanned, whole: its fields one after the other, each evacuated and set. Its region's copies to be scanned lose it, and get those copied
-- meanwhile at their end. By recursion on the fields: each one scanned keeps the invariant.
use Prim.Native.Nat.{ℕ, zero, suc, ◌+◌, ◌*◌, ◌<◌}
use native.Mathlib.Omega.{arith}
use mathlib.Core.Path.{◌≡◌, refl, ap, ◌∙◌, subst}
use mathlib.Core.Bool.{true}
use mathlib.Core.Option.{none, some}
use mathlib.Core.List.{Memᴰ}
use lib.ListN.{set, take, drop}
use Rattle.laws.specs.Lists.{at}
use Rattle.rules.specs.Memory.{Store}
use Rattle.rules.specs.Words.{rec, head_of, record_by, is_record}
use Rattle.rules.specs.Pages.{Run, with_heap}
use Rattle.rules.specs.Collection.{evacuate, scan_fields}
use Rattle.rules.specs.Calls.{look_in}
use Rattle.rules.specs.Seen.{seen, Reached, field}
use Rattle.rules.proofs.Steps.{record_length}
use Rattle.facts.proofs.Laid.{upd_same}
use Rattle.facts.proofs.Copied.{to}
use Rattle.facts.proofs.Looked.{heap_seen, seen_at}
use Rattle.facts.proofs.Sound.{Good, Sound}
use Rattle.working.proofs.Log.{Copy}
use Rattle.rules.specs.Wanted.{evacuate_for, fields_for}
use Rattle.working.proofs.Wanting.{Goes, wants_page_lem, goes_on, lacks_as, follows_some, evacuate_beside, fields_beside}
use Rattle.working.proofs.Dry.{Overdrawn, set_dry}
use Rattle.working.proofs.Invariant.{Ghost, Kept, Inv, copied_in, copy_was, Later, later_trans, Became, Evacuates}
use Rattle.working.proofs.Evacuation.{evacuates}
use Rattle.working.proofs.Fielding.{counted, field_inv}

-- the value of before, as it is seen
pub seen_old : {s : Store} {S : Sound s} {g : Ghost} {r : Run} {c d : ℕ} (I : Inv s S g r) (m : Memᴰ (to c d) g.log)
    → look_in s (4 * c) ≡ take (suc (I.logged.copies m).len) (drop c s.heap)
seen_old {s} {S} {c = c} I m = heap_seen s S.within.paged c (copy_was I m)

-- ---- the fields of a record

-- i of the l fields of the copy at d, whose value was at c, are scanned
pub record Ready (s : Store) (S : Sound s) (g₀ : Ghost) (r₀ : Run) (c d l : ℕ) (r : Run) (i : ℕ) : Type 0 where
  pub ghost : Ghost
  pub inv : Inv s S ghost r
  pub later : Later s.ctl.regions g₀ r₀ ghost r
  pub entry : Memᴰ (to c d) ghost.log
  pub next : ghost.count d ≡ i
  pub mid : ghost.half ≡ some d
  pub gone : (j : ℕ) → j < s.ctl.regions → Memᴰ d (ghost.todo j) → ⊥

-- the m fields from the i-th on
abbrev Scans : (s : Store) → Sound s → Ghost → Run → (c d l : ℕ) → Run → ℕ → ℕ → Type 0
Scans s S g₀ r₀ c d l r m i = Goes none some (scan_fields s.ctl.n m (d + suc i) r) (Overdrawn s (fields_for s.ctl.n m (d + suc i) r)) (λ r'. Ready s S g₀ r₀ c d l r' l)

module _ {s : Store} {S : Sound s} {g₀ : Ghost} {r₀ : Run} {c d l : ℕ} (head : head_of (at s.heap c) ≡ rec l) where
  pub len_is : {r : Run} {i : ℕ} (Q : Ready s S g₀ r₀ c d l r i) → (Q.inv.logged.copies Q.entry).len ≡ l
  len_is Q = record_length (Q.inv.logged.copies Q.entry).was.stands head

  -- the field to scan
  module _ {r : Run} {i : ℕ} (b : i < l) (Q : Ready s S g₀ r₀ c d l r i) where
    abbrev n : ℕ
    n = s.ctl.n

    abbrev w : ℕ
    w = at s.heap (c + suc i)

    abbrev C : Copy n s (Kept s) Q.ghost.own Q.ghost.fin r.heap Q.ghost.log Q.ghost.count c d
    C = Q.inv.logged.copies Q.entry

    -- it is the old word
    pub unscanned : at r.heap (d + suc i) ≡ w
    unscanned = let z = len_is Q in let e = Q.next in C.waiting i (omega arith) (omega arith)

    kind : is_record (at s.heap c) ≡ true
    unfolding is_record
    kind = ap record_by head

    pub field_good : Good n s.ctl.regions s.heap s.consts w
    field_good =
        let t = (Q.inv.from_space_lem C.from).0 C.from_old in
        let z = len_is Q in
        S.fields t.0 C.from c C.len i t.1 t.2 C.was kind (omega arith)

    pub field_reached : Reached (seen s) s.roots w
    field_reached =
        let z = len_is Q in
        let v = seen_at (copied_in Q.inv Q.entry) (seen_old Q.inv Q.entry) in
        let long = v.long in
        subst (Reached (seen s) s.roots) (v.field i (omega arith)) (field i (Q.inv.logged.live Q.entry) (ap is_record v.head ∙ kind) (omega arith))

    -- what the run makes of it
    pub field_lacks : (m : ℕ) → evacuate n w r ≡ none → scan_fields n (suc m) (d + suc i) r ≡ none
    unfolding scan_fields
    field_lacks m q = rw (unscanned, scan_fields, q)

    pub field_scans : (m v : ℕ) (r' : Run) → evacuate n w r ≡ some (v, r')
        → scan_fields n (suc m) (d + suc i) r ≡ scan_fields n m (d + suc (suc i)) (with_heap r' (set r'.heap (d + suc i) v))
    unfolding scan_fields
    field_scans m v r' q =
        let t : suc (d + suc i) ≡ d + suc (suc i) = omega arith in
        rw (unscanned, scan_fields, q) (ap (λ x. scan_fields n m x (with_heap r' (set r'.heap (d + suc i) v))) t)

    -- one field
    unfoldable pub stepped : {v : ℕ} {r' : Run} → Became s S Q.ghost r w v r' → Ready s S g₀ r₀ c d l (with_heap r' (set r'.heap (d + suc i) v)) (suc i)
    stepped {v} {r'} O =
        let m = O.later.log (to c d) Q.entry in
        let e : (O.inv.logged.copies m).len ≡ l = record_length (O.inv.logged.copies m).was.stands head in
        let gone : (j : ℕ) → j < s.ctl.regions → Memᴰ d (O.ghost.todo j) → ⊥ = λ j j_r q. Q.gone j j_r (O.later.waits Q.entry j q) in
        let mid : O.ghost.half ≡ some d = O.later.half ∙ Q.mid in
        let L = later_trans Q.later O.later in
        record {
          ghost = counted O.ghost d (suc i);
          inv = field_inv O.inv m (omega arith) (O.count Q.entry ∙ Q.next) O.rel (ap head_of (O.inv.logged.copies m).head ∙ head) mid gone;
          later = record { log = L.log; cur = L.cur; half = L.half; past = L.past; todo = L.todo; waits = L.waits; cost = L.cost };
          entry = m;
          next = upd_same O.ghost.count d (suc i) d refl;
          mid = mid;
          gone = gone;
        }

  pub scans_fields : (m : ℕ) (r : Run) (i : ℕ) → i + m ≡ l → Ready s S g₀ r₀ c d l r i → Scans s S g₀ r₀ c d l r m i
  unfolding scan_fields fields_for
  scans_fields zero r i e Q = let q : i ≡ l = omega arith in goes_on r refl (rw q at Q)
  scans_fields (suc m) r i e Q =
      go (λ r' Q'. scans_fields m r' (suc i) (omega arith) Q')
      (evacuates Q.inv (w b Q) (field_good b Q) (field_reached b Q))
    where
      b : i < l
      b = omega arith

      -- and so goes the working with as many pages as it wants
      step_for : (v : ℕ) (r' : Run) → evacuate s.ctl.n (w b Q) r ≡ some (v, r')
          → fields_for s.ctl.n (suc m) (d + suc i) r ≡ fields_for s.ctl.n m (d + suc (suc i)) (with_heap r' (set r'.heap (d + suc i) v))
      step_for v r' q =
          let e : evacuate_for s.ctl.n (w b Q) r ≡ (v, r') = follows_some (evacuate_beside s.ctl.n (w b Q) r).0 q in
          let t : suc (d + suc i) ≡ d + suc (suc i) = omega arith in
          rw (unscanned b Q, e) (ap (λ x. fields_for s.ctl.n m x (with_heap r' (set r'.heap (d + suc i) v))) t)

      over : Overdrawn s (evacuate_for s.ctl.n (w b Q) r).1 → Overdrawn s (fields_for s.ctl.n (suc m) (d + suc i) r)
      over y = rw (unscanned b Q) ((fields_beside s.ctl.n m (suc (d + suc i)) _).1 _ (set_dry (d + suc i) (evacuate_for s.ctl.n (w b Q) r).0 y))

      go : ((r' : Run) → Ready s S g₀ r₀ c d l r' (suc i) → Scans s S g₀ r₀ c d l r' m (suc i)) → Evacuates s S Q.ghost r (w b Q) (evacuate s.ctl.n (w b Q) r) (evacuate_for s.ctl.n (w b Q) r).1 → Scans s S g₀ r₀ c d l r (suc m) i
      go rest (wants_page_lem q y) = wants_page_lem (field_lacks b Q m q) (over y)
      go rest (goes_on (v, r') q B) = lacks_as (field_scans b Q m v r' q) (step_for v r' q) (λ r'' R. R) (rest _ (stepped b Q B))
