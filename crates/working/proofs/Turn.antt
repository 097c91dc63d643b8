-- One turn of the scan: the first copy that waits in the region is opened, its fields are scanned, and it is closed. A raw copy is done at once.
-- Opening and closing it change no word, and scanning keeps the invariant.
use Prim.Native.Nat.{ℕ, suc, ◌+◌, ◌*◌, ◌≤◌, ◌<◌}
use native.Mathlib.Omega.{arith}
use native.Mathlib.Decide.{ℕ_discrete}
use mathlib.Core.Path.{◌≡◌, refl, sym, ap, ◌∙◌, subst}
use mathlib.Core.Logic.{◌≢◌}
use mathlib.Core.Option.{none, some, none-ne-some}
use mathlib.Core.List.Memᴰ
use mathlib.Core.List.{List, [], ◌∷◌, ◌++◌, append_assoc, Memᴰ}
use mathlib.Core.Bool.{false≢true}
use lib.ListN.{length}
use Rattle.laws.specs.Lists.{at}
use Rattle.laws.proofs.Once.{once_head, once_split, in_tail}
use Rattle.rules.specs.Memory.{Store, status_of}
use Rattle.rules.specs.Words.{rec, raw, head_of}
use Rattle.rules.specs.Pages.{Scan, Run}
use Rattle.rules.proofs.Pointers.{Heads, a_record, raw_words, head_is}
use Rattle.rules.specs.Collection.{scan_fields, scan_value}
use Rattle.facts.proofs.Laid.{mine, upd, upd_same, upd_other, mine_inj}
use Rattle.facts.proofs.Copied.{Moved, to}
use Rattle.facts.proofs.Sound.{Sound}
use Rattle.working.proofs.Owned.{total, total_tail}
use Rattle.working.proofs.Next.{Row}
use Rattle.working.proofs.Rows.{InRow, row_in, row_once}
use Rattle.facts.proofs.Inside.{pages_differ}
use Rattle.rules.specs.Wanted.{fields_for, value_for}
use Rattle.working.proofs.Wanting.{Goes, goes_on, lacks_as}
use Rattle.working.proofs.Dry.{Overdrawn}
use Rattle.working.proofs.Invariant.{waiting, waiting_inv, Ghost, Waits, Queue, Pending, Inv, Later, later_refl}
use Rattle.working.proofs.Scanning.{Ready, scans_fields}

-- the copy at b, the first that waits in region j, is being scanned; ts wait behind it
abbrev pub opened : Ghost → ℕ → ℕ → List ℕ → Ghost
opened g j b ts = waiting g (upd g.past j (g.past j ++ b ∷ [])) (upd g.todo j ts) g.cur (some b)

-- no copy is being scanned
abbrev pub closed : Ghost → Ghost
closed g = waiting g g.past g.todo g.cur none

-- the scan stands at b, the first copy that waits in region j; ts wait behind it, and no copy is open
pub record ScanAt (g : Ghost) (j b : ℕ) (ts : List ℕ) : Type 0 where
  pub cur : g.cur ≡ some j
  pub todo : g.todo j ≡ b ∷ ts
  pub none_open : g.half ≡ none

-- ---- opened
module _ {s : Store} {S : Sound s} {g : Ghost} {r : Run} {j b : ℕ} {ts : List ℕ} (I : Inv s S g r) (A : ScanAt g j b ts) where
  abbrev n : ℕ
  n = s.ctl.n

  abbrev R : ℕ
  R = s.ctl.regions

  abbrev P : Pending n R g r
  P = I.pending

  abbrev Q : Queue R g.todo g.cur r.table r.stack
  Q = P.queue

  j_r : j < R
  j_r = (Q.at_work j A.cur).0

  row : Row n r.heap g.fin (g.pages j) (g.past j ++ b ∷ ts)
  row = subst (λ xs. Row n r.heap g.fin (g.pages j) (g.past j ++ xs)) A.todo (P.rows j j_r)

  b_row : InRow n r.heap g.fin (g.pages j) b
  b_row = row_in row (Memᴰ.append_right (g.past j) (Memᴰ.head refl))

  -- it waits nowhere else
  pub b_gone : (i : ℕ) → i < R → Memᴰ b ((opened g j b ts).todo i) → ⊥
  b_gone i i_r m = go (ℕ_discrete i j)
    where
      own : g.own b_row.page ≡ mine j
      own = I.laid.mine_own j b_row.page j_r b_row.here

      go : Dec (i ≡ j) → ⊥
      go (yes e) = once_head (once_split (g.past j) (row_once row (I.laid.mine_once j j_r))).1 (rw (upd_same g.todo j ts i e) at m)
      go (no ne) =
          let F = row_in (P.rows i i_r) (Memᴰ.append_right (g.past i) (rw (upd_other g.todo j ts i ne) at m)) in
          let own' = I.laid.mine_own i F.page i_r F.here in
          pages_differ b_row.value F.value (λ e. ne (mine_inj (sym own' ∙ ap g.own (sym e) ∙ own))) refl

  still : (i c : ℕ) → c ≢ b → Dec (i ≡ j) → Memᴰ c (g.todo i) → Memᴰ c ((opened g j b ts).todo i)
  still i c ne (yes e) m = rw (upd_same g.todo j ts i e) (in_tail ne (rw (ap g.todo e ∙ A.todo) at m))
  still i c ne (no nj) m = rw (upd_other g.todo j ts i nj) m

  before : (i c : ℕ) → Dec (i ≡ j) → Memᴰ c ((opened g j b ts).todo i) → Memᴰ c (g.todo i)
  before i c (yes e) m = rw (ap g.todo e ∙ A.todo) (Memᴰ.tail (rw (upd_same g.todo j ts i e) at m))
  before i c (no nj) m = rw (upd_other g.todo j ts i nj) at m

  rows : (i : ℕ) → i < R → Dec (i ≡ j) → Row n r.heap g.fin (g.pages i) ((opened g j b ts).past i ++ (opened g j b ts).todo i)
  rows i i_r (yes e) =
      rw (upd_same g.past j (g.past j ++ b ∷ []) i e, upd_same g.todo j ts i e, e)
      (subst (λ xs. Row n r.heap g.fin (g.pages j) xs) (sym (append_assoc (g.past j) (b ∷ []) ts)) row)
  rows i i_r (no ne) = rw (upd_other g.past j (g.past j ++ b ∷ []) i ne, upd_other g.todo j ts i ne) (P.rows i i_r)

  waits : (t : Scan) → Waits R g.todo g.cur r.table t → Waits R (upd g.todo j ts) g.cur r.table t
  waits t W =
      let ne : t.region ≢ j = λ q. W.other (A.cur ∙ ap some (sym q)) in
      record { known = W.known; awake = W.awake; other = W.other; rest = W.rest; begins = upd_other g.todo j ts t.region ne ∙ W.begins }

  opened_pending : Pending n R (opened g j b ts) r
  opened_pending =
      record {
        rows = λ i i_r. rows i i_r (ℕ_discrete i j);
        untouched = λ i c i_r m. P.untouched i c i_r (before i c (ℕ_discrete i j) m);
        scanned = λ {b = c} m gone ne l e.
            P.scanned m (λ i i_r q. gone i i_r (still i c (λ t. ne (ap some (sym t))) (ℕ_discrete i j) q))
            (λ q. none-ne-some c (sym A.none_open ∙ q)) l e;
        raws = P.raws;
        queue =
            record {
              stacked = λ t m. waits t (Q.stacked t m);
              once = Q.once;
              at_work = Q.at_work;
              idle = λ i i_r e. upd_other g.todo j ts i (λ q. (Q.at_work j A.cur).1 (ap (status_of r.table) (sym q) ∙ e)) ∙ Q.idle i i_r e;
              busy = Q.busy;
            };
      }

  pub opened_inv : Inv s S (opened g j b ts) r
  opened_inv = waiting_inv r.stack I opened_pending

  -- it is a copy
  pub b_entry : (c : ℕ) × Memᴰ (to c b) g.log
  b_entry =
      let F = b_row in
      let below = F.below in
      I.logged.every F.page j b (I.laid.mine_own j F.page j_r F.here) F.value.steps (omega arith)

  pub b_fresh : g.count b ≡ 0
  b_fresh = P.untouched j b j_r (rw A.todo (Memᴰ.head refl))

  pub one_less : suc (total (opened g j b ts).todo R) ≡ total g.todo R
  one_less = total_tail g.todo j b ts R j_r A.todo

-- ---- closed
module _ {s : Store} {S : Sound s} {g : Ghost} {r : Run} {d : ℕ} (I : Inv s S g r) (mid : g.half ≡ some d) (full : (l : ℕ) → head_of (at r.heap d) ≡ rec l → l ≤ g.count d) where
  closed_pending : Pending s.ctl.n s.ctl.regions (closed g) r
  closed_pending =
      let P = I.pending in
      record {
        rows = P.rows;
        untouched = P.untouched;
        scanned = λ {b = c} m gone ne l e. go c (ℕ_discrete c d) l e (λ q. P.scanned m gone q l e);
        raws = P.raws;
        queue = P.queue;
      }
    where
      go : (c : ℕ) → Dec (c ≡ d) → (l : ℕ) → head_of (at r.heap c) ≡ rec l → (g.half ≢ some c → l ≤ g.count c) → l ≤ g.count c
      go c (yes q) l e rest = rw q (full l (ap (λ x. head_of (at r.heap x)) (sym q) ∙ e))
      go c (no ne) l e rest = rest (λ q. ne (let z : some d ≡ some c = sym mid ∙ q in cc))

  pub closed_inv : Inv s S (closed g) r
  closed_inv = waiting_inv r.stack I closed_pending

-- ---- a turn

-- the copy at b of region j is scanned
pub record Turned (s : Store) (S : Sound s) (g : Ghost) (r : Run) (j b : ℕ) (r' : Run) : Type 0 where
  pub ghost : Ghost
  pub inv : Inv s S ghost r'
  pub cur : ghost.cur ≡ some j
  pub none_open : ghost.half ≡ none
  pub past : ghost.past j ≡ g.past j ++ b ∷ []
  pub log : (x : Moved) → Memᴰ x g.log → Memᴰ x ghost.log
  pub cost : total ghost.todo s.ctl.regions + length r'.stack + suc (2 * length g.log) ≤ total g.todo s.ctl.regions + length r.stack + 2 * length ghost.log

abbrev pub Turns : (s : Store) → Sound s → Ghost → Run → ℕ → ℕ → Type 0
Turns s S g r j b = Goes none some (scan_value s.ctl.n b r) (Overdrawn s (value_for s.ctl.n b r)) (λ r'. Turned s S g r j b r')

module _ {s : Store} {S : Sound s} {g : Ghost} {r : Run} {j b : ℕ} {ts : List ℕ} (I : Inv s S g r) (A : ScanAt g j b ts) where
  abbrev pub c : ℕ
  c = (b_entry I A).0

  pub m : Memᴰ (to c b) g.log
  m = (b_entry I A).1

  pub header : at r.heap b ≡ at s.heap c
  header = (I.logged.copies m).head

  -- from a state in which all its fields are scanned, or that has none
  unfoldable pub turned : {g' : Ghost} {r' : Run} → Inv s S g' r' → Later s.ctl.regions (opened g j b ts) r g' r' → ((l : ℕ) → head_of (at r'.heap b) ≡ rec l → l ≤ g'.count b) → Turned s S g r j b r'
  turned {g'} {r'} I' L full =
      let less = one_less I A in
      let cost = L.cost in
      record {
        ghost = closed g';
        inv = closed_inv I' L.half full;
        cur = L.cur ∙ A.cur;
        none_open = refl;
        past = L.past j ∙ upd_same g.past j (g.past j ++ b ∷ []) j refl;
        log = L.log;
        cost = omega arith;
      }

  -- raw words: nothing is to be scanned
  unfoldable pub raw_turned : {l : ℕ} → head_of (at r.heap b) ≡ raw l → Turned s S g r j b r
  unfolding turned
  raw_turned {l} e = turned (opened_inv I A) (later_refl _ _ _) (λ k q. let z : raw l ≡ rec k = sym e ∙ q in absurd (false≢true cc))

  -- a record: its fields are scanned from the first
  module _ {l : ℕ} (e : head_of (at r.heap b) ≡ rec l) where
    unfoldable pub ready : Ready s S (opened g j b ts) r c b l r 0
    ready =
        record {
          ghost = opened g j b ts;
          inv = opened_inv I A;
          later = later_refl _ _ _;
          entry = m;
          next = b_fresh I A;
          mid = refl;
          gone = b_gone I A;
        }

    pub scan_is : (scan_value s.ctl.n b r ≡ scan_fields s.ctl.n l (b + suc 0) r) × (value_for s.ctl.n b r ≡ fields_for s.ctl.n l (b + suc 0) r)
    unfolding scan_value value_for
    scan_is =
        let q : suc b ≡ b + suc 0 = omega arith in
        (rw (e, scan_value) (ap (λ x. scan_fields s.ctl.n l x r) q), rw (e, value_for) (ap (λ x. fields_for s.ctl.n l x r) q))

    -- after the last of them none is left
    unfoldable pub record_turned : {r' : Run} → Ready s S (opened g j b ts) r c b l r' l → Turned s S g r j b r'
    unfolding turned
    record_turned Q =
        turned Q.inv Q.later
        (λ k q.
        let t : rec k ≡ rec l = sym q ∙ ap head_of ((Q.inv.logged.copies Q.entry).head ∙ sym header) ∙ e in
        let u : k ≡ l = cc in
        let w = Q.next in
        omega arith)

  abbrev l : ℕ
  l = (I.logged.copies m).len

  by_head : Heads (head_of (at r.heap b)) l → Turns s S g r j b
  unfolding scan_value
  by_head (raw_words e) = goes_on r (rw (e, scan_value)) (raw_turned e)
  by_head (a_record e) = lacks_as (scan_is e).0 (scan_is e).1 (λ r'. record_turned e) (scans_fields (ap head_of (sym header) ∙ e) l r 0 (omega arith) (ready e))

  pub scans_value : Turns s S g r j b
  scans_value = by_head (head_is (head_of (at r.heap b)) l (I.logged.copies m).now.stands.head)
