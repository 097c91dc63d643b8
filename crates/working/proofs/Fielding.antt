-- One field of a copy set: the invariant after it. No header changes, so every row stays; only how many of the copy's fields are scanned does.
use Prim.Native.Nat.{ℕ, suc, ◌+◌, ◌<◌}
use native.Mathlib.Omega.{arith}
use mathlib.Core.Path.{◌≡◌, refl, sym, ap, ◌∙◌}
use mathlib.Core.Logic.{◌≢◌}
use mathlib.Core.Option.{some}
use mathlib.Core.List.{Memᴰ}
use mathlib.Core.Bool.{false≢true}
use lib.ListN.{length, set}
use lib.Seq.{get_or-set_other}
use Rattle.laws.specs.Lists.{at}
use Rattle.rules.specs.Memory.{Store, page_count}
use Rattle.rules.specs.Words.{rec, raw, head_of}
use Rattle.rules.specs.Pages.{Run, with_heap}
use Rattle.rules.proofs.Steps.{OnPage}
use Rattle.facts.proofs.Inside.{no_header}
use Rattle.facts.proofs.Laid.{upd, upd_other, page_in, mine≢beyond}
use Rattle.facts.proofs.Copied.{to, Rel}
use Rattle.facts.proofs.Sound.{Sound}
use Rattle.working.proofs.Log.{pointers, Copy}
use Rattle.working.proofs.Scanned.{scanned_log}
use Rattle.working.proofs.Fielded.{field_laid}
use Rattle.working.proofs.Rows.{row_in, row_like}
use Rattle.working.proofs.Invariant.{Ghost, Kept, Pending, Inv}

-- i fields of the copy at d are scanned
abbrev pub counted : Ghost → ℕ → ℕ → Ghost
counted g d i =
    record {
      own = g.own;
      fin = g.fin;
      pages = g.pages;
      free = g.free;
      log = g.log;
      count = upd g.count d i;
      past = g.past;
      todo = g.todo;
      cur = g.cur;
      half = g.half;
    }

module _ {s : Store} {S : Sound s} {g : Ghost} {r : Run} (I : Inv s S g r) {c d i v : ℕ} (m : Memᴰ (to c d) g.log)
    (i_in : i < (I.logged.copies m).len) (i_next : g.count d ≡ i) (rel : Rel (Kept s) (pointers g.log) (at s.heap (c + suc i)) v)
    {kind : ℕ} (head : head_of (at r.heap d) ≡ rec kind) (mid : g.half ≡ some d) (gone : (j : ℕ) → j < s.ctl.regions → Memᴰ d (g.todo j) → ⊥) where
  abbrev n : ℕ
  n = s.ctl.n

  abbrev N : ℕ
  N = page_count n s.heap

  abbrev R : ℕ
  R = s.ctl.regions

  abbrev C : Copy n s (Kept s) g.own g.fin r.heap g.log g.count c d
  C = I.logged.copies m

  abbrev x : ℕ
  x = d + suc i

  abbrev r' : Run
  r' = with_heap r (set r.heap x v)

  x_in : x < length r.heap
  x_in =
      let a = C.now.stands.ends in
      let b = page_in I.laid C.into (λ q. mine≢beyond C.into_mine q) in
      let e = I.laid.size in
      omega arith

  keep : (y : ℕ) → y ≢ x → at r.heap y ≡ at (set r.heap x v) y
  keep y ne = sym (get_or-set_other r.heap x y v 0 ne)

  -- no value of any page has its header there
  not_there : {k y l : ℕ} → OnPage n r.heap k y l → y ≢ x
  not_there = no_header C.now i i_in

  P : Pending n R g r
  P = I.pending

  pending : Pending n R (counted g d (suc i)) r'
  pending =
      record {
        rows = λ j j_r. row_like (λ y q. let F = row_in (P.rows j j_r) q in keep y (not_there F.value)) (λ k m. refl) (P.rows j j_r);
        untouched = λ j b j_r q. upd_other g.count d (suc i) b (λ e. gone j j_r (rw e at q)) ∙ P.untouched j b j_r q;
        scanned = λ {b = b} q away ne l e.
            let D = I.logged.copies q in
            rw (upd_other g.count d (suc i) b (λ t. ne (mid ∙ ap some (sym t))))
            (P.scanned q away ne l (ap head_of (keep b (not_there D.now)) ∙ e));
        raws = λ {b = b} q l e.
            let D = I.logged.copies q in
            let e' : head_of (at r.heap b) ≡ raw l = ap head_of (keep b (not_there D.now)) ∙ e in
            upd_other g.count d (suc i) b
            (λ t. let z : rec kind ≡ raw l = sym head ∙ ap (λ y. head_of (at r.heap y)) (sym t) ∙ e' in false≢true cc)
            ∙ P.raws q l e';
        queue = P.queue;
      }

  pub field_inv : Inv s S (counted g d (suc i)) r'
  field_inv =
      record {
        laid = field_laid I.laid C.into_mine C.now C.into_below i i_in v;
        logged = scanned_log I.logged m i_in i_next rel x_in (λ k j o. (I.laid.mine_body j k o).inside);
        pending = pending;
        from_space_lem = I.from_space_lem;
        owned = I.owned;
        tallied = I.tallied;
        taken = I.taken;
        width = I.width;
        past_rows = I.past_rows;
      }
