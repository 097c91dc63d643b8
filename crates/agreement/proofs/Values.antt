-- A copy scanned at work and in the plain run: both read the same header, and a record's fields go alike.
use Prim.Native.Nat.{ℕ, suc, ◌+◌, ◌/◌, ◌%◌}
use native.Mathlib.Omega.{arith}
use mathlib.Core.Path.{◌≡◌, sym, ap, ◌∙◌}
use mathlib.Core.Logic.{◌≢◌}
use mathlib.Core.Bool.{true, false}
use mathlib.Core.Option.{none, some}
use mathlib.Core.List.{List}
use borrow.Author.Tests.{eq-eqb, ne_eqb}
use Rattle.laws.specs.Lists.{at}
use Rattle.laws.specs.Each.{each}
use Rattle.rules.specs.Memory.{Store}
use Rattle.rules.specs.Words.{head_of}
use Rattle.rules.proofs.Pointers.{Heads, a_record, raw_words, head_is}
use Rattle.rules.specs.Pages.{Run}
use Rattle.rules.specs.Collection.{scan_value}
use Rattle.facts.proofs.Sound.{Sound}
use Rattle.working.proofs.Log.{Copy}
use Rattle.working.proofs.Invariant.{Ghost, Kept, Inv}
use Rattle.working.proofs.Turn as T
use Rattle.working.proofs.Turn.{ScanAt, Turned, raw_turned, record_turned}
use Rattle.motion.specs.Leaves.{Desk}
use Rattle.motion.specs.Run as X
use Rattle.motion.specs.Run.{scan_of}
use Rattle.agreement.proofs.Matching.{Matching}
use Rattle.agreement.proofs.Frames.{value_plain}
use Rattle.agreement.proofs.Together.{Together, both_go, come_to}
use Rattle.agreement.proofs.Heads.{record_rest, raw_rest}
use Rattle.agreement.proofs.Fields.{scans_fields}

module _ {s : Store} {S : Sound s} {g : Ghost} {r : Run} {d : Desk} {j b : ℕ} {ts : List ℕ} (I : Inv s S g r) (A : ScanAt g j b ts) (M : Matching s S g r d) where
  abbrev n : ℕ
  n = s.ctl.n

  C : Copy n s (Kept s) g.own g.fin r.heap g.log g.count (T.c I A) b
  C = I.logged.copies (T.m I A)

  here : at d.heap b ≡ at r.heap b
  here = M.words b (value_plain S g.own C.now)

  abbrev pub Values : Type 0
  Values =
      Together s S none some false true (λ r' d'. (Z : Turned s S g r j b r') × Matching s S Z.ghost r' d') (scan_value n b r) (X.scan_value n b d)

  abbrev l : ℕ
  l = C.len

  by_head : Heads (head_of (at r.heap b)) l → Values
  unfolding scan_value scan_of raw_turned record_turned T.ready
  by_head (raw_words e) =
      let w : (at d.heap b) % 8 ≢ 1 = rw here (raw_rest (at r.heap b) l e) in
      both_go r (rw (e, scan_value)) d (rw (ne_eqb ((at d.heap b) % 8) 1 w)) (raw_turned I A e, M)
  by_head (a_record e) =
      let w : ((at d.heap b) % 8 ≡ 1) × ((at d.heap b) / 8 ≡ l) = rw here (record_rest (at r.heap b) l e) in
      let q : b + 1 ≡ b + suc 0 = omega arith in
      come_to (T.scan_is I A e).0 (rw (eq-eqb ((at d.heap b) % 8) 1 w.0, w.1) (ap (λ x. each l (X.evacuate n) x d) q)) (λ r' d' (Q, M'). (record_turned I A e Q, M'))
      (scans_fields (ap head_of (sym (T.header I A)) ∙ e) l r 0 (omega arith) (T.ready I A e) d M)

  pub scans_value : Values
  scans_value = by_head (head_is (head_of (at r.heap b)) l C.now.stands.head)
