-- A value copied: the invariant after it. The copy's words are what its region's pages hold more, and what the log counts more.
use Prim.Native.Nat.{ℕ, suc, ◌+◌, ◌*◌, ◌<◌}
use native.Mathlib.Omega.{arith}
use native.Mathlib.Decide.{ℕ_discrete}
use mathlib.Core.Path.{◌≡◌, sym, ap, subst, ◌∙◌}
use mathlib.Core.Logic.{◌≢◌}
use mathlib.Core.List.{List, ◌∷◌, Memᴰ}
use Rattle.laws.specs.Sums.{sum_over}
use Rattle.laws.proofs.Once.{last_in}
use Rattle.rules.specs.Memory.{Store}
use Rattle.rules.specs.Pages.{Run}
use Rattle.rules.specs.Seen.{seen, words_at}
use Rattle.rules.proofs.Steps.{steps_le}
use Rattle.facts.proofs.Laid.{Owner, spare≢mine}
use Rattle.facts.proofs.Looked.{words_at_home, words_elsewhere}
use Rattle.facts.proofs.Sound.{Sound}
use Rattle.working.proofs.Log.{pointers, olds, Into, last_page_lem, free_page, Evacuated, evacuated_log}
use Rattle.working.proofs.Tallied.{filled_same, filled_more, filled_page}
use Rattle.working.proofs.Invariant.{Ghost, filled_to, Inv}
use Rattle.working.proofs.Copying.{Uncopied, Made}
use Rattle.working.proofs.CopyPending.{after, copied_pending, not_p}

module _ {s : Store} {S : Sound s} {g : Ghost} {r : Run} (I : Inv s S g r) {x : Uncopied s g} {b p : ℕ} {own : ℕ → Owner} {fin : ℕ → ℕ} {pages : ℕ → List ℕ} {free : List ℕ} {r' : Run}
    (M : Made s g r x b p own fin pages free r') where
  abbrev n : ℕ
  n = s.ctl.n

  abbrev R : ℕ
  R = s.ctl.regions

  abbrev j : ℕ
  j = x.good.region

  abbrev E : Evacuated n s g.own own g.fin fin g.pages pages r.heap r'.heap j x.good.len x.address b x.good.page p
  E = M.moved

  tallied_home : sum_over (filled_to n fin) (pages j) ≡ sum_over (words_at (seen s) j) (4 * x.address ∷ olds (pointers g.log))
  unfolding sum_over
  tallied_home =
      let t = I.tallied j x.good.known in
      let all = words_at_home s S.within.paged x.address x.good in
      rw all (go E.place ∙ ap (λ y. y + suc x.good.len) t ∙ omega arith)
    where
      others : (k : ℕ) → Memᴰ k (g.pages j) → k ≢ p → g.fin k ≡ fin k
      others k m ne = M.fin_other k j (I.laid.mine_own j k x.good.known m) ne

      go : Into n g.own g.fin g.pages pages j b p → sum_over (filled_to n fin) (pages j) ≡ sum_over (filled_to n g.fin) (g.pages j) + suc x.good.len
      go (last_page_lem o last same place) =
          rw same
          (filled_more n g.fin fin (g.pages j) p (suc x.good.len) others (I.laid.mine_once j x.good.known) (last_in last) (steps_le (I.laid.mine_body j p o).filled)
          (sym E.b_end ∙ ap (λ y. y + suc x.good.len) place))
      go (free_page free longer place) =
          rw longer
          (filled_page n g.fin fin (g.pages j) p (suc x.good.len) others (λ m. spare≢mine free (I.laid.mine_own j p x.good.known m))
          (sym E.b_end ∙ ap (λ y. y + suc x.good.len) place))

  tallied : (i : ℕ) → i < R → Dec (i ≡ j) → sum_over (filled_to n fin) (pages i) ≡ sum_over (words_at (seen s) i) (4 * x.address ∷ olds (pointers g.log))
  unfolding sum_over
  tallied i i_r (no ne) =
      let t = I.tallied i i_r in
      let same =
      filled_same n g.fin fin (g.pages i)
      (λ k m. M.fin_other k i (I.laid.mine_own i k i_r m) (not_p I M i k i_r ne m)) in
      let none = words_elsewhere s S.within.paged x.address x.good i ne in
      rw (M.pages_other i ne, none) (same ∙ t ∙ omega arith)
  tallied i i_r (yes e) = subst (λ y. sum_over (filled_to n fin) (pages y) ≡ sum_over (words_at (seen s) y) (4 * x.address ∷ olds (pointers g.log))) (sym e) tallied_home

  pub copied_inv : Inv s S (after I M) r'
  copied_inv =
      let a = x.good.known in
      record {
        laid = M.laid;
        logged = evacuated_log I.logged E x.new x.reached;
        pending = copied_pending I M;
        from_space_lem = λ k. (λ q. (I.from_space_lem k).0 ((E.old_kept k).1 q), λ q. (E.old_kept k).0 ((I.from_space_lem k).1 q));
        owned = M.owned I.owned;
        tallied = λ i i_r. tallied i i_r (ℕ_discrete i j);
        taken = M.spent ∙ I.taken;
        width = M.width ∙ I.width;
        past_rows = λ y q. M.row y (omega arith) (omega arith) (omega arith) ∙ I.past_rows y q;
      }
