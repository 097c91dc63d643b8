-- Demand 2 holds: the working takes a page exactly where the one with as many pages as it wants does, until a page lacks; the sums and the
-- readings are the definitions, step by step.
use Rattle.std.specs.Prelude.{Result}
use Rattle.rules.specs.declared.Control.{Control}
use Rattle.rules.specs.declared.Refused.{Refused}
use Prim.Native.Nat.{ℕ, suc, ◌+◌, ◌*◌}
use mathlib.Core.Path.{◌≡◌, refl, sym, ap, ◌∙◌}
use mathlib.Core.Bool.{false≢true}
use mathlib.Core.List.{List, [], ◌∷◌, map, sum}
use lib.ListN.{length}
use lib.Dec.{ltb}
use borrow.Author.Tests.{ltb-true, lt-ltb}
use Rattle.rules.specs.Memory.{Store, page_count, region_pages}
use Rattle.rules.specs.Words.{Val, page_vals, used_of}
use Rattle.rules.specs.Audit.{used_on, used_by}
use Rattle.rules.specs.Refusals.{Outcome, leaving}
use Rattle.rules.specs.Calls.{due}
use Rattle.rules.specs.Collection.{collected}
use Rattle.rules.specs.Left.{left_plain}
use Rattle.rules.proofs.Answered.{answering}
use Rattle.rules.proofs.Left.{left_leaving}
use Rattle.facts.proofs.Sound.{Sound}
use Rattle.rules.proofs.Judged.{audit_yes, judged_collects}
use Rattle.facts.proofs.Passing.{judged_sound}
use Rattle.facts.proofs.Observing.{used_is}
use Rattle.working.proofs.Running.{Collects, runs_dry, runs_through, collects}
use Rattle.working.proofs.Ending.{left_store}
use Rattle.working.proofs.Refused.{refused_wants, Pages, done_pages}
use Rattle.working.proofs.Collecting.{ran_leaves}
use Rattle.promises.proofs.NumbersBack.{number_back, word_back}
use Rattle.promises.proofs.Images.{written_reads_back, read_writes_back}
use Rattle.promises.proofs.Demand2.{words_on, Demand2}

-- the words that values take, as a sum
used_sum : (vs : List Val) → used_of vs ≡ sum ◌+◌ 0 (map (λ (v : Val). suc (length v.words)) vs)
unfolding used_of sum
used_sum [] = refl
used_sum (v ∷ vs) = ap (λ x. suc (length v.words) + x) (used_sum vs)

used_pages : (s : Store) (ks : List ℕ) → used_on s.ctl.n s.heap ks ≡ sum ◌+◌ 0 (map (λ k. sum ◌+◌ 0 (words_on s k)) ks)
unfolding used_on sum
used_pages s [] = refl
used_pages s (k ∷ ks) = rw (used_sum (page_vals s.ctl.n s.heap k), used_pages s ks)

-- what a collection that finishes leaves is what its run leaves
pages_of_lem : (s s' : Store) (S : Sound s) → collected s ≡ leaving s' → Pages s s'
pages_of_lem s s' S e = go (collects s S)
  where
    go : Collects s S → Pages s s'
    go (runs_dry q R) = let t = ap (λ (o : Outcome (Result Control Refused)). o.answer) (sym q ∙ e) in absurd (false≢true cc)
    go (runs_through roots r q A) =
        let t : left_store A ≡ s' = sym (left_leaving _) ∙ ap left_plain (sym (q ∙ ran_leaves A) ∙ e) ∙ left_leaving s' in
        rw t at (done_pages A)

pub demand2 : Demand2
demand2 = record {
  lacks = λ s e. rw (judged_collects s (sym e)) (refused_wants s (judged_sound s s.ctl (sym e)));
  finishes = λ s s' e f.
      let t = pages_of_lem s s' (judged_sound s s.ctl (sym e)) (sym (judged_collects s (sym e)) ∙ f) in
      (t.enough, sym t.taken, t.left);
  dues = λ s l c. (ltb (3 * s.ctl.count) (page_count s.ctl.n s.heap), unfold due in (rw (l, c)), (λ e. ltb-true _ _ e, λ b. lt-ltb _ _ b));
  uses = λ s e j b.
      used_is s ((audit_yes s).0 e) j b
      ∙ ap (λ u. answering u s.ctl) (unfold used_by in (used_pages s (region_pages s.ctl.n s.heap s.table j)));
  numbers = number_back;
  words = word_back;
  images = written_reads_back;
  texts = read_writes_back;
}
