-- Demand 1 holds: each call is a row of tests with one rest, so it refuses by them and changes no word, and its contract is an equation, so two
-- outcomes that satisfy it are one.
use mathlib.Core.Path.{◌≡◌, sym, ap, ◌∙◌}
use mathlib.Core.List.{List}
use Rattle.rules.specs.Refusals.{Outcome}
use Rattle.rules.specs.Calls.{set_up, push, pop, allocate, assign, set_root}
use Rattle.rules.specs.Collection.{collect}
use Rattle.rules.specs.Image.{Written, read_image}
use Rattle.rules.specs.Order.{Test, Refusing}
use Rattle.rules.proofs.Order.{the_numbers}
use Rattle.promises.proofs.Ordered.{first_number, Lawful, exactly}
use Rattle.promises.proofs.Outcomes.{set_up_lawful, push_lawful, pop_lawful, allocate_lawful, fetch_lawful, fetch_hands, assign_lawful, set_root_lawful, walk_lawful, audit_lawful, due_lawful, used_lawful, page_lawful, page_hands, collect_lawful, write_lawful, read_lawful, word_lawful, number_lawful}
use Rattle.promises.proofs.Demand1.{Demand1, Determined, SameOutcome, Refuses}

-- a contract is the equation of the outcome with the call's definition d
determined : {A : Type 0} (d o p : Outcome A) → o ≡ d → p ≡ d → SameOutcome o p
determined {A} d o p e q =
    let t : o ≡ p = e ∙ sym q in
    record {
      answer = ap (λ (x : Outcome A). x.answer) t;
      heap = ap (λ (x : Outcome A). x.heap) t;
      table = ap (λ (x : Outcome A). x.table) t;
      roots = ap (λ (x : Outcome A). x.roots) t;
      consts = ap (λ (x : Outcome A). x.consts) t;
    }

-- an answer alone, or a part handed back
same : {A : Type 0} {d r q : A} → r ≡ d → q ≡ d → r ≡ q
same e f = e ∙ sym f

all_determined : Determined
all_determined =
    record {
      by_set_up = λ n heap table roots consts. determined (set_up n heap table roots consts);
      by_push = λ s. determined (push s);
      by_pop = λ s. determined (pop s);
      by_allocate = λ s j kind ws. determined (allocate s j kind ws);
      by_fetch = λ s w v u. same;
      by_fetch_refusal = λ s w r q. same;
      by_assign = λ s w i x. determined (assign s w i x);
      by_set_root = λ s i w. determined (set_root s i w);
      by_walk = λ s i path r q. same;
      by_audit = λ s r q. same;
      by_collect = λ s. determined (collect s);
      by_due = λ s r q. same;
      by_used_words = λ s j r q. same;
      by_page = λ s k v u. same;
      by_page_refusal = λ s k r q. same;
      by_word = λ i r q. same;
      by_number = λ w r q. same;
      by_write = λ s bytes o p e f. let t : o ≡ p = same e f in (ap (λ (x : Written). x.answer) t, ap (λ (x : Written). x.bytes) t);
      by_read = λ text heap table roots consts. determined (read_image text heap table roots consts);
    }

refuses : {O : Type 0} {way : Refusing O} {ts : List Test} {o : O} → Lawful way ts o → Refuses way ts o
refuses l = record { when = exactly l; listed = λ r e. first_number ((exactly l r).0 e); unchanged = l.leaves }

pub demand1 : Demand1
demand1 = record {
  determined = all_determined;
  of_set_up = λ n heap table roots consts. refuses (set_up_lawful n heap table roots consts);
  of_push = λ s. refuses (push_lawful s);
  of_pop = λ s. refuses (pop_lawful s);
  of_allocate = λ s j kind ws. refuses (allocate_lawful s j kind ws);
  of_fetch = λ s w. refuses (fetch_lawful s w);
  of_assign = λ s w i x. refuses (assign_lawful s w i x);
  of_set_root = λ s i w. refuses (set_root_lawful s i w);
  of_walk = λ s i path. refuses (walk_lawful s i path);
  of_audit = λ s. refuses (audit_lawful s);
  of_collect = λ s. refuses (collect_lawful s);
  of_due = λ s. refuses (due_lawful s);
  of_used_words = λ s j. refuses (used_lawful s j);
  of_page = λ s k. refuses (page_lawful s k);
  of_write = λ s bytes. refuses (write_lawful s bytes);
  of_read = λ text heap table roots consts. refuses (read_lawful text heap table roots consts);
  of_word = λ i. refuses (word_lawful i);
  of_number = λ w. refuses (number_lawful w);
  no_value = λ s w. (fetch_hands s w).nothing;
  some_value = λ s w. (fetch_hands s w).there;
  no_page = λ s k. (page_hands s k).nothing;
  the_page = λ s k. (page_hands s k).there;
  paper = the_numbers;
}
