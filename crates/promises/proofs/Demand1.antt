-- Demand 1, of the definitions. "Each public call does its own checking. A refusal is one of document 01's numbers, given exactly when that
-- page says, and changes no word." (That calls end and touch nothing outside what they were lent is what the prover shows of each function.)
-- It is true because each call is a row of tests with one rest, and a contract is an equation with the call's definition.
use Rattle.std.specs.Prelude.{Bool, Result, Ok}
use Rattle.rules.specs.declared.Control.{Control}
use Rattle.rules.specs.declared.Refused.{Refused}
use Rattle.rules.specs.Refusals.{number_of, Outcome, refusing}
use Prim.Native.Nat.{ℕ}
use mathlib.Core.Path.{◌≡◌}
use mathlib.Core.Logic.{◌↔◌}
use mathlib.Core.Bool.{true}
use mathlib.Core.Option.{some}
use mathlib.Core.List.{List, [], Memᴰ}
use lib.IntN.{ℤ}
use Rattle.rules.specs.declared.Kind.{Kind}
use Rattle.rules.specs.declared.Refusal.{Refusal}
use Rattle.rules.specs.Memory.{Store, page_words}
use Rattle.rules.specs.Calls.{word_of_number, number_of_word, set_up, push, pop, allocate, is_there, fetch, fetch_refusal, assign, set_root, walk, audit, due, used_words, page_by_number, page_refusal}
use Rattle.rules.specs.Collection.{collect}
use Rattle.rules.specs.Image.{Written, write_image, read_image}
use Rattle.rules.specs.Order.{Test, First, numbers, Numbers, Refusing, on_store, on_parts, on_text, to_caller, alone, set_up_tests, push_tests, pop_tests, allocate_tests, fetch_tests, assign_tests, set_root_tests, walk_tests, audit_tests, due_tests, used_tests, page_tests, collect_tests, write_tests, read_tests, word_tests, number_tests}

-- two outcomes are one: the answer, and every lent word
pub record SameOutcome {A : Type 0} (o p : Outcome A) : Type 0 where
  pub answer : o.answer ≡ p.answer
  pub heap : o.heap ≡ p.heap
  pub table : o.table ≡ p.table
  pub roots : o.roots ≡ p.roots
  pub consts : o.consts ≡ p.consts

-- Each call is determined: two outcomes that satisfy its contract, the equation with its definition, are one.
pub record Determined : Type 0 where
  pub by_set_up : (n : ℕ) (heap table roots consts : List ℕ) (o p : Outcome (Result Control Refusal)) → o ≡ set_up n heap table roots consts → p ≡ set_up n heap table roots consts → SameOutcome o p
  pub by_push : (s : Store) (o p : Outcome (Result Control Refused)) → o ≡ push s → p ≡ push s → SameOutcome o p
  pub by_pop : (s : Store) (o p : Outcome (Result Control Refused)) → o ≡ pop s → p ≡ pop s → SameOutcome o p
  pub by_allocate : (s : Store) (j : ℕ) (kind : Kind) (ws : List ℕ) (o p : Outcome (Result (ℕ × Control) Refused)) → o ≡ allocate s j kind ws → p ≡ allocate s j kind ws → SameOutcome o p
  pub by_fetch : (s : Store) (w : ℕ) (v u : List ℕ) → v ≡ fetch s w → u ≡ fetch s w → v ≡ u
  pub by_fetch_refusal : (s : Store) (w : ℕ) (r q : Result Control Refused) → r ≡ fetch_refusal s w → q ≡ fetch_refusal s w → r ≡ q
  pub by_assign : (s : Store) (w i x : ℕ) (o p : Outcome (Result Control Refused)) → o ≡ assign s w i x → p ≡ assign s w i x → SameOutcome o p
  pub by_set_root : (s : Store) (i w : ℕ) (o p : Outcome (Result Control Refused)) → o ≡ set_root s i w → p ≡ set_root s i w → SameOutcome o p
  pub by_walk : (s : Store) (i : ℕ) (path : List ℕ) (r q : Result (ℕ × Control) Refused) → r ≡ walk s i path → q ≡ walk s i path → r ≡ q
  pub by_audit : (s : Store) (r q : Result Control Refused) → r ≡ audit s → q ≡ audit s → r ≡ q
  pub by_collect : (s : Store) (o p : Outcome (Result Control Refused)) → o ≡ collect s → p ≡ collect s → SameOutcome o p
  pub by_due : (s : Store) (r q : Result (Bool × Control) Refused) → r ≡ due s → q ≡ due s → r ≡ q
  pub by_used_words : (s : Store) (j : ℕ) (r q : Result (ℕ × Control) Refused) → r ≡ used_words s j → q ≡ used_words s j → r ≡ q
  pub by_page : (s : Store) (k : ℕ) (v u : List ℕ) → v ≡ page_by_number s k → u ≡ page_by_number s k → v ≡ u
  pub by_page_refusal : (s : Store) (k : ℕ) (r q : Result Control Refused) → r ≡ page_refusal s k → q ≡ page_refusal s k → r ≡ q
  pub by_word : (i : ℤ) (r q : Result ℕ Refusal) → r ≡ word_of_number i → q ≡ word_of_number i → r ≡ q
  pub by_number : (w : ℕ) (r q : Result ℤ Refusal) → r ≡ number_of_word w → q ≡ number_of_word w → r ≡ q
  pub by_write : (s : Store) (bytes : List ℕ) (o p : Written) → o ≡ write_image s bytes → p ≡ write_image s bytes → (o.answer ≡ p.answer) × (o.bytes ≡ p.bytes)
  pub by_read : (text heap table roots consts : List ℕ) (o p : Outcome (Result Control Refusal)) → o ≡ read_image text heap table roots consts → p ≡ read_image text heap table roots consts → SameOutcome o p

-- What is promised of a call's outcome o, whose tests, in document 01's order, are ts: it refuses with r exactly when r's test holds and none
-- earlier does; then its number is one of the tests' numbers, and the outcome is the refusal with every lent word and the record as given.
pub record Refuses {O : Type 0} (way : Refusing O) (ts : List Test) (o : O) : Type 0 where
  pub when : (r : Refusal) → (way.why o ≡ some r) ↔ First ts r
  pub listed : (r : Refusal) → way.why o ≡ some r → Memᴰ (number_of r) (numbers ts)
  pub unchanged : (r : Refusal) → way.why o ≡ some r → o ≡ way.refuse r

pub record Demand1 : Type 0 where
  -- any two outcomes that satisfy a call's contract are equal, the answer and every lent word
  pub determined : Determined
  -- each call refuses by its tests, and a refusal changes no word
  pub of_set_up : (n : ℕ) (heap table roots consts : List ℕ)
      → Refuses (on_parts heap table roots consts) (set_up_tests n heap table roots consts) (set_up n heap table roots consts)
  pub of_push : (s : Store) → Refuses (on_store s) (push_tests s) (push s)
  pub of_pop : (s : Store) → Refuses (on_store s) (pop_tests s) (pop s)
  pub of_allocate : (s : Store) (j : ℕ) (kind : Kind) (ws : List ℕ) → Refuses (on_store s) (allocate_tests s j kind ws) (allocate s j kind ws)
  pub of_fetch : (s : Store) (w : ℕ) → Refuses (to_caller s.ctl) (fetch_tests s w) (fetch_refusal s w)
  pub of_assign : (s : Store) (w i x : ℕ) → Refuses (on_store s) (assign_tests s w i x) (assign s w i x)
  pub of_set_root : (s : Store) (i w : ℕ) → Refuses (on_store s) (set_root_tests s i w) (set_root s i w)
  pub of_walk : (s : Store) (i : ℕ) (path : List ℕ) → Refuses (to_caller s.ctl) (walk_tests s i path) (walk s i path)
  pub of_audit : (s : Store) → Refuses (to_caller s.ctl) (audit_tests s) (audit s)
  pub of_collect : (s : Store) → Refuses (on_store s) (collect_tests s) (collect s)
  pub of_due : (s : Store) → Refuses (to_caller s.ctl) (due_tests s) (due s)
  pub of_used_words : (s : Store) (j : ℕ) → Refuses (to_caller s.ctl) (used_tests s j) (used_words s j)
  pub of_page : (s : Store) (k : ℕ) → Refuses (to_caller s.ctl) (page_tests s k) (page_refusal s k)
  pub of_write : (s : Store) (bytes : List ℕ) → Refuses (on_text s bytes) (write_tests s bytes) (write_image s bytes)
  pub of_read : (text heap table roots consts : List ℕ)
      → Refuses (on_parts heap table roots consts) (read_tests text heap table roots consts) (read_image text heap table roots consts)
  pub of_word : (i : ℤ) → Refuses alone (word_tests i) (word_of_number i)
  pub of_number : (w : ℕ) → Refuses alone (number_tests w) (number_of_word w)
  -- a refused fetch or page call returns an empty part, and one that is not refused a value, or the page
  pub no_value : (s : Store) (w : ℕ) (r : Refusal) → fetch_refusal s w ≡ refusing r s.ctl → fetch s w ≡ []
  pub some_value : (s : Store) (w : ℕ) → fetch_refusal s w ≡ Ok s.ctl → is_there (fetch s w) ≡ true
  pub no_page : (s : Store) (k : ℕ) (r : Refusal) → page_refusal s k ≡ refusing r s.ctl → page_by_number s k ≡ []
  pub the_page : (s : Store) (k : ℕ) → page_refusal s k ≡ Ok s.ctl → page_by_number s k ≡ page_words s.ctl.n s.heap k
  -- and the tests' numbers are those that document 01 lists for each call, in its order
  pub paper : Numbers
