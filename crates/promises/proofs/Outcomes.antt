-- What each call's definition says of its outcome: it refuses by the first of its tests that holds, and a refusal leaves every lent word and
-- the record as they were. Each call is a row of tests with one rest.
use Rattle.std.specs.Prelude.{Result, Ok, Err}
use Rattle.rules.specs.declared.Refused.{Refused}
use Rattle.rules.specs.Refusals.{Outcome, refused, within_limits, common_test, admitted, refusing}
use Prim.Native.Nat.{ℕ, zero, suc, ◌+◌, ◌-◌, ◌*◌, ◌/◌, ◌^◌}
use native.Mathlib.Omega.{arith}
use mathlib.Core.Path.{◌≡◌, refl, sym, ap, ◌∙◌}
use mathlib.Core.Bool.{Bool, true, false, not, false≢true}
use mathlib.Core.Option.{Option, none, some}
use mathlib.Core.List.{List, [], ◌∷◌}
use lib.ListN.{length}
use lib.IntN.{ℤ, pos, negsuc}
use lib.Dec.{leb, ltb, eqb}
use borrow.Author.Tests.{leb-true, leb-false, eqb-false}
use Rattle.laws.specs.Choice.{◌⇒◌∣◌}
use Rattle.laws.specs.Lists.{at}
use Rattle.laws.proofs.Choices.{choices_agree}
use Rattle.rules.specs.declared.Control.{Control}
use Rattle.rules.specs.declared.Kind.{Kind}
use Rattle.rules.specs.declared.Refusal.{Refusal}
use Rattle.rules.specs.Memory.{Store, page_count, page_words, end_of, top_of}
use Rattle.rules.specs.Words.{Word, number, in_heap, in_const, word_of, pointer_address, good_in}
use Rattle.rules.specs.Pages.{Run, begun}
use Rattle.rules.specs.Calls.{look_in, word_of_number, number_of_word, set_up, push_on, push, pop_on, pop_top, pop, header_for, allocate_on, allocate_in, allocate, fetch, is_there, fetch_refusal, assign_at, assign_by, assign, set_root, Walked, ends, stops, is_number, step_into, walk_from, walk_says, walk, audit, due, used_words, page_by_number, page_refusal}
use Rattle.rules.specs.Collection.{Ended, finished, lacks_page, unfinished, freshen, evacuate_all, work_stack, leaves, ending, collected, collect}
use Rattle.rules.specs.Image.{write_text, write_image, Frames, frames, malformed, read_text, store_of, same_lengths, read_store, read_on, read_image}
use Rattle.rules.specs.Order.{Test, test, on_store, on_parts, on_text, to_caller, alone, set_up_tests, push_tests, pop_tests, allocate_tests, fetch_tests, assign_tests, set_root_tests, step_tests, walk_tests, audit_tests, due_tests, used_tests, page_tests, lacks, collect_tests, write_tests, is_malformed, fault_line, words_of, read_tests, word_tests, number_tests}
use Rattle.rules.proofs.Answered.{same_refused}
use Rattle.rules.proofs.Judged.{admissions_agree}
use Rattle.rules.proofs.Limits.{admits}
use Rattle.rules.proofs.Pages.{place_here, place_grown, takes}
use Rattle.facts.proofs.Passing.{meaning}
use Rattle.facts.proofs.Sound.{Sound}
use Rattle.working.proofs.Running.{Collects, runs_dry, runs_through, collects}
use Rattle.working.proofs.Collecting.{ran_leaves}
use Rattle.promises.proofs.Ordered.{Lawful, is_done_lem, tested, stopped, passed, after_admission, after_audit}
use Rattle.rules.proofs.Pointers.{pointer_is}

-- ---- the calls

pub set_up_lawful : (n : ℕ) (heap table roots consts : List ℕ)
    → Lawful (on_parts heap table roots consts) (set_up_tests n heap table roots consts) (set_up n heap table roots consts)
unfolding set_up
set_up_lawful n heap table roots consts = tested (λ e. is_done_lem refl)

-- a page is there where the count is not 0
page_free : (s : Store) → within_limits s ≡ true → common_test s ≡ true → eqb s.ctl.count 0 ≡ false → (k : ℕ) × (s.ctl.first ≡ suc k)
page_free s l c e = go s.ctl.first refl
  where
    go : (f : ℕ) → s.ctl.first ≡ f → (k : ℕ) × (s.ctl.first ≡ suc k)
    go zero q =
        let a = admits (length s.heap) (length s.table) (length s.roots) (length s.consts) s.ctl l c in
        let ne = eqb-false s.ctl.count 0 e in
        let b = a.some_page (omega arith) in
        absurd (omega arith)
    go (suc k) q = (k, q)

pub push_lawful : (s : Store) → Lawful (on_store s) (push_tests s) (push s)
unfolding push push_on
push_lawful s =
    after_admission s
    (λ l c.
    tested (λ full. tested (λ some_page. tested (λ ok. is_done_lem (let p = page_free s l c some_page in rw (takes s.ctl.n s.ctl.regions p.0 (begun s) p.1, push_on))))))

pub pop_lawful : (s : Store) → Lawful (on_store s) (pop_tests s) (pop s)
unfolding pop pop_top pop_on
pop_lawful s = after_audit s (λ l c b. tested (λ some_region. tested (λ free. is_done_lem refl)))

-- where a value fits, or a page is there, it is placed
pub allocate_lawful : (s : Store) (j : ℕ) (kind : Kind) (ws : List ℕ) → Lawful (on_store s) (allocate_tests s j kind ws) (allocate s j kind ws)
unfolding allocate allocate_in allocate_on
allocate_lawful s j kind ws = go (leb (top_of s.table j + suc (length ws)) (end_of s.table j)) refl
  where
    value : List ℕ
    value = header_for kind (length ws) ∷ ws

    go : (b : Bool) → leb (top_of s.table j + suc (length ws)) (end_of s.table j) ≡ b → Lawful (on_store s) (allocate_tests s j kind ws) (allocate s j kind ws)
    go true e =
        rw e
        (after_admission s
        (λ l c.
        tested (λ e₁. tested (λ e₂. tested (λ e₃. tested (λ e₄. passed (passed (is_done_lem (rw (place_here s.ctl.n j (begun s) value (leb-true _ _ e), allocate_on))))))))))
    go false e =
        rw e
        (after_admission s
        (λ l c.
        tested (λ e₁. tested (λ e₂. tested (λ e₃. tested (λ e₄.
        tested
        (λ some_page.
        let p = page_free s l c some_page in
        tested (λ ok. is_done_lem (rw (place_grown s.ctl.n j (begun s) value p.0 _ (leb-false _ _ e) (takes s.ctl.n j p.0 (begun s) p.1), allocate_on))))))))))

pub fetch_lawful : (s : Store) (w : ℕ) → Lawful (to_caller s.ctl) (fetch_tests s w) (fetch_refusal s w)
unfolding fetch_refusal
fetch_lawful s w = after_admission s (λ l c. tested (λ e. is_done_lem refl))

-- what is handed back beside the answer x of a call of its own: nothing where that refuses, and a part that has P where it does not
pub record HandsBack (c : Control) (P : List ℕ → Type 0) (x : Result Control Refused) (v : List ℕ) : Type 0 where
  pub nothing : (r : Refusal) → x ≡ refusing r c → v ≡ []
  pub there : x ≡ Ok c → P v

module _ {c : Control} {P : List ℕ → Type 0} where
  by_refusal : {r : Refusal} → HandsBack c P (refusing r c) []
  by_refusal = record { nothing = λ r e. refl; there = λ e. absurd (false≢true cc) }

  by_done : {v : List ℕ} → P v → HandsBack c P (Ok c) v
  by_done p = record { nothing = λ r e. absurd (false≢true cc); there = λ e. p }

  -- behind the tests of every call
  admitted_hands : (s : Store) {x : Result Control Refused} {v : List ℕ} → HandsBack c P x v → HandsBack c P (admitted (λ r. refusing r c) s x) (admitted (λ r. []) s v)
  admitted_hands s = admissions_agree (HandsBack c P) (λ r. refusing r c) (λ r. []) s (λ r. by_refusal)

pub fetch_hands : (s : Store) (w : ℕ) → HandsBack s.ctl (λ v. is_there v ≡ true) (fetch_refusal s w) (fetch s w)
unfolding fetch fetch_refusal
fetch_hands s w = admitted_hands s (go (look_in s w))
  where
    go : (v : List ℕ) → HandsBack s.ctl (λ v. is_there v ≡ true) (not (is_there v) ⇒ refusing Refusal.NotGood s.ctl ∣ Ok s.ctl) v
    go [] = by_refusal
    go (h ∷ ws) = by_done refl

pub page_hands : (s : Store) (k : ℕ) → HandsBack s.ctl (λ v. v ≡ page_words s.ctl.n s.heap k) (page_refusal s k) (page_by_number s k)
unfolding page_by_number page_refusal
page_hands s k =
    admitted_hands s (choices_agree (HandsBack s.ctl (λ v. v ≡ page_words s.ctl.n s.heap k)) (leb (page_count s.ctl.n s.heap) k) by_refusal (by_done refl))

-- ---- assigning a field

pub heap_address : (w a : ℕ) → word_of w ≡ in_heap a → a ≡ pointer_address w
heap_address w a e = let p = pointer_is w a e in omega arith

pub assign_lawful : (s : Store) (w i x : ℕ) → Lawful (on_store s) (assign_tests s w i x) (assign s w i x)
unfolding assign assign_by assign_at good_in
assign_lawful s w i x = go (word_of w) refl
  where
    go : (v : Word) → word_of w ≡ v → Lawful (on_store s) (assign_tests s w i x) (assign s w i x)
    go number e = rw (e, good_in) (after_admission s (λ l c. passed (passed stopped)))
    go (in_heap a) e =
        rw (e, good_in, ← heap_address w a e) (after_admission s (λ l c. tested (λ q. passed (tested (λ q. tested (λ q. tested (λ q. is_done_lem refl)))))))
    go (in_const a) e = rw (e, good_in) (after_admission s (λ l c. tested (λ q. stopped)))

pub set_root_lawful : (s : Store) (i w : ℕ) → Lawful (on_store s) (set_root_tests s i w) (set_root s i w)
unfolding set_root
set_root_lawful s i w = after_admission s (λ l c. tested (λ e₁. tested (λ e₂. is_done_lem refl)))

-- ---- walking a path

-- one test more, of a walk
walk_tested : {c : Control} {b : Bool} {r : Refusal} {ts : List Test} (rest : Walked) → Lawful (to_caller c) ts (walk_says c rest)
    → Lawful (to_caller c) (test b r ∷ ts) (walk_says c (b ⇒ stops r ∣ rest))
walk_tested {b = true} rest l = stopped
walk_tested {b = false} rest l = passed l

-- a walk that is at the word w: each step 7, 9, 10, the final word 7
steps_lawful : (c : Control) (view : ℕ → List ℕ) (w : ℕ) (path : List ℕ) → Lawful (to_caller c) (step_tests view w path) (walk_says c (walk_from view w path))
unfolding step_tests walk_from step_into
steps_lawful c view w [] = go (is_number (word_of w)) refl
  where
    done : Lawful (to_caller c) [] (walk_says c (ends w))
    done = is_done_lem refl

    go : (b : Bool) → is_number (word_of w) ≡ b → Lawful (to_caller c) (step_tests view w []) (walk_says c (walk_from view w []))
    go true e = rw (step_tests, walk_from, e) (passed done)
    go false e = rw (step_tests, walk_from, e) (walk_tested (ends w) done)
steps_lawful c view w (f ∷ fs) = go (is_number (word_of w)) refl (steps_lawful c view (at (view w) (suc f)) fs)
  where
    go : (b : Bool) → is_number (word_of w) ≡ b
        → Lawful (to_caller c) (step_tests view (at (view w) (suc f)) fs) (walk_says c (walk_from view (at (view w) (suc f)) fs))
        → Lawful (to_caller c) (step_tests view w (f ∷ fs)) (walk_says c (walk_from view w (f ∷ fs)))
    go true e rest = rw (step_tests, walk_from, e) (passed stopped)
    go false e rest = rw (step_tests, walk_from, e) (walk_tested _ (walk_tested _ (walk_tested _ rest)))

pub walk_lawful : (s : Store) (i : ℕ) (path : List ℕ) → Lawful (to_caller s.ctl) (walk_tests s i path) (walk s i path)
unfolding walk
walk_lawful s i path = after_admission s (λ l c. tested (λ e. steps_lawful s.ctl (look_in s) (at s.roots i) path))

-- ---- the others

pub audit_lawful : (s : Store) → Lawful (to_caller s.ctl) (audit_tests s) (audit s)
unfolding audit
audit_lawful s = after_audit s (λ l c b. is_done_lem refl)

pub due_lawful : (s : Store) → Lawful (to_caller s.ctl) (due_tests s) (due s)
unfolding due
due_lawful s = after_admission s (λ l c. is_done_lem refl)

pub used_lawful : (s : Store) (j : ℕ) → Lawful (to_caller s.ctl) (used_tests s j) (used_words s j)
unfolding used_words
used_lawful s j = after_audit s (λ l c b. tested (λ e. is_done_lem refl))

pub page_lawful : (s : Store) (k : ℕ) → Lawful (to_caller s.ctl) (page_tests s k) (page_refusal s k)
unfolding page_refusal
page_lawful s k = after_admission s (λ l c. tested (λ e. is_done_lem refl))

-- the collection: on a heap that passes its fuel does not run out
collected_lawful : (s : Store) → Sound s → Lawful (on_store s) (test (lacks s) Refusal.NoPage ∷ []) (collected s)
unfolding collected lacks ending leaves
collected_lawful s S = fresh (freshen s.ctl.n s.ctl.regions 0 (begun s)) refl
  where
    Decided : Type 0
    Decided = Lawful (on_store s) (test (lacks s) Refusal.NoPage ∷ []) (collected s)

    none_left : lacks s ≡ true → collected s ≡ refused s Refusal.NoPage → Decided
    none_left e q = rw (e, q) stopped

    never : Collects s S → collected s ≡ refused s (Refusal.Broken 0) → Decided
    never (runs_dry f x) e =
        let q = ap (λ (x : Refused). x.why) (same_refused (ap (λ (o : Outcome (Result Control Refused)). o.answer) (sym f ∙ e))) in
        absurd (false≢true cc)
    never (runs_through roots r f x) e = let q = ap (λ (o : Outcome (Result Control Refused)). o.answer) (sym (f ∙ ran_leaves x) ∙ e) in absurd (false≢true cc)

    worked : (r : Run) → freshen s.ctl.n s.ctl.regions 0 (begun s) ≡ some r → (p : List ℕ × Run) → evacuate_all s.ctl.n s.roots r ≡ some p
        → (e : Ended) → work_stack s.ctl.n p.1 ≡ e → Decided
    worked r q p x (finished t) y = let f : lacks s ≡ false = rw (lacks, q, x, y) in rw (f, collected, q, x, y) (passed (is_done_lem refl))
    worked r q p x lacks_page y = none_left (rw (lacks, q, x, y)) (rw (collected, q, x, y))
    worked r q p x unfinished y = never (collects s S) (rw (collected, q, x, y))

    evacuated : (r : Run) → freshen s.ctl.n s.ctl.regions 0 (begun s) ≡ some r → (o : Option (List ℕ × Run)) → evacuate_all s.ctl.n s.roots r ≡ o → Decided
    evacuated r q none x = none_left (rw (lacks, q, x)) (rw (collected, q, x))
    evacuated r q (some p) x = worked r q p x (work_stack s.ctl.n p.1) refl

    fresh : (o : Option Run) → freshen s.ctl.n s.ctl.regions 0 (begun s) ≡ o → Decided
    fresh none q = none_left (rw (lacks, q)) (rw (collected, q))
    fresh (some r) q = evacuated r q (evacuate_all s.ctl.n s.roots r) refl

pub collect_lawful : (s : Store) → Lawful (on_store s) (collect_tests s) (collect s)
unfolding collect
collect_lawful s = after_audit s (λ l c b. collected_lawful s ((meaning s).0 (record { limits = l; common = c; unbroken = b })))

pub write_lawful : (s : Store) (bytes : List ℕ) → Lawful (on_text s bytes) (write_tests s bytes) (write_image s bytes)
unfolding write_image write_text
write_lawful s bytes = after_admission s (λ l c. tested (λ e₁. tested (λ e₂. is_done_lem refl)))

pub read_lawful : (text heap table roots consts : List ℕ)
    → Lawful (on_parts heap table roots consts) (read_tests text heap table roots consts) (read_image text heap table roots consts)
unfolding read_image read_store
read_lawful text heap table roots consts = go (read_text text)
  where
    go : (fs : Frames)
        → Lawful (on_parts heap table roots consts)
        (test (is_malformed fs) (Refusal.Malformed (fault_line fs)) ∷ test (not (same_lengths (store_of (words_of fs)) heap table roots consts)) Refusal.Limits ∷ [])
        (read_on fs heap table roots consts)
    go (frames fs) = passed (tested (λ e. is_done_lem refl))
    go (malformed line) = stopped

-- a number in its range has a word
in_range : (b : Bool) (w : ℕ) → Lawful alone (test (not b) Refusal.NoNumber ∷ []) (b ⇒ Ok w ∣ Err Refusal.NoNumber)
in_range true w = passed (is_done_lem refl)
in_range false w = stopped

pub word_lawful : (i : ℤ) → Lawful alone (word_tests i) (word_of_number i)
word_lawful (pos i) = in_range (ltb i (2 ^ 30)) (2 * i + 1)
word_lawful (negsuc i) = in_range (ltb i (2 ^ 30)) (2 ^ 32 - (2 * i + 1))

pub number_lawful : (w : ℕ) → Lawful alone (number_tests w) (number_of_word w)
unfolding number_of_word
number_lawful w = tested (λ e. go (ltb w (2 ^ 31)))
  where
    go : (b : Bool) → Lawful alone [] (b ⇒ Ok (pos (w / 2)) ∣ Ok (negsuc ((2 ^ 32 - 1 - w) / 2)))
    go true = is_done_lem refl
    go false = is_done_lem refl
