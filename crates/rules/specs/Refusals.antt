-- Document 01, "Refusal numbers": what each case of an answer says, what a refusal leaves, and the tests that every call makes first.
use Rattle.std.specs.Prelude.{ℕ, zero, suc, ◌*◌, ◌/◌, ◌%◌, ◌^◌, ◌≤◌, ◌<◌, ◌≡◌, Bool, ◌&&◌, not, List, length, leb, eqb, Result, Ok, Err}
use Rattle.rules.specs.declared.Refused.{Refused}
use Rattle.std.specs.Bool.{beq}
use Rattle.std.proofs.Math.Option.{Option, none, some}
use Rattle.laws.specs.Choice.{◌⇒◌∣◌}
use Rattle.rules.specs.declared.Control.{Control}
use Rattle.rules.specs.declared.Refusal.{Refusal}
use Rattle.rules.specs.Memory.{Store, limits, page_count}
use Rattle.rules.specs.Audit.{broken_rule}

-- ---- The paper's number, place and values for each case of an answer.

abbrev pub number_of : Refusal → ℕ
number_of Refusal.Limits = 1
number_of (Refusal.Broken rule) = 2
number_of Refusal.RegionsFull = 3
number_of Refusal.NoPage = 4
number_of Refusal.NoRegion = 5
number_of Refusal.Held = 6
number_of Refusal.NotGood = 7
number_of Refusal.TooLong = 8
number_of Refusal.NoFields = 9
number_of Refusal.NoSuch = 10
number_of Refusal.Constant = 12
number_of Refusal.NoNumber = 13
number_of (Refusal.Malformed line) = 14

-- "The place is the rule for refusal 2 found by the audit, the line for 14, else 0."
abbrev pub place_of : Refusal → ℕ
place_of Refusal.Limits = 0
place_of (Refusal.Broken rule) = rule
place_of Refusal.RegionsFull = 0
place_of Refusal.NoPage = 0
place_of Refusal.NoRegion = 0
place_of Refusal.Held = 0
place_of Refusal.NotGood = 0
place_of Refusal.TooLong = 0
place_of Refusal.NoFields = 0
place_of Refusal.NoSuch = 0
place_of Refusal.Constant = 0
place_of Refusal.NoNumber = 0
place_of (Refusal.Malformed line) = line

-- what an answer says: a refusal's number and place, 0 where it is none; the value of an answer that has one; the record
pub record Said (A : Type 0) : Type 0 where
  pub number : ℕ
  pub place : ℕ
  pub value : Option A
  pub returned : Option Control

abbrev pub fine : {A : Type 0} → Option A → Option Control → Said A
fine v c = record { number = 0; place = 0; value = v; returned = c }

abbrev pub refusal : {A : Type 0} → Refusal → Option Control → Said A
refusal r c = record { number = number_of r; place = place_of r; value = none; returned = c }

-- an answer without a value, and one with a value; the record is the call's, or as it was given
abbrev pub says_plain : Result Control Refused → Said (Unit {0})
says_plain (Ok c) = fine none (some c)
says_plain (Err e) = refusal e.why (some e.control)

abbrev pub says_valued : {A : Type 0} → Result (A × Control) Refused → Said A
says_valued (Ok p) = fine (some p.0) (some p.1)
says_valued (Err e) = refusal e.why (some e.control)

-- the answer of a call that is given no record: a record, or a value alone
abbrev pub says_opened : Result Control Refusal → Said (Unit {0})
says_opened (Ok c) = fine none (some c)
says_opened (Err r) = refusal r none

abbrev pub says_alone : {A : Type 0} → Result A Refusal → Said A
says_alone (Ok v) = fine (some v) none
says_alone (Err r) = refusal r none

-- ---- The outcome of a call: its answer, and every lent word as it leaves them.

pub record Outcome (A : Type 0) : Type 0 where
  pub answer : A
  pub heap : List ℕ
  pub table : List ℕ
  pub roots : List ℕ
  pub consts : List ℕ

abbrev pub outcome : {A : Type 0} → A → List ℕ → List ℕ → List ℕ → List ℕ → Outcome A
outcome a h t r k = record { answer = a; heap = h; table = t; roots = r; consts = k }

-- "A refusal changes no word"
abbrev pub unchanged : {A : Type 0} → A → Store → Outcome A
unchanged a s = outcome a s.heap s.table s.roots s.consts

-- "and returns its number, a place, and the control record as given"
abbrev pub refusal_of : Control → Refusal → Refused
refusal_of c r = record { why = r; control = c }

abbrev pub refusing : {A : Type 0} → Refusal → Control → Result A Refused
refusing r c = Err (refusal_of c r)

abbrev pub refused : {A : Type 0} → Store → Refusal → Outcome (Result A Refused)
refused s r = unchanged (refusing r s.ctl) s

-- done, and what is left is the store s
abbrev pub leaving : Store → Outcome (Result Control Refused)
leaving s = unchanged (Ok s.ctl) s

-- ---- "every call tests 1 first, then that R is at most 64, free first and count are at most N, and both are 0 or neither is (else 2,
-- place 0)"

abbrev pub within_limits : Store → Bool
within_limits s = limits s.ctl.n (length s.heap) (length s.table) (length s.roots) (length s.consts)

unfoldable pub common : ℕ → Control → Bool
common pages c =
    leb c.regions 64
    && leb c.first pages
    && leb c.count pages
    && beq (eqb c.first 0) (eqb c.count 0)

abbrev pub common_test : Store → Bool
common_test s = common (page_count s.ctl.n s.heap) s.ctl

-- The same as facts, for what is called after the tests: h, t, r, k are the four lengths.
pub record Paged (n h : ℕ) : Type 0 where
  pub low : 4 ≤ n
  pub high : n ≤ 8
  pub size : h ≤ 65536
  pub whole : h % 2 ^ n ≡ 0

pub record Admitted (h t r k : ℕ) (c : Control) : Type 0 where
  pub paged : Paged c.n h
  pub two : 2 * 2 ^ c.n ≤ h
  pub table : t ≡ 256
  pub roots : r ≤ 1024
  pub consts : k ≤ 65535
  pub regions : c.regions ≤ 64
  pub first : c.first ≤ h / 2 ^ c.n
  pub count : c.count ≤ h / 2 ^ c.n
  pub some_page : 0 < c.count → 0 < c.first
  pub no_page : c.count ≡ 0 → c.first ≡ 0

-- the rest of a call after these tests; `refuse` is how the call refuses
abbrev pub admitted : {O : Type 0} → (Refusal → O) → Store → O → O
admitted refuse s rest =
    not (within_limits s) ⇒ refuse Refusal.Limits ∣
    not (common_test s) ⇒ refuse (Refusal.Broken 0) ∣
    rest

-- the rest of a call that asks the audit too
abbrev pub unbroken : {O : Type 0} → (Refusal → O) → ℕ → O → O
unbroken refuse zero rest = rest
unbroken refuse (suc i) rest = refuse (Refusal.Broken (suc i))

abbrev pub audited : {O : Type 0} → (Refusal → O) → Store → O → O
audited refuse s rest = admitted refuse s (unbroken refuse (broken_rule s) rest)
