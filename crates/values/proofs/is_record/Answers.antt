-- `values::is_record` meets its contract: of the remainders by 8 only 1 is a record's.
use Prim.Native.Nat.{ℕ, ◌%◌}
use mathlib.Core.Path.{◌≡◌, sym, ◌∙◌}
use mathlib.Core.Bool.{Bool}
use lib.Dec.{eqb}
use Rattle.rules.specs.Words.{is_record}
use Rattle.rules.proofs.Headers.{record_by_lem}
use Rattle.laws.proofs.Turned.{eqb_turned}
use Rattle.values.proofs.is_record.Goals as goal

-- the test b, however it is written
record-test : (h : ℕ) (b : Bool) → b ≡ eqb (h % 8) 1 → b ≡ is_record h
record-test h b q = q ∙ sym (record_by_lem h)

pub returns : goal.returns
returns c = search (record-test, eqb_turned)
