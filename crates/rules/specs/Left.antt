-- What a call leaves: every lent word, and the control record that it returns.
use Rattle.std.specs.Prelude.{ℕ, Result, Ok, Err}
use Rattle.rules.specs.declared.Refused.{Refused}
use Rattle.rules.specs.declared.Refusal.{Refusal}
use Rattle.rules.specs.Refusals.{Outcome}
use Rattle.rules.specs.declared.Control.{Control}
use Rattle.rules.specs.Memory.{Store, lent}

abbrev pub record_plain : Result Control Refused → Control
record_plain (Ok c) = c
record_plain (Err e) = e.control

abbrev pub record_valued : Result (ℕ × Control) Refused → Control
record_valued (Ok p) = p.1
record_valued (Err e) = e.control

-- a call that is given no record returns none where it is refused: the caller still has d
abbrev pub record_opened : Control → Result Control Refusal → Control
record_opened d (Ok c) = c
record_opened d (Err r) = d

-- the store after a call that may change it
abbrev pub left_plain : Outcome (Result Control Refused) → Store
left_plain o = lent o.heap o.table o.roots o.consts (record_plain o.answer)

abbrev pub left_valued : Outcome (Result (ℕ × Control) Refused) → Store
left_valued o = lent o.heap o.table o.roots o.consts (record_valued o.answer)

-- the store after setting up or reading an image, calls that are given no record, where they returned the record c
abbrev pub left_opened : Outcome (Result Control Refusal) → Control → Store
left_opened o c = lent o.heap o.table o.roots o.consts c
