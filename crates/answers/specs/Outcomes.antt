-- What an operation's outcome says: its answer, or why it was refused, and the record that it leaves.
use Rattle.std.specs.Prelude.{ℕ, List, [], ◌∷◌, Option, Some, None, Result, Ok, Err}
use Rattle.rules.specs.declared.Control.{Control}
use Rattle.rules.specs.declared.Refusal.{Refusal}
use Rattle.rules.specs.declared.Refused.{Refused}
use Rattle.answers.specs.declared.Answer.{Answer}
use Rattle.answers.specs.declared.Answer.TheVariants.{Unknown, Quiet}

abbrev pub answer_of : Result (Answer × Control) Refused → Result Answer Refusal
answer_of (Ok done) = Ok done.0
answer_of (Err e) = Err e.why

abbrev pub record_of : Result (Answer × Control) Refused → Control
record_of (Ok done) = done.1
record_of (Err e) = e.control

-- the line of an answer that says nothing of the memory: a dot, or a question mark, and a newline
abbrev pub short_line : Result Answer Refusal → Option (List ℕ)
short_line (Ok Quiet) = Some (46 ∷ 10 ∷ [])
short_line (Ok Unknown) = Some (63 ∷ 10 ∷ [])
short_line _ = None
