-- What equal answers say is the same: the value and the refusal are read off an answer by functions.
use mathlib.Core.Path.{◌≡◌, ap}
use Rattle.std.specs.Prelude.{Result, Ok, Err}
use Rattle.rules.specs.declared.Control.{Control}
use Rattle.rules.specs.declared.Refused.{Refused}

-- an answer with a value
abbrev pub answering : {A : Type 0} → A → Control → Result (A × Control) Refused
answering a c = Ok (a, c)

-- an answer's value, a where it has none
abbrev value_or : {A : Type 0} → A → Result (A × Control) Refused → A
value_or a (Ok p) = p.0
value_or a (Err e) = a

-- what an answer is refused with, e where it is not
abbrev refused_or : {A : Type 0} → Refused → Result A Refused → Refused
refused_or e (Ok a) = e
refused_or e (Err f) = f

pub same_value : {A : Type 0} {a b : A} {c d : Control} → answering a c ≡ answering b d → a ≡ b
same_value {A} {a} e = ap (value_or a) e

abbrev pub stopping : {A : Type 0} → Refused → Result A Refused
stopping e = Err e

pub same_refused : {A : Type 0} {e f : Refused} → stopping {A = A} e ≡ stopping f → e ≡ f
same_refused {A} {e} p = ap (refused_or e) p
