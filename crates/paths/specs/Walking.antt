-- How a walk is answered before a record is named.
use Rattle.std.specs.Prelude.{ℕ, Result, Ok, Err}
use Rattle.rules.specs.declared.Refusal.{Refusal}
use Rattle.rules.specs.Calls.{Walked, ends, stops}

abbrev pub walked : Result ℕ Refusal → Walked
walked (Ok w) = ends w
walked (Err r) = stops r
