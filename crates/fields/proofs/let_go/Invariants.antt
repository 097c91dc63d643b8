-- `fields::let_go` tests the roots and the fields for not pointing into the region.
use mathlib.Core.Bool.{not}
use Rattle.rules.specs.Calls.{points_into}
use Rattle.fields.proofs.let_go.Given as goal

abbrev pub ghost-words_pass : goal.ghost-words_pass
ghost-words_pass a = let of = a.test.now in λ w. not (points_into of.1 of.0.now of.2.0 w)

abbrev pub ghost-records_pass : goal.ghost-records_pass
ghost-records_pass a = let of = a.test.now in λ w. not (points_into of.1 of.0.now of.2.0 w)
