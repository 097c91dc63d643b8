-- `scan_stack::scan_fields` meets its contract: a field whose value finds no page ends `each`.
use mathlib.Core.Path.{sym, ◌∙◌}
use Rattle.std.proofs.lemmas.Result.{err_from_is_err_and}
use Rattle.scan_stack.proofs.Fields.{fields_over}
use Rattle.scan_stack.proofs.scan_fields.Goals as goal

pub returns-in_err-evacuate-clause-scanned : goal.returns-in_err-evacuate-clause-scanned
returns-in_err-evacuate-clause-scanned c =
    let p = err_from_is_err_and c.from_residual.result c.from_residual.ensures.1 in
    let moved = rw (c.address_behind.ensures, c.loop-i.invariant.same.exponent) at c.in_err-evacuate.ensures.moved in
    rw p.1 (sym (fields_over _ _ _ _ _ _ c.loop-i-test.true moved) ∙ c.loop-i.invariant.runs)
