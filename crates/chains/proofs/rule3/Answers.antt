-- `chains::rule3` meets its contract: the walks' answers and the three tests are the walked form of rule 3.
use mathlib.Core.Path.{sym, ◌∙◌}
use native.Mathlib.Omega.{arith}
use borrow.Author.Tests.{eq-eqb}
use Rattle.chains.proofs.Three.{three_sums}
use Rattle.chains.proofs.rule3.Goals as goal
use Rattle.chains.proofs.rule3.Goals.{then-c-last, else-c-last}

pub returns-then-c-free : goal.returns-then-c-free
returns-then-c-free c =
    elim c.if-c-last.branch [
      | then-c-last w ↦ sym (three_sums _ _ _ _ _ _ _ c.regions_chained.ensures c.in-Some.is _ c.free_listed.ensures _ _ c.in-Some-free_listed.is ∙ rw (eq-eqb _ _ w.if-c-last.true, ← w.value-is, c.if-c-free.true, ← c.page_count.ensures))
      | else-c-last w ↦ absurd (w.if-c-last.false (omega arith))
    ]

pub returns-else-c-free : goal.returns-else-c-free
returns-else-c-free c =
    let sums = three_sums _ _ c.args.admitted.lent.roots.now c.args.admitted.lent.consts.now c.args.admitted.lent.control _ _ c.regions_chained.ensures c.in-Some.is _ c.free_listed.ensures _ _ c.in-Some-free_listed.is in
    elim c.if-c-last.branch [
      | then-c-last w ↦ c.if-c-free.false ∙ sym (sums ∙ rw (← w.value-is, c.if-c-free.false, eq-eqb _ _ w.if-c-last.true))
      | else-c-last w ↦ c.if-c-free.false ∙ sym (sums ∙ rw (← w.value-is, c.if-c-free.false))
    ]
