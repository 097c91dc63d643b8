-- `audit::broken_rule` meets its contract: the rules are tried in order, and each answers as its definition does.
use mathlib.Core.Path.{sym, ◌∙◌}
use native.Mathlib.Omega.{arith}
use Rattle.laws.proofs.Turned.{told_true, told_false}
use Rattle.rules.specs.Audit.{broken_rule}
use Rattle.audit.proofs.Order.{broken_here, broken_go, broken_none}
use Rattle.audit.proofs.broken_rule.Goals as goal

pub returns-then-not-rule2 : goal.returns-then-not-rule2
unfolding broken_rule
returns-then-not-rule2 c = (sym (broken_here _ _ _ _ (told_false c.rule2.ensures c.if-not-rule2.true)), omega arith)

pub returns-then-not-rule3 : goal.returns-then-not-rule3
unfolding broken_rule
returns-then-not-rule3 c = (sym (broken_go _ _ _ _ (told_true c.rule2.ensures c.if-not-rule2.false) ∙ broken_here _ _ _ _ (told_false c.rule3.ensures c.if-not-rule3.true)), omega arith)

pub returns-then-not-rule4 : goal.returns-then-not-rule4
unfolding broken_rule
returns-then-not-rule4 c = (sym (broken_go _ _ _ _ (told_true c.rule2.ensures c.if-not-rule2.false) ∙ broken_go _ _ _ _ (told_true c.rule3.ensures c.if-not-rule3.false) ∙ broken_here _ _ _ _ (told_false c.rule4.ensures c.if-not-rule4.true)), omega arith)

pub returns-then-not-rule5 : goal.returns-then-not-rule5
unfolding broken_rule
returns-then-not-rule5 c = (sym (broken_go _ _ _ _ (told_true c.rule2.ensures c.if-not-rule2.false) ∙ broken_go _ _ _ _ (told_true c.rule3.ensures c.if-not-rule3.false) ∙ broken_go _ _ _ _ (told_true c.rule4.ensures c.if-not-rule4.false) ∙ broken_here _ _ _ _ (told_false c.rule5.ensures c.if-not-rule5.true)), omega arith)

pub returns-then-not-rule6 : goal.returns-then-not-rule6
unfolding broken_rule
returns-then-not-rule6 c = (sym (broken_go _ _ _ _ (told_true c.rule2.ensures c.if-not-rule2.false) ∙ broken_go _ _ _ _ (told_true c.rule3.ensures c.if-not-rule3.false) ∙ broken_go _ _ _ _ (told_true c.rule4.ensures c.if-not-rule4.false) ∙ broken_go _ _ _ _ (told_true c.rule5.ensures c.if-not-rule5.false) ∙ broken_here _ _ _ _ (told_false c.rule6.ensures c.if-not-rule6.true)), omega arith)

pub returns-then-not-rule7 : goal.returns-then-not-rule7
unfolding broken_rule
returns-then-not-rule7 c = (sym (broken_go _ _ _ _ (told_true c.rule2.ensures c.if-not-rule2.false) ∙ broken_go _ _ _ _ (told_true c.rule3.ensures c.if-not-rule3.false) ∙ broken_go _ _ _ _ (told_true c.rule4.ensures c.if-not-rule4.false) ∙ broken_go _ _ _ _ (told_true c.rule5.ensures c.if-not-rule5.false) ∙ broken_go _ _ _ _ (told_true c.rule6.ensures c.if-not-rule6.false) ∙ broken_here _ _ _ _ (told_false c.rule7.ensures c.if-not-rule7.true)), omega arith)

pub returns-then-not-rule8 : goal.returns-then-not-rule8
unfolding broken_rule
returns-then-not-rule8 c = (sym (broken_go _ _ _ _ (told_true c.rule2.ensures c.if-not-rule2.false) ∙ broken_go _ _ _ _ (told_true c.rule3.ensures c.if-not-rule3.false) ∙ broken_go _ _ _ _ (told_true c.rule4.ensures c.if-not-rule4.false) ∙ broken_go _ _ _ _ (told_true c.rule5.ensures c.if-not-rule5.false) ∙ broken_go _ _ _ _ (told_true c.rule6.ensures c.if-not-rule6.false) ∙ broken_go _ _ _ _ (told_true c.rule7.ensures c.if-not-rule7.false) ∙ broken_here _ _ _ _ (told_false c.rule8.ensures c.if-not-rule8.true)), omega arith)

pub returns-then-not-rule9 : goal.returns-then-not-rule9
unfolding broken_rule
returns-then-not-rule9 c = (sym (broken_go _ _ _ _ (told_true c.rule2.ensures c.if-not-rule2.false) ∙ broken_go _ _ _ _ (told_true c.rule3.ensures c.if-not-rule3.false) ∙ broken_go _ _ _ _ (told_true c.rule4.ensures c.if-not-rule4.false) ∙ broken_go _ _ _ _ (told_true c.rule5.ensures c.if-not-rule5.false) ∙ broken_go _ _ _ _ (told_true c.rule6.ensures c.if-not-rule6.false) ∙ broken_go _ _ _ _ (told_true c.rule7.ensures c.if-not-rule7.false) ∙ broken_go _ _ _ _ (told_true c.rule8.ensures c.if-not-rule8.false) ∙ broken_here _ _ _ _ (told_false c.rule9.ensures c.if-not-rule9.true)), omega arith)

pub returns : goal.returns
unfolding broken_rule
returns c = broken_go _ _ _ _ (told_true c.rule2.ensures c.if-not-rule2.false) ∙ broken_go _ _ _ _ (told_true c.rule3.ensures c.if-not-rule3.false) ∙ broken_go _ _ _ _ (told_true c.rule4.ensures c.if-not-rule4.false) ∙ broken_go _ _ _ _ (told_true c.rule5.ensures c.if-not-rule5.false) ∙ broken_go _ _ _ _ (told_true c.rule6.ensures c.if-not-rule6.false) ∙ broken_go _ _ _ _ (told_true c.rule7.ensures c.if-not-rule7.false) ∙ broken_go _ _ _ _ (told_true c.rule8.ensures c.if-not-rule8.false) ∙ broken_go _ _ _ _ (told_true c.rule9.ensures c.if-not-rule9.false) ∙ broken_none _ _
