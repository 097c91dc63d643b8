-- `table_words::idle` meets its contract: the numbers below the regions' are asked one by one, as the definition asks them.
use mathlib.Core.Path.{refl, ◌∙◌}
use native.Mathlib.Omega.{arith}
use borrow.Author.Rules.{rules}
use lib.Dec.{eqb}
use Rattle.std.proofs.lemmas.Iterator.{YieldsList-from_range}
use Rattle.std.proofs.lemmas.Iterator.Search.{all_from_yields_List}
use Rattle.rules.specs.Memory.{status_of}
use Rattle.table_words.proofs.Runs.{run_all}
use Rattle.table_words.proofs.idle.Goals as goal

pub returns : goal.returns
returns c = all_from_yields_List (λ j. eqb (status_of c.args.table.now j) 0) _ _ _ c.all.ensures.ran (YieldsList-from_range 0 c.args.regions c.args.regions refl (omega arith)) (λ x b q k. search rules) ∙ run_all _ _ _
