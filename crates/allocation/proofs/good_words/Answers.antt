-- `allocation::good_words` meets its contract: the chain tests each word, as the definition does.
use mathlib.Core.Path.{◌∙◌}
use Rattle.std.proofs.Common.{rules}
use Rattle.std.proofs.lemmas.Iterator.{YieldsList-from_slice}
use Rattle.std.proofs.lemmas.Iterator.Search.{all_from_yields_List}
use Rattle.rules.specs.Words.{good_in}
use Rattle.allocation.proofs.Words.{all_tested}
use Rattle.allocation.proofs.good_words.Goals as goal

pub returns : goal.returns
returns c =
    let m = c.args.memory in
    all_from_yields_List (good_in m.c.n m.c.regions m.heap.now m.consts.now) _ _ _ c.all.ensures.ran (YieldsList-from_slice c.args.words.now cc) (λ x b q k. search rules) ∙ all_tested _ _
