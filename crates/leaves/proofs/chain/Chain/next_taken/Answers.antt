-- `leaves::chain::Chain::next_taken` meets its contract: the walk goes on with the page's origin, read before it is passed.
use mathlib.Core.Path.{refl, ◌∙◌}
use Rattle.rules.proofs.Pages.{origin_at}
use Rattle.leaves.proofs.chain.Chain.next_taken.Goals as goal

pub returns : goal.returns
returns c =
    let (may, known, named) = c.in_ok-k.ensures in
    record {
      may = may;
      named = named;
      known = known;
      left = refl;
      goes_on = c.page_at-self.ensures ∙ origin_at _ _ _ _ _ c.page_address-start.ensures c.word.ensures.0;
      pages = refl;
    }
