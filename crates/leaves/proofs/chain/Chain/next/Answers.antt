-- `leaves::chain::Chain::next` meets its contract: the walk goes on with the page's link, read before it is passed.
use mathlib.Core.Path.{refl, ◌∙◌}
use Rattle.rules.proofs.Pages.{link_at}
use Rattle.leaves.proofs.chain.Chain.next.Goals as goal

pub returns : goal.returns
returns c =
    let (may, known, named) = c.in_ok-k.ensures in
    record {
      may = may;
      named = named;
      known = known;
      left = refl;
      goes_on = c.page_at-self.ensures ∙ link_at _ _ _ _ _ c.page_address-start.ensures c.word.ensures.0;
      pages = refl;
    }
