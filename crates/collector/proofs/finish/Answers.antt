-- `collector::finish` meets its contract: each part is the definition's.
use Rattle.collector.proofs.Ended.{finished}
use Rattle.collector.proofs.finish.Goals as goal

pub returns : goal.returns
returns c =
    λ k. finished _ _ _ _ _ _ _ _ _ _ _ _ k
    c.pages_of-pages.ensures.0
    c.pages_of-pages.ensures.1
    c.write_roots.ensures
    c.own_all.ensures
    (search c.give_all.ensures)
    c.write_table.ensures
    c.record_by.ensures
