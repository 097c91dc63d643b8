-- `placing::put_words` meets its contract: the words that are lent are those from a on, as many as are put there.
use mathlib.Core.Path.{refl}
use Rattle.laws.proofs.Parts.{part_put}
use Rattle.placing.proofs.put_words.Goals as goal

pub returns : goal.returns
returns c = rw c.copy_from_slice.ensures.after (part_put _ _ _ _ refl)
