-- `allocation::words_fit` meets its contract: only the words of a record are judged.
use Rattle.allocation.proofs.words_fit.Goals as goal

pub returns-in-Record : goal.returns-in-Record
returns-in-Record c = λ t r. rw c.in-Record.is c.good_words.ensures

pub returns-in-Raw : goal.returns-in-Raw
returns-in-Raw c = λ t r. rw c.in-Raw.is
