-- `allocation::header_for` meets its contract: one case of `header_for` for each kind.
use Rattle.allocation.proofs.header_for.Goals as goal

pub returns-in-Record : goal.returns-in-Record
returns-in-Record c = rw c.in-Record.is

pub returns-in-Raw : goal.returns-in-Raw
returns-in-Raw c = rw c.in-Raw.is
