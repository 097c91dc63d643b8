-- `paths::walk_pieces` meets its contract: the walk of the whole path from w is the walk of what is left from the word reached. A piece that ends
-- moves both on, and one that stops stops the whole.
use mathlib.Core.Path.{sym, ◌∙◌}
use Rattle.std.proofs.lemmas.Result.{err_from_is_err_and}
use Rattle.paths.proofs.Pieces.{piece_ends, piece_stops}
use Rattle.paths.proofs.walk_pieces.Goals as goal

pub loop-piece-preserved : goal.loop-piece-preserved
loop-piece-preserved c = c.loop-piece.invariant ∙ piece_ends _ _ _ _ _ c.in-Some.ensures.cases c.in_ok-at.ensures

pub returns-in_err-at : goal.returns-in_err-at
returns-in_err-at c =
    let p = err_from_is_err_and c.from_residual.result c.from_residual.ensures.1 in
    rw (p.1, p.2) (piece_stops _ _ _ _ _ c.in-Some.ensures.cases c.in_err-at.ensures ∙ sym c.loop-piece.invariant)
