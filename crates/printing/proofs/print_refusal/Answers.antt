-- `printing::print_refusal` meets its contract: the frame is written from the first byte on, and has two words.
use mathlib.Core.Path.{sym, ◌∙◌}
use native.Mathlib.Omega.{arith}
use Rattle.rules.proofs.Frames.{length_frame}
use Rattle.printing.proofs.Lengths.{printed}
use Rattle.printing.proofs.print_refusal.Goals as goal

pub returns : goal.returns
returns c =
    printed _ _ _ _ (c.write_frame.ensures ∙ rw (c.refusal_number-number.ensures, c.refusal_place-place.ensures)) (sym (length_frame 255 _))
    (omega arith)
