-- `desk::print_read` meets its contract: the parts have the lengths of the image, so that reading is refused only for a malformed text.
use Rattle.printing.proofs.Lengths.{printed_as}
use Rattle.desk.proofs.Programs.{read_refused, read_done}
use Rattle.desk.proofs.print_read.Goals as goal

pub returns-in-Err : goal.returns-in-Err
returns-in-Err c = printed_as (read_refused _ _ _ _ _ c.requires.0 _ c.read_image.ensures _ c.in-Err.is) c.print_refusal.ensures

pub returns-in-Ok : goal.returns-in-Ok
returns-in-Ok c = printed_as (read_done _ _ _ _ _ c.requires.0 _ c.read_image.ensures _ c.in-Ok.is) c.print_collected.ensures
