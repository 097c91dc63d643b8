-- `script::lists::read_list` meets its contract: writes leave the part its length.
use Rattle.std.proofs.Common.{arith}
use Rattle.script.proofs.lists.read_list.Goals as goal

pub returns-then-is_done : goal.returns-then-is_done
returns-then-is_done g c = omega (arith, c.loop-k.auto.part)

pub returns : goal.returns
returns g c = tt
