-- `printing::print_image` meets its contract: the text has room, and is written from the first byte on.
use Prim.Native.Nat.{◌≤◌}
use native.Mathlib.Omega.{arith}
use lib.ListN.{length}
use Rattle.rules.specs.Memory.{store}
use Rattle.rules.specs.Image.{image_text}
use Rattle.printing.proofs.Lengths.{image_short, printed}
use Rattle.printing.proofs.print_image.Goals as goal

pub write_text-requires : goal.write_text-requires
write_text-requires c =
    let l = image_short (store c.args.heap.lent) c.args.heap.fits c.requires.0 c.requires.1 in omega arith

pub returns : goal.returns
returns c =
    let l = image_short (store c.args.heap.lent) c.args.heap.fits c.requires.0 c.requires.1 in
    printed _ _ _ _ c.write_text.ensures c.text_length.ensures.0 (omega (arith, c.text_length.ensures.0))
