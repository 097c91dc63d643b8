-- `printing::print_collected` meets its contract: a refusal is the collection's, and what a finished one leaves can be written.
use native.Mathlib.Omega.{arith}
use Rattle.printing.proofs.Lengths.{printed_as}
use Rattle.printing.proofs.Collected.{left_admitted, collected_image, collected_refused}
use Rattle.printing.proofs.print_collected.Goals as goal

pub invariant_of-print_image : goal.invariant_of-print_image
invariant_of-print_image c = record { fits = left_admitted _ _ _ c.in-Ok.is c.collect.ensures }

pub returns-in-Err : goal.returns-in-Err
returns-in-Err c = printed_as (collected_refused _ _ _ c.in-Err.is c.collect.ensures) c.print_refusal.ensures

pub returns-in-Ok : goal.returns-in-Ok
returns-in-Ok c = printed_as (collected_image _ _ _ c.in-Ok.is c.collect.ensures) c.print_image.ensures
