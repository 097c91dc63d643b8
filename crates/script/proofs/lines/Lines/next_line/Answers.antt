-- `Lines::next_line`: the byte before what is left of the chunk is the newline that was found in its stretch.
use native.Mathlib.Omega.{arith}
use Rattle.script.proofs.Stretches.{before_next}
use Rattle.script.proofs.lines.Lines.next_line.Goals as goal

pub returns-in-Some-clause-behind : goal.returns-in-Some-clause-behind
returns-in-Some-clause-behind g c =
    λ _. (omega arith, before_next _ _ _ _ _ 10 c.to_come-bytes.ensures c.in-Some.ensures.0 c.in-Some.ensures.1)
