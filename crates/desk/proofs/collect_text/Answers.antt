-- `desk::collect_text` meets its contract: with too little room nothing is printed; else the parts are as long as printing wants them.
use mathlib.Core.Path.{refl}
use native.Mathlib.Omega.{arith}
use Rattle.desk.proofs.collect_text.Goals as goal

pub returns-then-out-lt53084 : goal.returns-then-out-lt53084
returns-then-out-lt53084 c =
    (omega arith, λ q. absurd (omega (arith, c.if-out-lt53084.true)), λ q. record { bytes = refl; count = refl; fits = omega arith })

pub returns : goal.returns
returns c = let p = c.print_parts.ensures in (p.fits, λ q. p, λ q. absurd (omega (arith, c.if-out-lt53084.false)))
