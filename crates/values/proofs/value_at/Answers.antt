-- `values::value_at` meets its contract: the header says how many words follow, and since the value fits they end inside.
use mathlib.Core.Path.{◌∙◌, ap}
use Prim.Native.Nat.{◌-◌}
use native.Mathlib.Omega.{arith}
use lib.ListN.{take, drop}
use Rattle.rules.proofs.Headers.{fit_of}
use Rattle.rules.proofs.Looks.{value_part}
use Rattle.values.proofs.value_at.Goals as goal

pub slice_bounds-result-end : goal.slice_bounds-result-end
slice_bounds-result-end c = omega (arith, c.value_end-to.ensures, (fit_of _ _ c.requires.1).1)

pub returns : goal.returns
returns c = ap (λ e. take (e - c.args.a.0) (drop c.args.a.0 c.args.memory.now)) c.value_end-to.ensures ∙ value_part _ _ _ c.requires.1
