-- `constants::const_fields` meets its contract: at each level what is left to test, with what the outer level has left, is the whole test.
use mathlib.Core.Path.{◌≡◌}
use mathlib.Core.Bool.{true, ◌&&◌}
use Prim.Native.Nat.{◌-◌}
use lib.ListN.{length}
use lib.Seq.{slice}
use Rattle.laws.specs.Lists.{all}
use Rattle.rules.specs.Words.{vals_in, const_vals, fields_pass}
use Rattle.rules.specs.Audit.{const_field}
use Rattle.constants.proofs.const_fields.Given as goal

abbrev pub invariant-loop-w : goal.invariant-loop-w
invariant-loop-w l = (all (const_field l.consts) (slice l.w-index (length l.w-items) l.w-items) && (all (fields_pass (const_field l.consts)) (vals_in l.consts l.next.0 l.end.0) && true)) ≡ all (fields_pass (const_field l.consts)) (const_vals l.consts)

abbrev pub invariant-values : goal.invariant-values
invariant-values l = (all (fields_pass (const_field l.consts)) (vals_in l.consts l.at.0 l.end.0) && true) ≡ all (fields_pass (const_field l.consts)) (const_vals l.consts)

abbrev pub decreases-values : goal.decreases-values
decreases-values l = l.end.0 - l.at.0
