-- The tests that every call makes first, as one answer.
use Rattle.std.specs.Prelude.{ℕ, ◌/◌, ◌^◌, not, length, Result, Ok}
use Rattle.laws.specs.Choice.{◌⇒◌∣◌}
use Rattle.rules.specs.declared.Control.{Control}
use Rattle.rules.specs.declared.Refusal.{Refusal}
use Rattle.rules.specs.declared.Refused.{Refused}
use Rattle.rules.specs.Memory.{Store, limits}
use Rattle.rules.specs.Refusals.{refusing, common}

-- h, t, r, k are the four lengths
unfoldable pub first_tests : ℕ → ℕ → ℕ → ℕ → Control → Result (Unit {0}) Refused
first_tests h t r k c =
    not (limits c.n h t r k) ⇒ refusing Refusal.Limits c ∣
    not (common (h / 2 ^ c.n) c) ⇒ refusing (Refusal.Broken 0) c ∣
    Ok tt

-- the same of a store
abbrev pub tests_of : Store → Result (Unit {0}) Refused
tests_of s = first_tests (length s.heap) (length s.table) (length s.roots) (length s.consts) s.ctl
