-- `script::numbers::number` meets its contract: what is left of the token gives, after the number so far, what the whole token gives from 0.
use Rattle.std.specs.Prelude.{◌≡◌, ◌≤◌, drop}
use Rattle.script.specs.Numbers.{number_from}
use Rattle.script.proofs.numbers.number.Given as goal

abbrev pub invariant-loop-b : goal.invariant-loop-b
invariant-loop-b l = record {
  told : number_from l.base l.x (drop l.b-index l.token) ≡ number_from l.base 0 l.token;
  bounded : l.x ≤ 4294967296;
}
