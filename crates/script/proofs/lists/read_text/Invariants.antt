-- `script::lists::read_text` meets its contract: the pairs that are left give, after the bytes so far, what all the pairs give.
use Rattle.std.specs.Prelude.{◌≡◌, [], take, drop}
use Rattle.script.specs.Texts.{bytes_from}
use Rattle.script.proofs.lists.read_text.Given as goal

abbrev pub invariant-loop-k : goal.invariant-loop-k
invariant-loop-k l = bytes_from (take l.k l.bytes) (drop l.k l.pairs) ≡ bytes_from [] l.pairs
