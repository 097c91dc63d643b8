-- `script::lists::read_text` meets its contract: the pairs that are left give, after the bytes so far, what all the pairs give.
use Rattle.std.proofs.Common.{sym, ◌∙◌, arith}
use Rattle.std.proofs.lemmas.List.{take_more_set}
use Rattle.script.proofs.Pairs.{pairs_turn}
use Rattle.script.proofs.lists.read_text.Goals as goal

pub loop-k-preserved : goal.loop-k-preserved
loop-k-preserved c =
    rw (take_more_set c.loop-k.bytes c.loop-k.k c.in_ok-bytes.field-0 (omega arith))
    (sym (pairs_turn _ _ _ _ c.loop-k-test.true (sym c.in_ok-bytes.was ∙ c.byte.ensures)) ∙ c.loop-k.invariant)
