-- `placing::store_value` meets its contract: the header and then the words are the value at a, and a moves past them.
use Prim.Native.Nat.{suc, ◌+◌}
use mathlib.Core.Path.{◌≡◌, ap, ◌∙◌}
use native.Mathlib.Omega.{arith}
use lib.ListN.{length, length-set}
use Rattle.rules.specs.Memory.{set_top}
use Rattle.laws.proofs.Parts.{put_first}
use Rattle.placing.proofs.store_value.Goals as goal

pub put_words-requires : goal.put_words-requires
put_words-requires c = simp length-set (omega (arith, c.address_behind.ensures))

pub set_top-requires : goal.set_top-requires
set_top-requires c = omega (arith, c.address_behind-2.ensures)

pub returns : goal.returns
returns c =
    let q : c.address_behind-2.result.0 ≡ c.args.a.0 + suc (length c.args.words.now) = omega (arith, c.address_behind-2.ensures) in
    (rw (c.put_words.ensures, c.address_behind.ensures) (put_first _ _ _ _ (omega (arith, c.requires.0))), c.set_top.ensures ∙ ap (λ x. set_top c.args.table.now c.args.j.0 x) q)
