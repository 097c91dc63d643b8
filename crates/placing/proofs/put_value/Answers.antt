-- `placing::put_value` meets its contract: it fits before e, or it goes into a page more.
use Prim.Native.Nat.{suc, ◌+◌, ◌≤◌}
use mathlib.Core.Path.{sym}
use mathlib.Core.List.{◌∷◌}
use native.Mathlib.Omega.{arith}
use lib.ListN.{length}
use Rattle.rules.specs.Memory.{lent, end_of, top_of}
use Rattle.rules.proofs.Limits.{paged_size}
use Rattle.rules.proofs.Pages.{value_here}
use Rattle.placing.proofs.put_value.Goals as goal

pub top_of-a-requires : goal.top_of-a-requires
top_of-a-requires c = (c.requires.rows, c.requires.region)

pub end_of-e-requires : goal.end_of-e-requires
end_of-e-requires c = (c.requires.rows, c.requires.region)

pub overflow_add-words : goal.overflow_add-words
overflow_add-words c = let s = paged_size _ _ c.requires.paged in omega (arith, c.top_of-a.ensures.1, c.requires.short)

pub address_behind-behind-requires : goal.address_behind-behind-requires
address_behind-behind-requires c = let s = paged_size _ _ c.requires.paged in omega (arith, c.top_of-a.ensures.1, c.requires.short)

pub put_further-requires : goal.put_further-requires
put_further-requires c = (c.requires, omega (arith, c.if-e-behind.true, c.address_behind-behind.ensures, c.top_of-a.ensures.0, c.end_of-e.ensures.0))

pub returns-then-e-behind : goal.returns-then-e-behind
returns-then-e-behind c = c.put_further.ensures

pub store_value-requires : goal.store_value-requires
store_value-requires c = omega (arith, c.if-e-behind.false, c.address_behind-behind.ensures, c.end_of-e.ensures.0, c.requires.end, c.requires.paged.size, c.requires.rows, c.requires.region)

pub address_pointer-requires : goal.address_pointer-requires
address_pointer-requires c = omega (arith, c.if-e-behind.false, c.address_behind-behind.ensures, c.end_of-e.ensures.0, c.requires.end, c.requires.paged.size)

pub returns : goal.returns
returns c =
    λ r k.
    let b : top_of c.args.table.now c.args.j.0 + suc (length c.args.words.now) ≤ end_of c.args.table.now c.args.j.0 = omega (arith, c.if-e-behind.false, c.address_behind-behind.ensures, c.top_of-a.ensures.0, c.end_of-e.ensures.0) in
    rw (c.address_pointer.ensures, c.store_value.ensures.0, c.store_value.ensures.1, c.top_of-a.ensures.0) (sym (value_here (lent _ _ r k c.args.c) _ (c.args.header ∷ c.args.words.now) b))
