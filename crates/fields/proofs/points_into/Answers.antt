-- `fields::points_into` meets its contract: each way in which the code decides is what the definition decides.
use mathlib.Core.Path.{◌≡◌, refl, sym, ap, ◌∙◌}
use mathlib.Core.Bool.{Bool, not}
use Prim.Native.Nat.{◌*◌, ◌^◌}
use native.Mathlib.Omega.{arith}
use native.Mathlib.Nat.{div-le_self}
use lib.Dec.{eqb}
use lib.ListN.{length}
use Rattle.rules.proofs.Limits.{Inside, in_page}
use Rattle.fields.proofs.Turns.{into_not, into_out, into_none, into_at}
use Rattle.fields.proofs.points_into.Goals as goal
use Rattle.fields.proofs.points_into.Goals.{After-page_address-base}

-- the test b, however it is written
by-test : (x b t : Bool) → x ≡ t → b ≡ t → b ≡ x
by-test x b t p q = q ∙ sym p

pub returns-then-w-ne0 : goal.returns-then-w-ne0
returns-then-w-ne0 c = sym (into_not _ _ _ _ c.if-w-ne0.true)

pub returns-then-heap-a : goal.returns-then-heap-a
returns-then-heap-a c = sym (into_out _ _ _ _ _ c.if-w-ne0.false c.pointer_address-a.ensures c.requires c.if-heap-a.true)

pub address_page-requires : goal.address_page-requires
address_page-requires c = c.requires.high

pub page_address-base-requires : goal.page_address-base-requires
page_address-base-requires c = let z = c.requires.size in (omega (arith, c.address_page.ensures, div-le_self c.pointer_address-a.result.0 (2 ^ c.args.n)), c.requires.high)

here : (c : After-page_address-base) → Inside (2 ^ c.args.n) c.page_address-base.result.0 (length c.args.heap.now)
here c = in_page _ _ _ _ _ refl (c.page_address-base.ensures ∙ ap (λ k. k * 2 ^ c.args.n) c.address_page.ensures) c.requires c.if-heap-a.false

pub overflow_add-origin : goal.overflow_add-origin
overflow_add-origin c = omega (arith, here (goal.at.overflow_add-origin c).After-page_address-base)

pub offset_bounds-heap-base : goal.offset_bounds-heap-base
offset_bounds-heap-base c = omega (arith, here (goal.at.offset_bounds-heap-base c).After-page_address-base)

pub bounds-heap-base : goal.bounds-heap-base
bounds-heap-base c = omega (arith, here (goal.at.bounds-heap-base c).After-page_address-base)

pub returns-then-origin-ne0 : goal.returns-then-origin-ne0
returns-then-origin-ne0 c = let q = into_at c.args.n c.args.heap.now c.args.j.0 c.args.w _ c.if-w-ne0.false c.pointer_address-a.ensures _ _ c.address_page.ensures c.page_address-base.ensures _ c.if-origin-ne0.true c.origin_region.ensures in search by-test

pub returns-else-origin-ne0 : goal.returns-else-origin-ne0
returns-else-origin-ne0 c = ap (λ x. not (eqb x 0)) c.if-origin-ne0.false ∙ sym (into_none _ _ _ _ _ c.if-w-ne0.false c.pointer_address-a.ensures _ _ c.address_page.ensures c.page_address-base.ensures c.if-origin-ne0.false)
