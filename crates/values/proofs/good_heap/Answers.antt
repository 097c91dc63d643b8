-- `values::good_heap` meets its contract: the page of an address below the heap's length lies inside the heap, so its descriptor can be
-- read, and the stepping goes from its third word to its end.
use Prim.Native.Nat.{ℕ, ◌+◌, ◌*◌, ◌/◌, ◌^◌, ◌≤◌, ◌<◌}
use mathlib.Core.Path.{◌≡◌, refl, sym, ap, ◌∙◌}
use native.Mathlib.Nat.{div-le_self}
use native.Mathlib.Omega.{arith}
use lib.ListN.{length}
use Rattle.laws.specs.Lists.{at}
use Rattle.rules.proofs.Limits.{Inside, in_page}
use Rattle.rules.proofs.Good.{good_out, good_none, good_high, good_go}
use Rattle.laws.proofs.Turned.{turned}
use Rattle.values.proofs.good_heap.Goals as goal
use Rattle.values.proofs.good_heap.Goals.{After-address_page-page, After-page_address-base}

pub returns-then-heap-a : goal.returns-then-heap-a
returns-then-heap-a c = sym (good_out _ _ _ _ c.requires c.if-heap-a.true)

-- the page's number
small : (c : After-address_page-page) → c.address_page-page.result.0 ≤ 65536
small c = omega (arith, div-le_self c.args.a.0 (2 ^ c.args.n))

pub page_address-base-requires : goal.page_address-base-requires
page_address-base-requires c = let s = small (goal.at.page_address-base-requires c).After-address_page-page in omega arith

-- the address of a's page
base : (c : After-page_address-base) → c.page_address-base.result.0 ≡ c.args.a.0 / 2 ^ c.args.n * 2 ^ c.args.n
base c = c.page_address-base.ensures ∙ ap (λ k. k * 2 ^ c.args.n) c.address_page-page.ensures

here : (c : After-page_address-base) → Inside (2 ^ c.args.n) c.page_address-base.result.0 (length c.args.heap.now)
here c = in_page _ _ _ _ _ refl (base c) c.requires c.if-heap-a.false

pub overflow_add-origin : goal.overflow_add-origin
overflow_add-origin c = omega (arith, here (goal.at.overflow_add-origin c).After-page_address-base)

pub offset_bounds-heap-base : goal.offset_bounds-heap-base
offset_bounds-heap-base c = omega (arith, here (goal.at.offset_bounds-heap-base c).After-page_address-base)

pub bounds-heap-base : goal.bounds-heap-base
bounds-heap-base c = omega (arith, here (goal.at.bounds-heap-base c).After-page_address-base)

-- the origin of a's page
abbrev owner : After-page_address-base → ℕ
owner c = at c.args.heap.now (c.page_address-base.result.0 + 1)

pub returns-then-origin-lt1 : goal.returns-then-origin-lt1
returns-then-origin-lt1 c =
    let none : owner (goal.at.returns-then-origin-lt1 c).After-page_address-base < 1 = search turned in
    sym (good_none _ _ _ _ _ (base (goal.at.returns-then-origin-lt1 c).After-page_address-base) none)

pub returns-then-regions-origin : goal.returns-then-regions-origin
returns-then-regions-origin c =
    let high : c.args.regions < owner (goal.at.returns-then-regions-origin c).After-page_address-base = search turned in
    sym (good_high _ _ _ _ _ (base (goal.at.returns-then-regions-origin c).After-page_address-base) high)

pub body_address-start-requires : goal.body_address-start-requires
body_address-start-requires c = let s = small (goal.at.body_address-start-requires c).After-address_page-page in omega arith

pub page_end-end-requires : goal.page_end-end-requires
page_end-end-requires c = let s = small (goal.at.page_end-end-requires c).After-address_page-page in omega arith

pub stands-requires : goal.stands-requires
stands-requires c = let i = here (goal.at.stands-requires c).After-page_address-base in omega arith

pub returns : goal.returns
returns c =
    let some : 1 ≤ owner (goal.at.returns c).After-page_address-base = search turned in
    let low : owner (goal.at.returns c).After-page_address-base ≤ c.args.regions = search turned in
    c.stands.ensures ∙ sym (good_go _ _ _ _ _ (base (goal.at.returns c).After-page_address-base) _ _ (omega arith) (omega arith) some low)
