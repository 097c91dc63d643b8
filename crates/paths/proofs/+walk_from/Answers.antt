-- `paths::walk_from` meets its contract. The path handed on is the path without its first field, so the rest of the walk is the walk of
-- the rest.
use Prim.Native.Nat.{ℕ, ◌+◌}
use mathlib.Core.Path.{◌≡◌, sym, ◌∙◌}
use mathlib.Core.Bool.{Bool, true, false}
use mathlib.Core.List.{List}
use native.Mathlib.Omega.{arith}
use borrow.Author.Tests.{eqb-true}
use lib.Dec.{eqb}
use Rattle.std.proofs.lemmas.Bool.{eqb-false}
use Rattle.laws.specs.Lists.{at}
use Rattle.rules.specs.Calls.{Walked, walk_from}
use Rattle.rules.proofs.Walks.{walk_number_end, walk_number, walk_not_good, walk_end, walk_raw, walk_past, walk_go}
use Rattle.paths.proofs.+walk_from.Goals as goal

-- the rest of a walk goes on from word m of the value v, which is the field f behind the header
stepped : (view : ℕ → List ℕ) (v fs : List ℕ) (f m : ℕ) {x y : Walked} → x ≡ walk_from view (at v m) fs → m ≡ f + 1 → y ≡ walk_from view (at v (f + 1)) fs → x ≡ y
stepped view v fs f m said field step = rw (step, ← field) said

-- what a test for emptiness tells of the length
none : {r : Bool} {n : ℕ} → r ≡ eqb n 0 → r ≡ true → n ≡ 0
none e t = eqb-true _ _ (sym e ∙ t)

some : {r : Bool} {n : ℕ} → r ≡ eqb n 0 → r ≡ false → n ≡ 0 → ⊥
some e f = eqb-false _ _ (sym e ∙ f)

pub returns-then-is_empty : goal.returns-then-is_empty
returns-then-is_empty t c = sym (walk_number_end _ _ _ c.if-w-eq1.true (none c.is_empty.ensures c.if-is_empty.true))

pub returns-then-w-eq1 : goal.returns-then-w-eq1
returns-then-w-eq1 t c = sym (walk_number _ _ _ c.if-w-eq1.true (some c.is_empty.ensures c.if-is_empty.false))

pub returns-then-is_empty-2 : goal.returns-then-is_empty-2
returns-then-is_empty-2 t c = sym (walk_not_good _ _ c.if-w-eq1.false _ c.look-met.ensures _ (none c.is_empty-2.ensures c.if-is_empty-2.true))

pub returns-then-is_empty-3 : goal.returns-then-is_empty-3
returns-then-is_empty-3 t c =
    sym (walk_end _ _ c.if-w-eq1.false _ c.look-met.ensures (some c.is_empty-2.ensures c.if-is_empty-2.false) _
    (none c.is_empty-3.ensures c.if-is_empty-3.true))

pub returns-then-not-is_record : goal.returns-then-not-is_record
returns-then-not-is_record t c =
    let there = some c.is_empty-2.ensures c.if-is_empty-2.false in
    let more = some c.is_empty-3.ensures c.if-is_empty-3.false in
    let raw = sym c.is_record.ensures ∙ c.if-not-is_record.true in
    sym (walk_raw _ _ c.if-w-eq1.false _ c.look-met.ensures there _ more raw)

pub returns-then-met-field : goal.returns-then-met-field
returns-then-met-field t c =
    let there = some c.is_empty-2.ensures c.if-is_empty-2.false in
    let more = some c.is_empty-3.ensures c.if-is_empty-3.false in
    let kind = sym c.is_record.ensures ∙ c.if-not-is_record.false in
    sym (walk_past _ _ c.if-w-eq1.false _ c.look-met.ensures there _ more kind (omega (arith, c.if-met-field.true)))

pub returns : goal.returns
returns t c =
    let there = some c.is_empty-2.ensures c.if-is_empty-2.false in
    let more = some c.is_empty-3.ensures c.if-is_empty-3.false in
    let kind = sym c.is_record.ensures ∙ c.if-not-is_record.false in
    let step = walk_go _ _ c.if-w-eq1.false _ c.look-met.ensures there _ more kind (omega (arith, c.if-met-field.false)) in
    stepped _ c.look-met.result.now _ _ _ c.walk_from.ensures (omega arith) step
