-- `desk::print_parts` meets its contract: a first frame that asks for too much is refused at line 1; for any other there is room.
use mathlib.Core.Path.{◌≡◌, sym, ap, ◌∙◌}
use mathlib.Core.Bool.{true}
use native.Mathlib.Omega.{arith}
use Rattle.laws.proofs.Turned.{told_true, told_false}
use Rattle.desk.specs.Taking.{takes_head}
use Rattle.printing.proofs.Lengths.{printed_as}
use Rattle.desk.proofs.Programs.{Taken, taken, fronts_fit, program_stops, program_goes}
use Rattle.desk.proofs.print_parts.Goals as goal
use Rattle.desk.proofs.print_parts.Goals.{Else-not-takes_head}

takes : (c : Else-not-takes_head) → takes_head c.read_head-h.result ≡ true
takes c = told_true c.takes_head.ensures c.if-not-takes_head.false

room : (c : Else-not-takes_head) → Taken c.read_head-h.result
room c = taken _ (takes c)

pub returns-then-not-takes_head : goal.returns-then-not-takes_head
returns-then-not-takes_head c =
    printed_as (program_stops _ (ap takes_head (sym c.read_head-h.ensures) ∙ told_false c.takes_head.ensures c.if-not-takes_head.true))
    c.print_refusal.ensures

pub heap_words-words-requires : goal.heap_words-words-requires
heap_words-words-requires c = (room (goal.at.heap_words-words-requires c).Else-not-takes_head).n

pub slice_bounds-print_read-end : goal.slice_bounds-print_read-end
slice_bounds-print_read-end c =
    let t = room (goal.at.slice_bounds-print_read-end c).Else-not-takes_head in
    omega (arith, c.heap_words-words.ensures)

pub slice_bounds-print_read-end-2 : goal.slice_bounds-print_read-end-2
slice_bounds-print_read-end-2 c = let t = room (goal.at.slice_bounds-print_read-end-2 c).Else-not-takes_head in omega arith

pub slice_bounds-print_read-end-3 : goal.slice_bounds-print_read-end-3
slice_bounds-print_read-end-3 c = let t = room (goal.at.slice_bounds-print_read-end-3 c).Else-not-takes_head in omega arith

pub print_read-requires : goal.print_read-requires
print_read-requires c =
    let a = c.args in
    let t = takes (goal.at.print_read-requires c).Else-not-takes_head in
    let f = fronts_fit a.text.now a.heap.now a.table.now a.roots.now a.consts.now _ _ c.read_head-h.ensures t c.heap_words-words.ensures
    c.requires.0 c.requires.1 c.requires.2 c.requires.3 in
    (f.0, f.1, f.2, c.requires.4)

pub returns : goal.returns
returns c =
    let t = takes (goal.at.returns c).Else-not-takes_head in
    printed_as (program_goes _ (ap takes_head (sym c.read_head-h.ensures) ∙ t)) c.print_read.ensures
