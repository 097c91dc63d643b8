-- Runs of calls on one heap: each call is given the lent words and the record that the one before it left. (Reading an image is none of
-- them: it puts other words in place of all, and looks at no rule.)
use Rattle.std.specs.Prelude.{ℕ, List, [], ◌∷◌, ℤ}
use Rattle.rules.specs.declared.Control.{Control}
use Rattle.rules.specs.declared.Kind.{Kind}
use Rattle.rules.specs.Memory.{Store}
use Rattle.rules.specs.Calls.{set_up, push, pop, allocate, assign, set_root}
use Rattle.rules.specs.Collection.{collect}
use Rattle.rules.specs.Left.{record_opened, left_plain, left_valued, left_opened}

-- a public call with what it is offered
pub data Call : Type 0 where
  a_push a_pop a_collect an_audit a_due : Call
  an_allocate : ℕ → Kind → List ℕ → Call
  a_fetch a_fetch_refusal : ℕ → Call
  an_assign : ℕ → ℕ → ℕ → Call
  a_set_root : ℕ → ℕ → Call
  a_walk : ℕ → List ℕ → Call
  a_used_words : ℕ → Call
  a_page a_page_refusal : ℕ → Call
  a_set_up : ℕ → Call
  a_word_of_number : ℤ → Call
  a_number_of_word : ℕ → Call
  a_write_image : List ℕ → Call

-- the store that it leaves; those whose definition has an answer alone leave the store that they were given
abbrev pub after : Call → Store → Store
after a_push s = left_plain (push s)
after a_pop s = left_plain (pop s)
after a_collect s = left_plain (collect s)
after (an_allocate j kind ws) s = left_valued (allocate s j kind ws)
after (an_assign w i x) s = left_plain (assign s w i x)
after (a_set_root i w) s = left_plain (set_root s i w)
after (a_set_up n) s =
    left_opened (set_up n s.heap s.table s.roots s.consts)
    (record_opened s.ctl (set_up n s.heap s.table s.roots s.consts).answer)
after an_audit s = s
after a_due s = s
after (a_fetch w) s = s
after (a_fetch_refusal w) s = s
after (a_walk i path) s = s
after (a_used_words j) s = s
after (a_page k) s = s
after (a_page_refusal k) s = s
after (a_word_of_number i) s = s
after (a_number_of_word w) s = s
after (a_write_image bytes) s = s

unfoldable pub run : List Call → Store → Store
run [] s = s
run (c ∷ cs) s = run cs (after c s)

-- what setting up leaves, where it returned the record c
abbrev pub fresh : ℕ → List ℕ → List ℕ → List ℕ → List ℕ → Control → Store
fresh n heap table roots consts c = left_opened (set_up n heap table roots consts) c
