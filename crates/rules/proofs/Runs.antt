-- A run does each of its calls on what the one before it left, and a refused one leaves that as it is: the label "Sh" made from nothing. It is
-- true by computation.
use mathlib.Core.Path.{◌≡◌, refl}
use mathlib.Core.List.{[], ◌∷◌}
use lib.ListN.{replicate}
use Rattle.laws.specs.Lists.{put}
use Rattle.rules.specs.declared.Kind.{Kind}
use Rattle.rules.specs.Memory.{Store, lent, control, limits, page_words, link, origin}
use Rattle.rules.specs.Words.{word_of, head_of, fit, vals, page_vals, stands_at, good_on, good_heap, good_in}
use Rattle.rules.specs.Audit.{top_fits}
use Rattle.rules.specs.Refusals.{common}
use Rattle.rules.specs.Pages.{link_fits, take_page, join, room, store, place}
use Rattle.rules.specs.Calls.{fresh_pages, set_up, push_on, push, row_fits, allocate_on, allocate_in, allocate, set_root}
use Rattle.rules.specs.Runs.{a_set_up, a_push, an_allocate, a_set_root, run}

-- two pages of 16 words and one root, all 0, and a record that was never set
abbrev pub unset : Store
unset = lent (replicate 32 0) (replicate 256 0) (0 ∷ []) [] (control 0 0 0 0 0)

-- the label in region 0, and the root that points to it
abbrev pub labelled : Store
labelled = lent (0 ∷ 1 ∷ 19 ∷ 0x53 ∷ 0x68 ∷ replicate 27 0) (16 ∷ 0 ∷ 5 ∷ 0 ∷ replicate 252 0) (8 ∷ []) [] (control 4 1 2 2 1)

-- there is no region 1, and pages of 2^9 words are beyond the limits
pub run_labels : run (a_set_up 4 ∷ a_push ∷ an_allocate 1 Kind.Raw [] ∷ an_allocate 0 Kind.Raw (0x53 ∷ 0x68 ∷ []) ∷ a_set_root 0 8 ∷ a_set_up 9 ∷ []) unset ≡ labelled
unfolding run limits common fresh_pages set_up link_fits take_page push_on push row_fits top_fits fit vals word_of head_of page_vals stands_at good_on good_heap good_in store place room join allocate_on allocate_in allocate set_root page_words origin link put
run_labels = refl
