-- What taking a page is given and what it leaves, in the terms of a run.
use Rattle.std.specs.Prelude.{ℕ, ◌/◌, ◌^◌, ◌≤◌, ◌<◌, List, []}
use Rattle.rules.specs.declared.Control.{Control}
use Rattle.rules.specs.Refusals.{Paged}
use Rattle.rules.specs.Pages.{Run}

-- a page is there to be taken; h is the length of the heap
pub record PageFree (h : ℕ) (c : Control) : Type 0 where
  pub paged : Paged c.n h
  pub some_first : 0 < c.first
  pub first : c.first ≤ h / 2 ^ c.n
  pub some_count : 0 < c.count

-- a run at the start of a call, and what a page taken leaves of it
abbrev pub run_of : List ℕ → List ℕ → Control → Run
run_of heap table c = record { heap = heap; table = table; first = c.first; last = c.last; count = c.count; stack = [] }
