-- What an allocation has tested before a value is placed.
use Rattle.std.specs.Prelude.{ℕ, ◌+◌, ◌/◌, ◌^◌, ◌≤◌, ◌<◌, ◌≡◌, List, length}
use Rattle.rules.specs.declared.Control.{Control}
use Rattle.rules.specs.Memory.{end_of, top_of}
use Rattle.rules.specs.Refusals.{Paged}

-- the row of region j, and a value of l words and a header
pub record Fit (heap table : List ℕ) (c : Control) (j l : ℕ) : Type 0 where
  pub paged : Paged c.n (length heap)
  pub rows : length table ≡ 256
  pub region : j < 64
  pub first : c.first ≤ length heap / 2 ^ c.n
  pub some_page : 0 < c.count → 0 < c.first
  pub page : 2 ^ c.n ≤ end_of table j
  pub end : end_of table j ≤ length heap
  pub low : end_of table j + 2 ≤ top_of table j + 2 ^ c.n
  pub top : top_of table j ≤ end_of table j
  pub short : l + 3 ≤ 2 ^ c.n
