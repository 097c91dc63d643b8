-- Giving pages back as the code does it: along the links of a chain, each read before its page is cleared; and what that is given and leaves.
use Rattle.std.specs.Prelude.{ℕ, ◌+◌, ◌/◌, ◌^◌, ◌≤◌, ◌<◌, ◌≡◌, List}
use Rattle.laws.specs.Each.{along}
use Rattle.rules.specs.declared.Control.{Control}
use Rattle.rules.specs.Memory.{link}
use Rattle.rules.specs.Refusals.{Paged}
use Rattle.rules.specs.Pages.{Run, give_back}
use Rattle.pages.specs.Taking.{run_of}

-- the link of page k as the heap has it now
abbrev pub link_in : ℕ → Run → ℕ → ℕ
link_in n r k = link n r.heap k

-- the pages from the link l on, of N
abbrev pub give_chain : ℕ → ℕ → ℕ → Run → Run
give_chain n N l r = along N N (link_in n) (give_back n) l r

-- a free list that m more pages can follow; h is the length of the heap
pub record Free (h m : ℕ) (c : Control) : Type 0 where
  pub paged : Paged c.n h
  pub last : c.last ≤ h / 2 ^ c.n
  pub count : c.count + m < 4294967296

-- g is what happened to a run, whatever the table, since heap and record were h and c
pub record Left (g : Run → Run) (h : List ℕ) (c : Control) (h' : List ℕ) (c' : Control) : Type 0 where
  pub run : (t : List ℕ) → run_of h' t c' ≡ g (run_of h t c)
  pub exponent : c'.n ≡ c.n
  pub regions : c'.regions ≡ c.regions
