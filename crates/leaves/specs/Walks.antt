-- Walks along the chains of a heap's pages, and what a step of one says: the page that it passes and where it goes on, or that it is over.
use Rattle.std.specs.Prelude.{ℕ, suc, ◌-◌, ◌<◌, ◌≤◌, ◌≡◌, ◌⊎◌, List, length, Option, None, Some}
use Rattle.rules.specs.declared.Page.{Page}
use Rattle.rules.specs.Memory.{page_count, page_link}
use Rattle.rules.specs.Refusals.{Paged}
use Rattle.leaves.specs.declared.size.Pages.{Pages}
use Rattle.leaves.specs.declared.chain.Chain.{Chain}

-- these are the pages of the heap, all of them
pub record AllOf (p : Pages) (heap : List ℕ) : Type 0 where
  pub paged : Paged p.n (length heap)
  pub count : p.count ≡ page_count p.n heap

-- the link to a page, 0 for none
abbrev pub link_to : Option Page → ℕ
link_to None = 0
link_to (Some k) = page_link k.0

-- page k was passed, and the walk goes on with the link l
pub record Passed (c c' : Chain) (k l : ℕ) : Type 0 where
  pub may : 0 < c.left
  pub named : link_to c.page ≡ suc k
  pub known : k < c.pages.count
  pub left : c'.left ≡ c.left - 1
  pub goes_on : link_to c'.page ≡ l
  pub pages : c'.pages ≡ c.pages

-- no page may be passed, none is named, or one that there is not
abbrev pub Over : Chain → Type 0
Over c = (c.left ≤ 0) ⊎ ((link_to c.page ≡ 0) ⊎ (c.pages.count < link_to c.page))
