-- What the walks over chains answer: how many pages they passed, or nothing where a chain is broken.
use Rattle.std.specs.Prelude.{ℕ, Bool, ◌&&◌, List, length, eqb, Option, Some, None}
use Rattle.laws.specs.Choice.{◌⇒◌∣◌}
use Rattle.laws.specs.Lists.{all, all_below}
use Rattle.rules.specs.Memory.{region_origin, origin, first_link, region_pages, free_pages, pages_from}
use Rattle.rules.specs.Audit.{opens, ends_well, last_link}

-- the pages bear an origin
abbrev pub bear : ℕ → List ℕ → ℕ → List ℕ → Bool
bear n heap o = all (λ k. eqb (origin n heap k) o)

-- region j's chain opens at a page, its pages bear its origin, and it ends with link 0
unfoldable pub region_chained : ℕ → List ℕ → List ℕ → ℕ → Bool
region_chained n heap table j =
    opens n heap table j
    && (bear n heap (region_origin j) (region_pages n heap table j) && ends_well n heap (first_link n table j))

-- the pages of R regions, where each is so
unfoldable pub regions_chained : ℕ → List ℕ → List ℕ → ℕ → Option ℕ
regions_chained n heap table R = all_below (region_chained n heap table) R ⇒ Some (length (pages_from n heap table R 0)) ∣ None

-- the free pages and the link to the last of them, where they bear no origin and the list ends with link 0
unfoldable pub free_listed : ℕ → List ℕ → ℕ → Option (ℕ × ℕ)
free_listed n heap first =
    bear n heap 0 (free_pages n heap first) && ends_well n heap first
    ⇒ Some (length (free_pages n heap first), last_link (free_pages n heap first))
    ∣ None
