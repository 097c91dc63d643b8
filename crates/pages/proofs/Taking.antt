-- A page that is there to be taken lies inside the heap, and what the code writes and answers is what taking it says.
use Prim.Native.Nat.{ℕ, ◌-◌, ◌*◌, ◌/◌, ◌^◌, ◌<◌}
use mathlib.Core.Path.{◌≡◌, refl}
use mathlib.Core.Option.{some}
use mathlib.Core.List.{List, []}
use native.Mathlib.Omega.{arith}
use Rattle.rules.specs.declared.Control.{Control}
use Rattle.rules.specs.Memory.{link, set_link, set_origin, region_origin}
use Rattle.rules.specs.Refusals.{Admitted}
use Rattle.rules.specs.Pages.{last_if, take_page}
use Rattle.rules.proofs.Limits.{Inside, page_inside}
use Rattle.rules.proofs.Pages.{taken, takes}
use Rattle.pages.specs.Taking.{PageFree, run_of}

-- k is the first free page
pub free_page : (h k : ℕ) (c : Control) → PageFree h c → k ≡ c.first - 1 → k < h / 2 ^ c.n
free_page h k c f q = omega arith

pub free_inside : (h k : ℕ) (c : Control) → PageFree h c → k ≡ c.first - 1 → Inside (2 ^ c.n) (k * 2 ^ c.n) h
free_inside h k c f q = page_inside _ _ _ _ refl f.paged (free_page h k c f q)

-- after the first tests, where the count is not 0
pub page_free : (h t r k : ℕ) (c : Control) → Admitted h t r k c → (c.count ≡ 0 → ⊥) → PageFree h c
page_free h t r k c a ne =
    let b : 0 < c.count = omega arith in
    record { paged = a.paged; some_first = a.some_page b; first = a.first; some_count = b }

-- page k gets link 0 and then its origin; f, l and m are the free list after that
pub took : (h t : List ℕ) (c : Control) (j k f l m : ℕ) → 0 < c.first → k ≡ c.first - 1
    → f ≡ link c.n h k → l ≡ last_if (c.count - 1) c.last → m ≡ c.count - 1
    → some (k, record { heap = set_origin c.n (set_link c.n h k 0) k (region_origin j); table = t; first = f; last = l; count = m; stack = [] }) ≡ take_page c.n j (run_of h t c)
unfolding taken
took h t c j k f l m b qk qf ql qm = rw (takes c.n j k (run_of h t c) (omega arith), qf, ql, qm)
