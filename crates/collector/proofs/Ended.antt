-- The whole, by what its parts ensure: each part is the definition's, and what it leaves is what the next one starts with. An attempt keeps the
-- heap's length, so after it there are as many pages as before.
use Rattle.std.specs.Prelude.{Ok}
use Rattle.rules.specs.Refusals.{outcome, refusing}
use Prim.Native.Nat.{ℕ, ◌/◌, ◌^◌}
use mathlib.Core.Path.{◌≡◌, refl}
use mathlib.Core.List.{List}
use lib.ListN.{length}
use Rattle.laws.specs.Lists.{at}
use Rattle.rules.specs.declared.Control.{Control}
use Rattle.rules.specs.declared.Refusal.{Refusal}
use Rattle.rules.specs.Memory.{lent, page_count}
use Rattle.leaves.specs.declared.size.Pages.{Pages}
use Rattle.leaves.specs.Walks.{AllOf}
use Rattle.motion.specs.Leaves.{desk, taken}
use Rattle.motion.specs.Whole.{undo, own_all, give_all, written_roots, written_table, record_by, done_as, done, lacking}

pub finished : (c c' : Control) (p : Pages) (h t rs notes rs' h₁ h₂ notes₂ t' k : List ℕ) → p.n ≡ c.n → AllOf p h → rs' ≡ written_roots h rs
    → h₁ ≡ own_all p.n p.count c.regions notes h → desk h₂ notes₂ ≡ give_all p.n p.count c.regions t (desk h₁ notes)
    → t' ≡ written_table c.regions notes₂ t → c' ≡ record_by c notes₂
    → outcome (Ok c') h₂ t' rs' k ≡ done (lent h t rs k c) (page_count c.n h) (desk h notes)
unfolding done done_as
finished c c' p h t rs notes rs' h₁ h₂ notes₂ t' k n g a b d e f =
    let count : p.count ≡ length h / 2 ^ c.n = rw n at g.count in
    let owned = rw (n, count) at b in
    let given = rw (n, count) at d in
    rw (f, e, a, ← owned, ← given)

-- h and h₁ are the heap before the attempt and after it, and notes₂ the notes that it left
module _ (c : Control) (h t rs k h₁ notes₂ : List ℕ) where
  -- the end of a collection that is done takes the heap from the attempt, and not from the store
  pub ends : (m : ℕ) → done (lent h t rs k c) m (desk h₁ notes₂) ≡ done (lent h₁ t rs k c) m (desk h₁ notes₂)
  unfolding done done_as
  ends m = refl

  -- where a page lacks, what the attempt left is undone, and the call is refused
  pub lacks : length h₁ ≡ length h
      → lacking (lent h t rs k c) (page_count c.n h) (desk h₁ notes₂) ≡ outcome (refusing Refusal.NoPage c) (undo c.n (at notes₂ taken) (page_count c.n h₁) c.regions c.first t h₁) t rs k
  unfolding lacking
  lacks l = rw l
