-- How the collection at work matches the plain run at each step: their heaps have the same words but for the origins of the pages that were
-- taken, where the one at work keeps the old free links; and the notes hold what the run's table, free list and scan stack hold.
use Prim.Native.Nat.{ℕ, ◌+◌, ◌*◌, ◌^◌, ◌≤◌, ◌<◌}
use mathlib.Core.Path.{◌≡◌}
use mathlib.Core.Logic.{◌≢◌, ◌↔◌}
use mathlib.Core.List.{List, [], ◌∷◌, ◌++◌, Memᴰ}
use lib.ListN.{length}
use Rattle.laws.specs.Lists.{at}
use Rattle.rules.specs.Memory.{Store, link}
use Rattle.rules.specs.Pages.{Scan, Run}
use Rattle.facts.proofs.Laid.{Owner, mine}
use Rattle.facts.proofs.Sound.{Sound}
use Rattle.working.proofs.Invariant.{Ghost}
use Rattle.motion.specs.Leaves.{Desk, notes_length, entry, depth, free_first, taken, free_last, given}

-- the scan stack in the notes, the lowest entry first: t is entry number `length ts`
pub data Noted (notes : List ℕ) : List Scan → Type 0 where
  bare : Noted notes []
  above : {t : Scan} {ts : List Scan} → at notes (entry (length ts)) ≡ t.address → at notes (entry (length ts) + 1) ≡ t.region
      → Noted notes ts → Noted notes (t ∷ ts)

-- x is the origin of no page that is taken
abbrev pub Plain : Store → (ℕ → Owner) → ℕ → Type 0
Plain s own x = (k j : ℕ) → own k ≡ mine j → x ≢ k * 2 ^ s.ctl.n + 1

-- page k is `own k`'s, and the pages `free` are free
pub record Alike (s : Store) (S : Sound s) (own : ℕ → Owner) (free : List ℕ) (r : Run) (d : Desk) : Type 0 where
  pub heap_length : length d.heap ≡ length r.heap
  pub notes_length_lem : length d.notes ≡ notes_length
  -- the same words, but for the origins of taken pages
  pub words : (x : ℕ) → Plain s own x → at d.heap x ≡ at r.heap x
  -- the pages that were taken, in the order of taking: the front of the free list as it was; each keeps its old link as its origin
  pub took : List ℕ
  pub front : S.free ≡ took ++ free
  pub owned : (k : ℕ) → Memᴰ k took ↔ ((j : ℕ) × (own k ≡ mine j))
  pub kept_link : (k : ℕ) → Memᴰ k took → at d.heap (k * 2 ^ s.ctl.n + 1) ≡ link s.ctl.n s.heap k
  -- the notes
  pub rows : (j c : ℕ) → j < s.ctl.regions → c < 4 → at d.notes (4 * j + c) ≡ at r.table (4 * j + c)
  pub free_first_lem : at d.notes free_first ≡ r.first
  pub taken_count : at d.notes taken ≡ length took
  pub free_last_lem : at d.notes free_last ≡ s.ctl.last
  pub given_none : at d.notes given ≡ 0
  pub shallow : length r.stack ≤ 64
  pub deep : at d.notes depth ≡ length r.stack
  pub noted : Noted d.notes r.stack

-- of the ghost state only the owners and the free list count
abbrev pub Matching : (s : Store) → Sound s → Ghost → Run → Desk → Type 0
Matching s S g r d = Alike s S g.own g.free r d
