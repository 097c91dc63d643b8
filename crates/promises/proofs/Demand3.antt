-- Demand 3. "On a heap that the audit passes, a collection finishes or lacks pages, and the heap passes again. If it finishes, every path from
-- a root reads the same or is refused as before, two paths meet exactly when they met, every value stays in its region, and each region's used
-- words are exactly those of its values that a root reaches, once each. From a fresh heap, any run of calls leaves a heap that passes."
-- It is stated over what `collect` of rules leaves, so over demand 2's result. It is true because a run on a sound heap lacks a page or ends with
-- each reached value copied once, in its region and with its words; and each call keeps a heap sound.
use Rattle.std.specs.Prelude.{Ok}
use Prim.Native.Nat.{ℕ, ◌+◌, ◌≤◌, ◌<◌}
use mathlib.Core.Path.{◌≡◌}
use mathlib.Core.Logic.{◌↔◌, ◌≢◌, ◌⊎◌}
use mathlib.Core.Bool.{true}
use mathlib.Core.List.{List, map, sum, Memᴰ, Nodup}
use Rattle.rules.specs.declared.Control.{Control}
use Rattle.rules.specs.declared.Refusal.{Refusal}
use Rattle.rules.specs.Memory.{Store, lent}
use Rattle.rules.specs.Audit.{rule8}
use Rattle.rules.specs.Refusals.{refused, leaving}
use Rattle.rules.specs.Calls.{set_up, walk, audit, used_words}
use Rattle.rules.specs.Left.{left_plain}
use Rattle.rules.specs.Collection.{collect}
use Rattle.rules.specs.Runs.{Call, run, fresh}
use Rattle.rules.specs.Seen.{home_in, seen, Reached, read_value, ReadsAlike, read_at, Meet, words_at}

-- s' is what a finished collection of s leaves
pub record Finished (s s' : Store) : Type 0 where
  -- 2. every path, any root number and any list of field numbers, reads the same: the same refusal, or the same number, or a value of the same
  -- kind and length, with the same numbers in its fields, and for a raw value the same words; and 4. of the same region. (`read_at` is what a
  -- fetch gives of the word that the walk answers, with its region.)
  pub reads : (i : ℕ) (fs : List ℕ) → read_at s (walk s i fs) ≡ read_at s' (walk s' i fs)
  -- 3. two paths meet in one value exactly when they met before
  pub meets : (i : ℕ) (fs : List ℕ) (j : ℕ) (gs : List ℕ) → Meet s i fs j gs ↔ Meet s' i fs j gs
  -- 5. `live` are the pointers, each once, of exactly those values of regions that a root reaches; each region's used words are their L+1 summed
  pub live : List ℕ
  pub once : Nodup live
  pub exactly : (w : ℕ) → Memᴰ w live ↔ (Reached (seen s) s.roots w × (home_in s w ≢ 0))
  pub counts : (j : ℕ) → j < s.ctl.regions → used_words s' j ≡ Ok (sum ◌+◌ 0 (map (words_at (seen s) j) live), s'.ctl)
  -- "A collection never raises them"
  pub never_more : (j u u' : ℕ) → used_words s j ≡ Ok (u, s.ctl) → used_words s' j ≡ Ok (u', s'.ctl) → u' ≤ u

pub record Demand3 : Type 0 where
  -- 1. a collection of a heap that passes is refused 4, with all as it was, or finishes, and nothing else;
  pub collection : (s : Store) → audit s ≡ Ok s.ctl → (collect s ≡ refused s Refusal.NoPage) ⊎ ((s' : Store) × (collect s ≡ leaving s') × Finished s s')
  -- and in both cases the audit answers yes afterwards, of the words and the record that the collection leaves
  pub passes : (s : Store) → audit s ≡ Ok s.ctl → audit (left_plain (collect s)) ≡ Ok (left_plain (collect s)).ctl
  -- what equal readings of two values say: the same region, kind and length, the same numbers in the fields, the same raw words
  pub reading : (home home' : ℕ) (v v' : List ℕ) → read_value home v ≡ read_value home' v' → ReadsAlike home home' v v'
  -- 6. from a fresh heap whose constants keep rule 8, any run of calls, refused ones included, each given the same lent words and its own last
  -- record, leaves a heap that passes
  pub any_run : (n : ℕ) (heap table roots consts : List ℕ) (c : Control) → rule8 (lent heap table roots consts c) ≡ true
      → (set_up n heap table roots consts).answer ≡ Ok c → (calls : List Call)
      → audit (run calls (fresh n heap table roots consts c)) ≡ Ok (run calls (fresh n heap table roots consts c)).ctl
