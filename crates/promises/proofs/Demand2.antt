-- Demand 2, of the definitions. "A finished collection leaves exactly the words that document 01 works out. It is refused for pages exactly when
-- that working needs more than the free list has. The due answer and used words are document 01's sums. Numbers and images
-- read back as they were written."
-- (What a collection leaves is the definition `collect`; that the code leaves it is the code's contract.)
-- It is true because the working takes a page exactly where the one with as many pages as it wants does, until a page lacks; the sums and the
-- readings are the definitions, step by step.
use Rattle.std.specs.Prelude.{Ok}
use Prim.Native.Nat.{ℕ, suc, ◌+◌, ◌*◌, ◌^◌, ◌≤◌, ◌<◌}
use mathlib.Core.Path.{◌≡◌}
use mathlib.Core.Logic.{◌↔◌}
use mathlib.Core.Bool.{Bool, true}
use mathlib.Core.List.{List, map, sum}
use lib.ListN.{length, take}
use lib.IntN.{ℤ}
use Rattle.rules.specs.declared.Control.{Control}
use Rattle.rules.specs.declared.Refusal.{Refusal}
use Rattle.rules.specs.Memory.{Store, Words32, page_count, region_pages}
use Rattle.rules.specs.Words.{Val, page_vals}
use Rattle.rules.specs.Refusals.{outcome, refused, leaving, within_limits, common_test}
use Rattle.rules.specs.Calls.{word_of_number, number_of_word, audit, due, used_words}
use Rattle.rules.specs.Collection.{from_space, collect}
use Rattle.rules.specs.Image.{write_image, read_image}
use Rattle.rules.specs.Left.{left_opened}
use Rattle.rules.specs.Wanted.{wanted}

-- L+1 of each value of page k
abbrev pub words_on : Store → ℕ → List ℕ
words_on s k = map (λ (v : Val). suc (length v.words)) (page_vals s.ctl.n s.heap k)

pub record Demand2 : Type 0 where
  -- a collection of a heap that passes is refused 4 exactly when its working, had it as many pages as it wants, takes more than are free
  pub lacks : (s : Store) → audit s ≡ Ok s.ctl → (collect s ≡ refused s Refusal.NoPage) ↔ (s.ctl.count < wanted s)
  -- one that finishes took from the free list the pages that its working wants, the regions then have just these, and what the regions had went
  -- back to the list
  pub finishes : (s s' : Store) → audit s ≡ Ok s.ctl → collect s ≡ leaving s'
      → (wanted s ≤ s.ctl.count) × (length (from_space s') ≡ wanted s) × (s'.ctl.count + wanted s ≡ s.ctl.count + length (from_space s))
  -- a collection is due exactly when 3 times the free count is below N
  pub dues : (s : Store) → within_limits s ≡ true → common_test s ≡ true
      → (b : Bool) × (due s ≡ Ok (b, s.ctl)) × ((b ≡ true) ↔ (3 * s.ctl.count < page_count s.ctl.n s.heap))
  -- a region's used words are L+1 summed over its values, page by page
  pub uses : (s : Store) → audit s ≡ Ok s.ctl → (j : ℕ) → j < s.ctl.regions
      → used_words s j ≡ Ok (sum ◌+◌ 0 (map (λ k. sum ◌+◌ 0 (words_on s k)) (region_pages s.ctl.n s.heap s.table j)), s.ctl)
  -- numbers read back as they were written, and 32-bit words too
  pub numbers : (i : ℤ) (w : ℕ) → word_of_number i ≡ Ok w → number_of_word w ≡ Ok i
  pub words : (w : ℕ) (i : ℤ) → w < 2 ^ 32 → number_of_word w ≡ Ok i → word_of_number i ≡ Ok w
  -- images read back as they were written, into parts of the image's lengths; and what was read is written as it was
  pub images : (s : Store) (bytes : List ℕ) (m : ℕ) (c : Control) → Words32 s → (write_image s bytes).answer ≡ Ok (m, c)
      → (heap table roots consts : List ℕ) → length heap ≡ length s.heap → length table ≡ length s.table → length roots ≡ length s.roots → length consts ≡ length s.consts
      → read_image (take m (write_image s bytes).bytes) heap table roots consts ≡ outcome (Ok s.ctl) s.heap s.table s.roots s.consts
  pub texts : (text heap table roots consts : List ℕ) (c : Control) → (read_image text heap table roots consts).answer ≡ Ok c
      → (bytes : List ℕ) (m : ℕ) (d : Control) → (write_image (left_opened (read_image text heap table roots consts) c) bytes).answer ≡ Ok (m, d)
      → take m (write_image (left_opened (read_image text heap table roots consts) c) bytes).bytes ≡ text
