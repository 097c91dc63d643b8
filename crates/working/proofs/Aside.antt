-- What is no part of the layout: the scan stack, a region's status, and the words of old pages. The layout speaks of none of them.
use Prim.Native.Nat.{ℕ, zero, suc, ◌+◌, ◌*◌, ◌^◌, ◌≤◌, ◌<◌}
use native.Mathlib.Nat.{le_refl}
use native.Mathlib.Omega.{arith}
use mathlib.Core.Path.{◌≡◌, refl, ap, ◌∙◌}
use mathlib.Core.Logic.{◌≢◌}
use mathlib.Core.List.{List, ◌∷◌}
use lib.ListN.{set, length-set}
use lib.Seq.{get_or-set_other}
use Rattle.rules.specs.Memory.{status_of, set_status}
use Rattle.laws.specs.Lists.{at}
use Rattle.rules.specs.Pages.{Scan, Run, with_heap, with_table, with_stack}
use Rattle.rules.specs.Collection.{wake}
use Rattle.laws.proofs.Lists.{set_elsewhere}
use Rattle.facts.proofs.Laid.{old≢spare, old≢mine, Owner, old, Like, body_like, Layout, like_kept, link_kept, heap_laid, rows_laid}

-- a region that is woken slept, and is awake and on the stack then, or all stays
pub wake_by : (n j b : ℕ) (r : Run) (Q : Run → Type 0)
    → (status_of r.table j ≡ 0 → Q (with_stack (with_table r (set_status r.table j 1)) (record { region = j; address = b } ∷ r.stack))) → (status_of r.table j ≢ 0 → Q r)
    → Q (wake n j b r)
unfolding wake
wake_by n j b r Q slept was_awake = go (status_of r.table j) refl
  where
    go : (c : ℕ) → status_of r.table j ≡ c → Q (wake n j b r)
    go zero e = rw (e, wake) (slept e)
    go (suc c) e = rw (e, wake) (was_awake (λ q. omega arith))

module _ {n N R : ℕ} {own : ℕ → Owner} {fin : ℕ → ℕ} {pages : ℕ → List ℕ} {free : List ℕ} {r : Run} (L : Layout n N R own fin pages free r) where
  pub stack_laid : (stack : List Scan) → Layout n N R own fin pages free (with_stack r stack)
  stack_laid stack = rows_laid L R (le_refl R) r.table stack L.rows (λ i x b lo hi. refl)

  -- a region's status, or the scan stack, is no part of the layout
  pub status_laid : (j c : ℕ) (stack : List Scan) → Layout n N R own fin pages free (with_stack (with_table r (set_status r.table j c)) stack)
  status_laid j c stack =
      rows_laid L R (le_refl R) (set_status r.table j c) stack (rw length-set L.rows)
      (λ i x b lo hi. get_or-set_other r.table (4 * j + 3) x c 0 (omega arith))

  pub wake_laid : (j b : ℕ) → Layout n N R own fin pages free (wake n j b r)
  wake_laid j b = wake_by n j b r (Layout n N R own fin pages free) (λ e. status_laid j 1 (record { region = j; address = b } ∷ r.stack)) (λ ne. L)

  -- a word of an old page is no part of the layout
  module _ (f a v : ℕ) (o : own f ≡ old) (lo : f * 2 ^ n ≤ a) (hi : a < f * 2 ^ n + 2 ^ n) where
    keep : (k x : ℕ) → own k ≢ old → k * 2 ^ n ≤ x → x < k * 2 ^ n + 2 ^ n → at (set r.heap a v) x ≡ at r.heap x
    keep k x ne p q = set_elsewhere (2 ^ n) r.heap f a v k x lo hi (λ t. ne (ap own t ∙ o)) p q

    like : (k : ℕ) → own k ≢ old → Like n r.heap (set r.heap a v) k
    like k ne = like_kept n r.heap (set r.heap a v) k (λ x. keep k x ne)

    pub forward_laid : Layout n N R own fin pages free (with_heap r (set r.heap a v))
    forward_laid =
        heap_laid L (set r.heap a v) (length-set r.heap a v) (λ k ne. link_kept n r.heap (set r.heap a v) k (λ x. keep k x ne) L.big) (λ k o. like k (λ q. old≢spare q o))
        (λ i k o. let b = L.big in body_like (omega arith) (like k (λ q. old≢mine q o)) (L.mine_body i k o))
