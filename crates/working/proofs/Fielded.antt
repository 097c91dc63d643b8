-- A word inside a value is no part of the layout: stepping reads headers only, and no header stands inside a value.
use Prim.Native.Nat.{ℕ, suc, ◌+◌, ◌*◌, ◌^◌, ◌≤◌, ◌<◌}
use native.Mathlib.Nat.{le_refl}
use native.Mathlib.Omega.{arith}
use native.Mathlib.Decide.{ℕ_discrete}
use mathlib.Core.Path.{◌≡◌, sym, ap, ◌∙◌}
use mathlib.Core.Logic.{◌≢◌}
use mathlib.Core.List.{List}
use lib.ListN.{set, length-set}
use lib.Seq.{get_or-set_other}
use Rattle.laws.specs.Lists.{at}
use Rattle.rules.specs.Memory.{link}
use Rattle.rules.specs.Pages.{Run, with_heap}
use Rattle.rules.proofs.Steps.{OnPage, steps_le}
use Rattle.facts.proofs.Inside.{other_page, no_descriptor, steps_still}
use Rattle.facts.proofs.Laid.{mine_inj, spare≢mine, Owner, mine, Body, Like, body_like, Layout, heap_laid}

module _ {n N R : ℕ} {own : ℕ → Owner} {fin : ℕ → ℕ} {pages : ℕ → List ℕ} {free : List ℕ} {r : Run} (L : Layout n N R own fin pages free r)
    {k j d l : ℕ} (own_k : own k ≡ mine j) (v : OnPage n r.heap k d l) (below : d + suc l ≤ fin k) (i : ℕ) (i_in : i < l) (w : ℕ) where
  abbrev h' : List ℕ
  h' = set r.heap (d + suc i) w

  keep : (y : ℕ) → y ≢ d + suc i → at r.heap y ≡ at h' y
  keep y ne = sym (get_or-set_other r.heap (d + suc i) y w 0 ne)

  body : Body n r.heap k j (fin k)
  body = L.mine_body j k own_k

  links : (m : ℕ) → link n r.heap m ≡ link n h' m
  unfolding link
  links m = let b = L.big in keep (m * 2 ^ n) (no_descriptor v i i_in m (m * 2 ^ n) (omega arith) (le_refl _) (omega arith))

  like : (m : ℕ) → m ≢ k → Like n r.heap h' m
  like m ne = record { word = λ y p q. keep y (other_page v i i_in m y ne (omega arith) q) }

  body' : Body n h' k j (fin k)
  body' =
      let a = steps_le v.steps in
      record {
        whose = sym (keep (k * 2 ^ n + 1) (omega arith)) ∙ body.whose;
        filled = steps_still v i i_in h' keep k (fin k) body.filled body.inside;
        inside = body.inside;
        rest = λ y p q. sym (keep y (omega arith)) ∙ body.rest y p q;
      }

  bodies : (m t : ℕ) → own t ≡ mine m → Body n h' t m (fin t)
  bodies m t o = go (ℕ_discrete t k)
    where
      go : Dec (t ≡ k) → Body n h' t m (fin t)
      go (yes e) = let q : m ≡ j = mine_inj (sym o ∙ ap own e ∙ own_k) in rw (e, q) body'
      go (no ne) = let b = L.big in body_like (omega arith) (like t ne) (L.mine_body m t o)

  pub field_laid : Layout n N R own fin pages free (with_heap r (set r.heap (d + suc i) w))
  field_laid =
      heap_laid L h' (length-set r.heap (d + suc i) w) (λ m ne. links m)
      (λ m o. like m (λ e. spare≢mine o (ap own e ∙ own_k))) bodies
