-- Values of a page under a change behind its end: what stood there stands there still, and what stands there now stood there before or lies
-- behind the old end. A 0 is no header, so no value reaches over the end.
use Prim.Native.Nat.{ℕ, suc, ◌+◌, ◌*◌, ◌^◌, ◌≤◌, ◌<◌}
use native.Mathlib.Omega.{arith}
use mathlib.Core.Path.{◌≡◌, sym, ◌∙◌}
use mathlib.Core.Logic.{◌⊎◌, inl, inr}
use mathlib.Core.List.{List, Memᴰ}
use lib.ListN.{length}
use Rattle.laws.specs.Lists.{at}
use Rattle.rules.specs.Memory.{Store}
use Rattle.rules.specs.Pages.{Run}
use Rattle.rules.proofs.Steps.{OnPage, no_zero, steps_same, on_same, apart}
use Rattle.facts.proofs.Laid.{Owner, mine, Body, Layout}
use Rattle.facts.proofs.Sound.{InHeap, Sound, good_page}

-- page k with its values up to f, and zeros behind them
module _ {n : ℕ} {g : List ℕ} {k j f : ℕ} (B : Body n g k j f) where
  pub below_end : {b l : ℕ} → OnPage n g k b l → b + suc l ≤ f
  below_end {b} {l} v = go (apart v.steps v.stands B.filled)
    where
      go : (f ≤ b) ⊎ (b + suc l ≤ f) → b + suc l ≤ f
      go (inl q) = let e = v.stands.ends in absurd (no_zero v.stands (B.rest b q (omega arith)))
      go (inr q) = q

  module _ (h : List ℕ) (agree : (x : ℕ) → k * 2 ^ n + 2 ≤ x → x < f → at g x ≡ at h x) where
    pub value_kept : {b l : ℕ} → OnPage n g k b l → OnPage n h k b l
    value_kept v = let e = below_end v in on_same (λ x p q. agree x p (omega arith)) v

    pub value_was : {b l : ℕ} → OnPage n h k b l → (f ≤ b) ⊎ (OnPage n g k b l × (b + suc l ≤ f))
    value_was {b} {l} v = go (apart v.steps v.stands (steps_same agree B.filled))
      where
        go : (f ≤ b) ⊎ (b + suc l ≤ f) → (f ≤ b) ⊎ (OnPage n g k b l × (b + suc l ≤ f))
        go (inl q) = inl q
        go (inr q) = inr (on_same (λ x p t. sym (agree x p (omega arith))) v, q)

-- so a value of a region's page ends by where the page's values end
module _ {n N R : ℕ} {own : ℕ → Owner} {fin : ℕ → ℕ} {pages : ℕ → List ℕ} {free : List ℕ} {r : Run} (L : Layout n N R own fin pages free r) where
  pub below_fin : {j k a l : ℕ} → own k ≡ mine j → OnPage n r.heap k a l → a + suc l ≤ fin k
  below_fin {j} {k} o = below_end (L.mine_body j k o)

  pub chain_below : {k a l : ℕ} (j : ℕ) → j < R → Memᴰ k (pages j) → OnPage n r.heap k a l → a + suc l ≤ fin k
  chain_below {k} j b m = below_fin (L.mine_own j k b m)

pub good_below : {s : Store} (S : Sound s) {a : ℕ} (p : InHeap s.ctl.n s.ctl.regions s.heap a) → a + suc p.len ≤ S.fin p.page
good_below S p = chain_below S.laid p.region p.known (good_page S p) p.value

-- a good pointer's value in another heap of the same length
abbrev pub good_in_lem : (n R R' : ℕ) (g h : List ℕ) (a : ℕ) (p : InHeap n R g a) → length h ≡ length g → p.region < R'
    → at g (p.page * 2 ^ n + 1) ≡ at h (p.page * 2 ^ n + 1) → OnPage n h p.page a p.len → InHeap n R' h a
good_in_lem n R R' g h a p len known e v =
    record {
      page = p.page;
      region = p.region;
      len = p.len;
      there = rw len p.there;
      known = known;
      whose = sym e ∙ p.whose;
      value = v;
    }
