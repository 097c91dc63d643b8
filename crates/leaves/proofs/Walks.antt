-- A walk along a chain, a turn by what a step of it ensures: `along` passes the same page, or is over. And walks along the chains of all regions.
use Prim.Native.Nat.{ℕ, zero, suc, ◌+◌, ◌/◌, ◌^◌, ◌<◌}
use native.Mathlib.Omega.{arith}
use native.Mathlib.Nat.{add-zero, zero-add}
use native.Mathlib.Numerals.{add-one}
use mathlib.Core.Path.{◌≡◌, refl, sym, ap, ◌∙◌}
use mathlib.Core.Logic.{inl, inr}
use mathlib.Core.List.{List}
use lib.ListN.{length}
use Rattle.laws.specs.Each.{along, steps}
use Rattle.laws.proofs.Each.{along_more, along_far, along_none, along_end}
use Rattle.rules.specs.Refusals.{Paged}
use Rattle.leaves.specs.declared.size.Pages.{Pages}
use Rattle.leaves.specs.declared.chain.Chain.{Chain}
use Rattle.leaves.specs.Walks.{AllOf, Passed, Over, link_to}

-- the heap has kept its length, so a page that is passed is still one of its pages
pub page_kept : (p q : Pages) (h h' : List ℕ) (k : ℕ) → AllOf p h → q ≡ p → length h' ≡ length h → k < q.count → (Paged p.n (length h')) × (k < length h' / 2 ^ p.n)
page_kept p q h h' k a e l b = rw l (a.paged, rw (← a.count) (rw e at b))

-- `next` reads a page's link, and `g` is what is done with a page
module _ {S : Type 0} (next : ℕ → S → ℕ → ℕ) (g : ℕ → S → S) where
  -- what is left of the walk along c leaves what the walk over pages p from the link l on, of f pages at most, leaves of s₀
  pub record Walking (p : Pages) (f l : ℕ) (s₀ s : S) (c : Chain) : Type 0 where
    pub rest : along c.left p.count (next p.n) g (link_to c.page) s ≡ along f p.count (next p.n) g l s₀
    pub pages : c.pages ≡ p

  module _ (p : Pages) (f l : ℕ) (s₀ : S) where
    pub sets_out : (c : Chain) → (link_to c.page ≡ l) × (c.left ≡ f) × (c.pages ≡ p) → Walking p f l s₀ s₀ c
    sets_out c (e, q, r) = record { rest = rw (e, q); pages = r }

    pub goes_on : (s s' : S) (c c' : Chain) (k : ℕ) → Walking p f l s₀ s c → Passed c c' k (next c.pages.n s k) → s' ≡ g k s → Walking p f l s₀ s' c'
    goes_on s s' c c' k w t q =
        let b : k < p.count = rw w.pages at t.known in
        let e = rw w.pages at t.goes_on in
        record {
          rest = rw (t.left, e) (sym (along_more c.left p.count (next p.n) g (link_to c.page) (next p.n s k) k s s' t.may t.named b refl q) ∙ w.rest);
          pages = t.pages ∙ w.pages;
        }

    pub arrives : (s : S) (c : Chain) → Walking p f l s₀ s c → Over c → s ≡ along f p.count (next p.n) g l s₀
    arrives s c w (inl b) = sym (along_end c.left p.count (next p.n) g (link_to c.page) s b) ∙ w.rest
    arrives s c w (inr (inl e)) = sym (along_none c.left p.count (next p.n) g (link_to c.page) s e) ∙ w.rest
    arrives s c w (inr (inr b)) = sym (along_far c.left p.count (next p.n) g (link_to c.page) s (rw w.pages at b)) ∙ w.rest

-- ---- the regions below i are done

steps_last : {S : Type 0} (f : ℕ) (g : ℕ → S → S) (x : ℕ) (s : S) → steps (suc f) g x s ≡ g (x + f) (steps f g x s)
unfolding steps
steps_last zero g x s = rw add-zero
steps_last (suc f) g x s = let q : suc x + f ≡ x + suc f = omega arith in steps_last f g (suc x) (g x s) ∙ ap (λ y. g y (steps f g (suc x) (g x s))) q

pub region_done : {S : Type 0} (g : ℕ → S → S) (i : ℕ) (s₀ s s' : S) → s ≡ steps i g 0 s₀ → s' ≡ g i s → s' ≡ steps (i + 1) g 0 s₀
region_done g i s₀ s s' e w =
    w ∙ ap (g i) e ∙ ap (λ y. g y (steps i g 0 s₀)) (sym (zero-add i)) ∙ sym (steps_last i g 0 s₀) ∙ ap (λ f. steps f g 0 s₀) (sym (add-one i))

pub regions_done : {S : Type 0} (g : ℕ → S → S) (i r : ℕ) (s₀ s : S) → s ≡ steps i g 0 s₀ → i ≡ r → s ≡ steps r g 0 s₀
regions_done g i r s₀ s e q = rw q at e

-- what the proofs of the walks use
pub ruleset walked = (page_kept, sets_out, arrives, region_done, regions_done)
