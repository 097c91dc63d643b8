-- Rule 3 from what the two walks answer: its walked form tests the regions first, then the free list, and the sums last.
use Prim.Native.Nat.{ℕ, ◌+◌, ◌/◌, ◌^◌, ◌≤◌}
use mathlib.Core.Path.{◌≡◌, sym, ap, ◌∙◌}
use mathlib.Core.Bool.{Bool, true, false, ◌&&◌, false≢true}
use mathlib.Core.List.{List}
use native.Mathlib.Omega.{arith}
use Rattle.std.specs.Prelude.{Option, Some, None}
use lib.Dec.{eqb}
use lib.ListN.{length}
use Rattle.laws.specs.Lists.{all_below}
use Rattle.laws.proofs.Choices.{first_chosen, second_chosen}
use Rattle.rules.specs.declared.Control.{Control}
use Rattle.rules.specs.Memory.{lent, free_pages, pages_from}
use Rattle.rules.specs.Audit.{ends_well, last_link, rule3}
use Rattle.rules.specs.Refusals.{Paged}
use Rattle.rules.proofs.Once.{rule3_walked}
use Rattle.chains.proofs.Turns.{pages_short, free_short}
use Rattle.chains.specs.Walked.{bear, region_chained, regions_chained, free_listed}

module _ (h t r k : List ℕ) (c : Control) where
  abbrev n : ℕ
  n = c.n

  abbrev regions : Bool
  regions = all_below (region_chained n h t) c.regions

  abbrev free : List ℕ
  free = free_pages n h c.first

  abbrev listed : Bool
  listed = bear n h 0 free && ends_well n h c.first

  walked : rule3 (lent h t r k c)
      ≡ (regions && (listed && (eqb c.last (last_link free) && (eqb c.count (length free) && eqb (length (pages_from n h t c.regions 0) + length free) (length h / 2 ^ n)))))
  unfolding region_chained
  walked = rule3_walked (lent h t r k c)

  -- the regions are broken
  pub three_chained : (a : Option ℕ) → a ≡ regions_chained n h t c.regions → a ≡ None → rule3 (lent h t r k c) ≡ false
  unfolding regions_chained
  three_chained a e q = walked ∙ rw (second_chosen regions (sym q ∙ e) (λ z. false≢true cc)).0

  module _ (a : Option ℕ) (x : ℕ) (e : a ≡ regions_chained n h t c.regions) (q : a ≡ Some x) (b : Option (ℕ × ℕ)) (f : b ≡ free_listed n h c.first) where
    fine : (regions ≡ true) × (x ≡ length (pages_from n h t c.regions 0))
    unfolding regions_chained
    fine = let (t, same) = first_chosen regions (sym q ∙ e) (λ z. false≢true cc) in (t, cc)

    -- the free list is broken
    pub three_listed : b ≡ None → rule3 (lent h t r k c) ≡ false
    unfolding free_listed
    three_listed p = walked ∙ rw (fine.0, (second_chosen listed (sym p ∙ f) (λ z. false≢true cc)).0)

    -- neither is: the sums decide
    module _ (y l : ℕ) (p : b ≡ Some (y, l)) where
      told : (listed ≡ true) × (y ≡ length free) × (l ≡ last_link free)
      unfolding free_listed
      told =
          let (t, same) = first_chosen listed (sym p ∙ f) (λ z. false≢true cc) in
          let q : ◌≡◌ {A = ℕ × ℕ} (y, l) (length free, last_link free) = cc in
          (t, ap (λ w. w.0) q, ap (λ w. w.1) q)

      pub three_sums : rule3 (lent h t r k c) ≡ (eqb c.last l && (eqb c.count y && eqb (x + y) (length h / 2 ^ n)))
      three_sums = walked ∙ rw (fine.0, told.0, ← fine.1, ← told.1, ← told.2)

      -- they are small
      pub sums_fit : Paged n (length h) → c.regions ≤ 64 → x + y ≤ 4259840
      sums_fit g m =
          let held = fine.1 in
          let left = told.1 in
          let a = pages_short n h t c.regions 0 g in
          let b = free_short n h c.first g in
          omega arith

-- what turns rule 3 into what the walks answered
pub ruleset three = (three_chained, three_listed, three_sums, sums_fit)
