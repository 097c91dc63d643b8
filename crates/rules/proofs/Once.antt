-- Rule 3 as one walk over the pages: region by region its chain opens at a page, bears its origin and ends, so does the free list, and the
-- lengths add up to N. That is rule 3 with the tests of each region together, and with the count where each page is in one chain.
use Prim.Native.Nat.{ℕ, ◌+◌}
use mathlib.Core.Path.{◌≡◌, sym, ap, ◌∙◌}
use mathlib.Core.Bool.{Bool, true, ◌&&◌}
use mathlib.Core.List.{List}
use lib.ListN.{length, length-append}
use lib.Dec.{eqb}
use Rattle.laws.specs.Lists.{all, all_below}
use Rattle.laws.proofs.Tests.{both, eight_hold}
use Rattle.laws.proofs.Facts.{and_of, same_test, below_and}
use Rattle.rules.specs.Memory.{Store, page_count, region_origin, origin, first_link, region_pages, free_pages, pages_from}
use Rattle.rules.specs.Audit.{opens, ends_well, last_link, rule3}
use Rattle.rules.proofs.Whole.{exactly_once}

-- the tests of rule 3, those of the regions together: a: the chains open; c, d: they and the free list end; e, f: their pages bear their origins;
-- g, h: free last and count; and b, each page once, which is b', the sum, where the others hold that it needs
regroup : (a b c d e f g h b' : Bool) → (c ≡ true → d ≡ true → e ≡ true → f ≡ true → b ≡ b')
    → (a && b && c && d && e && f && g && h) ≡ (a && (e && c) && (f && d && (g && (h && b'))))
regroup a b c d e f g h b' same = same_test _ _ there back
  where
    there : (a && b && c && d && e && f && g && h) ≡ true → (a && (e && c) && (f && d && (g && (h && b')))) ≡ true
    there t =
        let (pa, pb, pc, pd, pe, pf, pg, ph) = eight_hold {a = a} {b = b} {c = c} {d = d} {e = e} {f = f} {g = g} t in
        and_of (and_of pa (and_of pe pc)) (and_of (and_of pf pd) (and_of pg (and_of ph (sym (same pc pd pe pf) ∙ pb))))

    back : (a && (e && c) && (f && d && (g && (h && b')))) ≡ true → (a && b && c && d && e && f && g && h) ≡ true
    back t =
        let (t₁, t₂) = both {a = a && (e && c)} t in
        let (pa, t₃) = both {a = a} t₁ in
        let (pe, pc) = both {a = e} t₃ in
        let (t₄, t₅) = both {a = f && d} t₂ in
        let (pf, pd) = both {a = f} t₄ in
        let (pg, t₆) = both {a = g} t₅ in
        let (ph, pb) = both {a = h} t₆ in
        and_of (and_of (and_of (and_of (and_of (and_of (and_of pa (same pc pd pe pf ∙ pb)) pc) pd) pe) pf) pg) ph

-- three tests below a bound, each and together
three_below : (a b c : ℕ → Bool) (m : ℕ) → (all_below a m && (all_below b m && all_below c m)) ≡ all_below (λ j. a j && (b j && c j)) m
three_below a b c m = ap (λ x. all_below a m && x) (sym (below_and b c m)) ∙ sym (below_and a (λ j. b j && c j) m)

module _ (s : Store) where
  abbrev n : ℕ
  n = s.ctl.n

  abbrev free : List ℕ
  free = free_pages n s.heap s.ctl.first

  -- the pages of a chain bear an origin
  abbrev bear : ℕ → List ℕ → Bool
  bear o = all (λ k. eqb (origin n s.heap k) o)

  pub rule3_walked : rule3 s
      ≡ (all_below (λ j. opens n s.heap s.table j && (bear (region_origin j) (region_pages n s.heap s.table j) && ends_well n s.heap (first_link n s.table j))) s.ctl.regions
      && (bear 0 free && ends_well n s.heap s.ctl.first
      && (eqb s.ctl.last (last_link free)
      && (eqb s.ctl.count (length free)
      && eqb (length (pages_from n s.heap s.table s.ctl.regions 0) + length free) (page_count n s.heap)))))
  unfolding rule3
  rule3_walked =
      regroup (all_below opened s.ctl.regions) _ (all_below ending s.ctl.regions) (ends_well n s.heap s.ctl.first) (all_below bearing s.ctl.regions) (bear 0 free) _ _ _
      (exactly_once n s.heap s.table s.ctl.regions s.ctl.first)
      ∙ rw (three_below opened bearing ending s.ctl.regions, length-append (pages_from n s.heap s.table s.ctl.regions 0) free)
    where
      opened : ℕ → Bool
      opened = opens n s.heap s.table

      bearing : ℕ → Bool
      bearing j = bear (region_origin j) (region_pages n s.heap s.table j)

      ending : ℕ → Bool
      ending j = ends_well n s.heap (first_link n s.table j)
