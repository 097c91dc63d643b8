-- The turn laws of rules 4 and 9: at each region and at each page, what is left to test is what was left before.
use Prim.Native.Nat.{ℕ, ◌+◌, ◌-◌, ◌/◌, ◌^◌, ◌≤◌, ◌<◌}
use mathlib.Core.Path.{◌≡◌, ◌∙◌}
use mathlib.Core.Bool.{Bool, true, false, ◌&&◌, and-true, and_comm}
use mathlib.Core.List.{List}
use borrow.Author.Tests.{eq-eqb, ne_eqb}
use lib.Dec.{eqb}
use lib.ListN.{length, get_or}
use lib.Seq.{slice}
use Rattle.laws.specs.Lists.{all, all_from, all_below, zeros}
use Rattle.laws.proofs.Tests.{from_go, from_stop}
use Rattle.laws.proofs.Facts.{below_and}
use Rattle.rules.specs.declared.Control.{Control}
use Rattle.rules.specs.Memory.{lent, link, end_of, first_link, chain, region_pages, free_pages}
use Rattle.rules.specs.Audit.{if_last, ends_at, top_fits, clean, rule4, rule9}
use Rattle.rules.proofs.Chains.{page_from, Next}
use Rattle.rules.proofs.Nests.{pages_go, last_not, last_is}

-- ---- rule 4, region by region

unfoldable pub region_ends : ℕ → List ℕ → List ℕ → ℕ → Bool
region_ends n h t j = top_fits n t j && all (ends_at n h t j) (region_pages n h t j)

pub four_each : (h t r k : List ℕ) (c : Control) → all_from (region_ends c.n h t) c.regions 0 ≡ rule4 (lent h t r k c)
unfolding rule4 region_ends
four_each h t r k c =
    below_and (top_fits c.n t) (λ j. all (ends_at c.n h t j) (region_pages c.n h t j)) c.regions
    ∙ and_comm (all_below (top_fits c.n t) c.regions) _

module _ (n N : ℕ) (h t : List ℕ) (e : N ≡ length h / 2 ^ n) (m j : ℕ) (b : 0 < m) where
  pub four_shut : top_fits n t j ≡ false → all_from (region_ends n h t) m j ≡ false
  unfolding region_ends
  four_shut o = from_stop (region_ends n h t) m j b (rw o)

  pub four_open : (l : ℕ) → top_fits n t j ≡ true → l ≡ first_link n t j
      → all_from (region_ends n h t) m j ≡ (all (ends_at n h t j) (chain N n h l) && all_from (region_ends n h t) (m - 1) (j + 1))
  unfolding region_ends region_pages
  four_open l o g = from_go (region_ends n h t) m j b ∙ rw (o, e, g)

-- ---- the pages of a region

-- a page of region j, whose e is d; p is its size
module _ {n : ℕ} {h : List ℕ} {f k b : ℕ} (x : Next n h f k b) (t : List ℕ) (j d p : ℕ) (qd : d ≡ end_of t j) (qp : p ≡ 2 ^ n) (r : Bool) where
  abbrev pub Rest : Bool
  Rest = all (ends_at n h t j) (chain (f - 1) n h (get_or h b 0)) && r

  turn : (all (ends_at n h t j) (chain f n h k) && r) ≡ (if_last (get_or h b 0) (eqb d (b + p)) && Rest)
  unfolding ends_at link
  turn = pages_go (ends_at n h t j) r x ∙ rw (x.start, qd, qp)

  pub four_on : 0 < get_or h b 0 → (all (ends_at n h t j) (chain f n h k) && r) ≡ Rest
  four_on on = turn ∙ last_not (get_or h b 0) (eqb d (b + p)) Rest on

  pub four_at : get_or h b 0 ≤ 0 → d ≡ b + p → (all (ends_at n h t j) (chain f n h k) && r) ≡ Rest
  four_at last y = turn ∙ last_is (get_or h b 0) (eqb d (b + p)) Rest last ∙ rw (eq-eqb _ _ y)

  pub four_off : get_or h b 0 ≤ 0 → (d ≡ b + p → ⊥) → (all (ends_at n h t j) (chain f n h k) && r) ≡ false
  four_off last y = turn ∙ last_is (get_or h b 0) (eqb d (b + p)) Rest last ∙ rw (ne_eqb _ _ y)

-- ---- rule 9

pub nine_open : (h t r k : List ℕ) (c : Control) (N : ℕ) → N ≡ length h / 2 ^ c.n → (all (clean c.n h) (chain N c.n h c.first) && true) ≡ rule9 (lent h t r k c)
unfolding rule9 free_pages
nine_open h t r k c N e = rw e (and-true _)

-- a page whose words from s up to d, all but its link, are tested; p is its size
module _ {n : ℕ} {h : List ℕ} {f k b : ℕ} (x : Next n h f k b) (p : ℕ) (qp : p ≡ 2 ^ n) (r : Bool) (s d : ℕ) (qs : s ≡ b + 1) (qd : d ≡ b + p) where
  turn9 : (all (clean n h) (chain f n h k) && r) ≡ (zeros (slice s d h) && (all (clean n h) (chain (f - 1) n h (get_or h b 0)) && r))
  unfolding clean
  turn9 = pages_go (clean n h) r x ∙ rw (page_from 1 n h (k - 1), qs, qd, x.start, qp)

  pub nine_go : zeros (slice s d h) ≡ true → (all (clean n h) (chain f n h k) && r) ≡ (all (clean n h) (chain (f - 1) n h (get_or h b 0)) && r)
  nine_go t = turn9 ∙ rw t

  pub nine_stop : zeros (slice s d h) ≡ false → (all (clean n h) (chain f n h k) && r) ≡ false
  nine_stop t = turn9 ∙ rw t
