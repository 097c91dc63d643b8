-- The turn laws of the tests of roots and fields: at each page and value what is left to test is what was left before; and how the code decides
-- whether a word points into a region.
use Prim.Native.Nat.{ℕ, zero, suc, ◌+◌, ◌-◌, ◌*◌, ◌%◌, ◌^◌, ◌≤◌}
use mathlib.Core.Path.{◌≡◌, refl, sym, ap, ◌∙◌}
use mathlib.Core.Bool.{Bool, true, false, ◌&&◌, not}
use mathlib.Core.List.{List, [], ◌∷◌}
use native.Mathlib.Numerals.{sub-one}
use lib.Dec.{eqb, eqb-zero-suc, eqb-suc-suc}
use lib.ListN.{length, get_or}
use Rattle.std.specs.List.{list_all}
use Rattle.laws.specs.Lists.{all, all_from}
use Rattle.laws.proofs.Tests.{then_and}
use Rattle.rules.specs.Memory.{origin, origin_region, address_page, chain, region_pages}
use Rattle.rules.specs.Words.{pointer_address, vals_in, fields_pass}
use Rattle.rules.specs.Refusals.{Paged}
use Rattle.rules.specs.Audit.{page_pass, records_pass}
use Rattle.rules.specs.Calls.{points_into, let_go}
use Rattle.rules.proofs.Chains.{page_vals_lem, Next}
use Rattle.rules.proofs.Good.{origin_out}
use Rattle.rules.proofs.Nests.{pages_go}
use Rattle.rules.proofs.Pointers.{Is, heap_pointer, const_pointer, whole_number, word_is, heap_word}

-- ---- a test of each word of a part, as an iterator makes it

pub list_all_lem : (p : ℕ → Bool) (ws : List ℕ) → list_all p ws ≡ all p ws
unfolding all
list_all_lem p [] = refl
list_all_lem p (w ∷ ws) = ap (λ b. p w && b) (list_all_lem p ws) ∙ sym (then_and (p w) (all p ws))

-- ---- the fields of the records of the m regions from j on

abbrev pub Records : (ℕ → Bool) → ℕ → List ℕ → List ℕ → ℕ → ℕ → Bool
Records g n h t m j = all_from (λ i. all (page_pass g n h) (region_pages n h t i)) m j

-- at a page; p is its size, its values begin at s, and it ends at d
pub page_records : {n : ℕ} {h : List ℕ} {f k b : ℕ} → Next n h f k b → (g : ℕ → Bool) (p : ℕ) → p ≡ 2 ^ n → (r : Bool) (s d : ℕ) → s ≡ b + 2 → d ≡ b + p
    → (all (page_pass g n h) (chain f n h k) && r) ≡ (all (fields_pass g) (vals_in h s d) && (all (page_pass g n h) (chain (f - 1) n h (get_or h b 0)) && r))
page_records {n} {h} {k = k} x g p qp r s d qs qd = pages_go (page_pass g n h) r x ∙ rw (qs, qd, x.start, qp, ← page_vals_lem n h (k - 1))

-- ---- pointing into region j

pub into_not : (n : ℕ) (h : List ℕ) (j w : ℕ) → (w % 4 ≡ 0 → ⊥) → points_into n h j w ≡ false
unfolding points_into
into_not n h j w ne = go (word_is w)
  where
    go : Is w → points_into n h j w ≡ false
    go (heap_pointer m q) = absurd (ne m)
    go (const_pointer m q) = rw (q, points_into)
    go (whole_number m q) = rw (q, points_into)

module _ (n : ℕ) (h : List ℕ) (j w a : ℕ) (m : w % 4 ≡ 0) (qa : a ≡ pointer_address w) where
  into_is : points_into n h j w ≡ eqb (origin n h (address_page n a)) (suc j)
  unfolding points_into
  into_is = rw (heap_word w m, points_into, qa)

  pub into_out : Paged n (length h) → length h ≤ a → points_into n h j w ≡ false
  into_out g b = into_is ∙ rw (origin_out n h a g b) (eqb-zero-suc j)

  -- b is the address of its page
  module _ (k b : ℕ) (qk : k ≡ address_page n a) (qb : b ≡ k * 2 ^ n) where
    into_read : points_into n h j w ≡ eqb (get_or h (b + 1) 0) (suc j)
    unfolding origin
    into_read = into_is ∙ rw (qb, qk)

    pub into_none : get_or h (b + 1) 0 ≡ 0 → points_into n h j w ≡ false
    into_none z = into_read ∙ rw z (eqb-zero-suc j)

    pub into_at : (o : ℕ) → (get_or h (b + 1) 0 ≡ 0 → ⊥) → o ≡ origin_region (get_or h (b + 1) 0) → points_into n h j w ≡ eqb o j
    into_at o ne q = into_read ∙ go (get_or h (b + 1) 0) ne q
      where
        go : (x : ℕ) → (x ≡ 0 → ⊥) → o ≡ origin_region x → eqb x (suc j) ≡ eqb o j
        go zero ne q = absurd (ne refl)
        go (suc x) ne q = rw (q, sub-one (suc x)) (eqb-suc-suc x j)

-- ---- held, or let go

module _ (n : ℕ) (h t r : List ℕ) (j : ℕ) where
  pub go_off : all (λ w. not (points_into n h j w)) r ≡ false → let_go n h t r j ≡ false
  unfolding let_go
  go_off e = rw e

  pub go_at : all (λ w. not (points_into n h j w)) r ≡ true → let_go n h t r j ≡ records_pass (λ w. not (points_into n h j w)) n h t j
  unfolding let_go
  go_at e = rw e
