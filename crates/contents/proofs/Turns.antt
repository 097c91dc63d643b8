-- The turn laws of rule 5, and of values and then zeros anywhere: at each region, page and value, what is left to test is what was left before.
use Prim.Native.Nat.{ℕ, suc, ◌+◌, ◌-◌, ◌*◌, ◌/◌, ◌^◌, ◌≤◌, ◌<◌}
use mathlib.Core.Path.{◌≡◌, sym, ap, ◌∙◌}
use mathlib.Core.Bool.{Bool, true, false, ◌&&◌, and_assoc}
use mathlib.Core.List.{List, []}
use native.Mathlib.Omega.{arith}
use native.Mathlib.Nat.{add-zero}
use borrow.Author.Tests.{eq-eqb, ne_eqb}
use lib.Dec.{eqb}
use lib.ListN.{length, drop, take, get_or}
use lib.Seq.{slice, length-slice, drop-drop}
use Rattle.laws.specs.Lists.{all, zeros}
use Rattle.rules.specs.Memory.{link, page_words, top_of, chain}
use Rattle.rules.specs.Words.{fits, vals_in, page_vals, used_of}
use Rattle.rules.specs.Audit.{if_last, filled, page_filled}
use Rattle.rules.proofs.Headers.{fit_of}
use Rattle.rules.proofs.Stepping.{vals_step}
use Rattle.rules.proofs.Chains.{page_part, Next}
use Rattle.rules.proofs.Nests.{pages_go, last_not, last_is}

-- ---- values, then zeros

-- the zeros after the values from address a up to address e
abbrev pub Zeros : List ℕ → ℕ → ℕ → Bool
Zeros h a e = zeros (drop (used_of (vals_in h a e)) (slice a e h))

-- what is left of a page's test when the values before address a are passed: x its link, t the region's a
abbrev pub Rest : List ℕ → ℕ → ℕ → ℕ → ℕ → Bool → Bool
Rest h a e x t r = Zeros h a e && (if_last x (eqb (a + used_of (vals_in h a e)) t) && r)

module _ (h : List ℕ) (a e : ℕ) where
  pub zeros_over : vals_in h a e ≡ [] → Zeros h a e ≡ zeros (slice a e h)
  unfolding used_of
  zeros_over q = rw q

  module _ (b : a < e) (c : e ≤ length h) (f : fits (get_or h a 0) (e - (a + 1)) ≡ true) where
    abbrev l : ℕ
    l = get_or h a 0 / 8

    used_turn : used_of (vals_in h a e) ≡ suc l + used_of (vals_in h (a + 1 + l) e)
    unfolding used_of
    used_turn =
        let g = (fit_of (get_or h a 0) (e - (a + 1)) f).1 in
        let n : length (slice (a + 1) (a + 1 + l) h) ≡ l = length-slice (a + 1) (a + 1 + l) h (omega arith) ∙ (omega arith) in
        rw (vals_step h a e b c f, n)

    step : Zeros h a e ≡ Zeros h (a + 1 + l) e
    step =
        let u : ℕ = used_of (vals_in h (a + 1 + l) e) in
        let s : a + suc l ≡ a + 1 + l = omega arith in
        ap (λ x. zeros (drop x (slice a e h))) used_turn
        ∙ ap zeros (sym (drop-drop u (suc l) (slice a e h)) ∙ ap (drop u) (drop-drop (suc l) a (take e h) ∙ ap (λ z. drop z (take e h)) s))

    -- over code that has the next value's address as d
    pub zeros_step : (d : ℕ) → d ≡ a + (1 + l) → Zeros h a e ≡ Zeros h d e
    zeros_step d q = let s : a + 1 + l ≡ d = omega arith in rw s at step

    pub end_step : a + used_of (vals_in h a e) ≡ a + 1 + l + used_of (vals_in h (a + 1 + l) e)
    end_step = let q = used_turn in omega arith

module _ (h : List ℕ) (a e x t : ℕ) (r : Bool) where
  pub rest_over : vals_in h a e ≡ [] → Rest h a e x t r ≡ (zeros (slice a e h) && (if_last x (eqb a t) && r))
  unfolding used_of
  rest_over q = rw (q, add-zero)

  -- over code that has m for the words behind the header, and the next value's address as d
  pub rest_go : a < e → e ≤ length h → (m : ℕ) → fits (get_or h a 0) m ≡ true → m ≡ e - (a + 1) → (d : ℕ) → d ≡ a + (1 + get_or h a 0 / 8) → Rest h a e x t r ≡ Rest h d e x t r
  rest_go b c m f q d p =
      let g : fits (get_or h a 0) (e - (a + 1)) ≡ true = rw q at f in
      let s : d ≡ a + 1 + get_or h a 0 / 8 = omega arith in
      rw (zeros_step h a e b c g d p, end_step h a e b c g, ← s)

-- the values are passed and end at address a; what is left of the page, and of the rest r, is the whole w
pub record Passed (h : List ℕ) (a e x t : ℕ) (r w : Bool) : Type 0 where
  pub left : (zeros (slice a e h) && (if_last x (eqb a t) && r)) ≡ w

-- the zeros, and the end of the last page
module _ {h : List ℕ} {a e x t : ℕ} {r w : Bool} (p : Passed h a e x t r w) where
  pub zeros_off : zeros (slice a e h) ≡ false → false ≡ w
  zeros_off z = rw z at p.left

  zeros_on : zeros (slice a e h) ≡ true → (if_last x (eqb a t) && r) ≡ w
  zeros_on z = rw z at p.left

  pub page_on : zeros (slice a e h) ≡ true → 0 < x → r ≡ w
  page_on z b = sym (last_not x (eqb a t) r b) ∙ zeros_on z

  pub page_at : zeros (slice a e h) ≡ true → x ≤ 0 → a ≡ t → r ≡ w
  page_at z b q = sym (last_is x (eqb a t) r b ∙ rw (eq-eqb a t q)) ∙ zeros_on z

  pub page_off : zeros (slice a e h) ≡ true → x ≤ 0 → (a ≡ t → ⊥) → false ≡ w
  page_off z b q = sym (last_is x (eqb a t) r b ∙ rw (ne_eqb a t q)) ∙ zeros_on z

-- a page of region j, whose a is d; p is its size, its values begin at s, and it ends at g
pub five_page : {n : ℕ} {h : List ℕ} {f k b : ℕ} → Next n h f k b → (t : List ℕ) (j d p : ℕ) → d ≡ top_of t j → p ≡ 2 ^ n → (r : Bool) (s g : ℕ) → s ≡ b + 2 → g ≡ b + p
    → (all (page_filled n h t j) (chain f n h k) && r) ≡ Rest h s g (get_or h b 0) d (all (page_filled n h t j) (chain (f - 1) n h (get_or h b 0)) && r)
unfolding page_filled filled link page_vals vals_in
five_page {n} {h} {k = k} x t j d p qd qp r s g qs qg =
    pages_go (page_filled n h t j) r x
    ∙ and_assoc (filled ((k - 1) * 2 ^ n + 2) (drop 2 (page_words n h (k - 1)))) _ _
    ∙ rw (qs, qg, x.start, qd, qp, page_part n h (k - 1))
