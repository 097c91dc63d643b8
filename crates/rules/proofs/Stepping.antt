-- The turn laws of stepping: what one turn of a loop by addresses is to the list of values. At an address where a value fits, the list is that
-- value and the values after it; at the end, or where none fits, it is empty. Each is one step of `vals`.
use Prim.Native.Nat.{ℕ, zero, suc, ◌+◌, ◌-◌, ◌/◌, ◌≤◌, ◌<◌}
use mathlib.Core.Path.{◌≡◌, refl, sym, ap, ◌∙◌}
use mathlib.Core.Bool.{Bool, true, false, ◌&&◌}
use mathlib.Core.List.{List, [], ◌∷◌}
use native.Mathlib.Omega.{arith}
use native.Mathlib.Nat.{add-zero}
use native.Mathlib.Numerals.{add-one}
use borrow.Author.Tests.{eq-eqb, ne_eqb}
use lib.ListN.{length, take, drop, get_or}
use lib.Seq.{slice, slice-cons, length-slice, drop-drop, take-take}
use Rattle.laws.specs.Lists.{all}
use Rattle.laws.proofs.Lists.{drop_take, slice_none}
use Rattle.laws.proofs.Tests.{all_turn}
use Rattle.rules.specs.Words.{is_record, fits, vals, vals_in, stands_at, fields_pass}
use Rattle.rules.proofs.Headers.{fit_of, fit_none}

pub vals_skip : (a k : ℕ) (ws : List ℕ) → vals a k ws ≡ vals (a + k) 0 (drop k ws)
unfolding vals
vals_skip a zero ws = rw add-zero
vals_skip a (suc k) [] = refl
vals_skip a (suc k) (w ∷ ws) = let q : suc a + k ≡ a + suc k = omega arith in vals_skip (suc a) k ws ∙ ap (λ x. vals x 0 (drop k ws)) q

-- ---- values, from address a up to address e

module _ (h : List ℕ) (a e : ℕ) where
  pub vals_none : e ≤ a → vals_in h a e ≡ []
  unfolding vals_in vals
  vals_none b = rw (slice_none a e h b)

  module _ (b : a < e) (c : e ≤ length h) where
    abbrev room : length (slice (suc a) e h) ≡ e - (a + 1)
    room = length-slice (suc a) e h c ∙ ap (λ x. e - x) (sym (add-one a))

    pub vals_stop : fits (get_or h a 0) (e - (a + 1)) ≡ false → vals_in h a e ≡ []
    unfolding vals_in vals
    vals_stop f = rw (slice-cons a e h 0 b c, room, vals, fit_none _ _ f)

    pub vals_step : fits (get_or h a 0) (e - (a + 1)) ≡ true
        → vals_in h a e ≡ record { at = a; is_rec = is_record (get_or h a 0); words = slice (a + 1) (a + 1 + get_or h a 0 / 8) h } ∷ vals_in h (a + 1 + get_or h a 0 / 8) e
    unfolding vals_in vals
    vals_step f =
        let l : ℕ = get_or h a 0 / 8 in
        let g = fit_of (get_or h a 0) (e - (a + 1)) f in
        rw (slice-cons a e h 0 b c, room, vals, g.0)
        (ap (λ ws. record { at = a; is_rec = is_record (get_or h a 0); words = ws } ∷ vals (suc a) l (slice (suc a) e h)) (step_words l (let g1 = g.1 in omega arith))
        ∙ ap (λ vs. record { at = a; is_rec = is_record (get_or h a 0); words = slice (a + 1) (a + 1 + l) h } ∷ vs) (step_rest l))
      where
        step_words : (l : ℕ) → a + 1 + l ≤ e → take l (slice (suc a) e h) ≡ slice (a + 1) (a + 1 + l) h
        step_words l d =
            sym (drop_take (suc a) l (take e h))
            ∙ ap (drop (suc a)) (take-take (suc a + l) e h (omega arith))
            ∙ ap (λ x. slice x (x + l) h) (sym (add-one a))

        step_rest : (l : ℕ) → vals (suc a) l (slice (suc a) e h) ≡ vals_in h (a + 1 + l) e
        step_rest l =
            vals_skip (suc a) l (slice (suc a) e h)
            ∙ ap (vals (suc a + l) 0) (drop-drop l (suc a) (take e h))
            ∙ ap (λ x. vals (x + l) 0 (drop (x + l) (take e h))) (sym (add-one a))

-- ---- stepping to an address

module _ (x : ℕ) (h : List ℕ) (a e : ℕ) where
  pub stands_over : vals_in h a e ≡ [] → stands_at x (vals_in h a e) ≡ false
  unfolding stands_at
  stands_over q = rw q

  pub stands_here : a < e → e ≤ length h → fits (get_or h a 0) (e - (a + 1)) ≡ true → x ≡ a → stands_at x (vals_in h a e) ≡ true
  unfolding stands_at
  stands_here b c f q = rw (vals_step h a e b c f, stands_at, eq-eqb x a q)

  pub stands_go : a < e → e ≤ length h → fits (get_or h a 0) (e - (a + 1)) ≡ true → (x ≡ a → ⊥) → stands_at x (vals_in h a e) ≡ stands_at x (vals_in h (a + 1 + get_or h a 0 / 8) e)
  unfolding stands_at
  stands_go b c f q = rw (vals_step h a e b c f, stands_at, ne_eqb x a q)

-- ---- the fields of the values

-- values, from address a up to address e
pub values_over : (p : ℕ → Bool) (h : List ℕ) (a e : ℕ) (r : Bool) → vals_in h a e ≡ [] → (all (fields_pass p) (vals_in h a e) && r) ≡ r
unfolding all
values_over p h a e r q = rw q

-- a value at address a, over code that has the next one's address as d
module _ (p : ℕ → Bool) (h : List ℕ) (a e : ℕ) (r : Bool) (b : a < e) (c : e ≤ length h) (t : fits (get_or h a 0) (e - (a + 1)) ≡ true) (d : ℕ) (q : d ≡ a + (1 + get_or h a 0 / 8)) where
  next : a + 1 + get_or h a 0 / 8 ≡ d
  next = omega arith

  pub raw_go : is_record (get_or h a 0) ≡ false → (all (fields_pass p) (vals_in h a e) && r) ≡ (all (fields_pass p) (vals_in h d e) && r)
  unfolding fields_pass
  raw_go u = rw (vals_step h a e b c t, all_turn (fields_pass p), u, next)

  -- and its first field's as f
  pub record_go : is_record (get_or h a 0) ≡ true → (f : ℕ) → f ≡ a + 1 → (all (fields_pass p) (vals_in h a e) && r) ≡ (all p (slice f d h) && (all (fields_pass p) (vals_in h d e) && r))
  unfolding fields_pass
  record_go u f s = rw (vals_step h a e b c t, all_turn (fields_pass p), u, next, s)
