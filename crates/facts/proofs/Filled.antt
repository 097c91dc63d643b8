-- Values back to back and then zeros, as a test and as facts; and the fields of the records among them. Both ways by stepping: the list of
-- values ends where stepping ends, since a 0 is no header.
use Prim.Native.Nat.{ℕ, suc, ◌+◌, ◌-◌, ◌≤◌, ◌<◌}
use native.Mathlib.Omega.{arith}
use mathlib.Core.Path.{◌≡◌, refl, sym, ap, ◌∙◌}
use mathlib.Core.Bool.{Bool, true, false}
use mathlib.Core.List.{List}
use lib.ListN.{length}
use Rattle.laws.specs.Lists.{at, all}
use Rattle.laws.proofs.Facts.{all_at, at_all, zeros_behind, behind_zeros}
use Rattle.laws.proofs.Tests.{all_cons, cons_all}
use Rattle.rules.specs.Words.{is_record, Val, vals, used_of, fields_pass}
use Rattle.rules.specs.Audit.{filled}
use Rattle.rules.proofs.Steps.{Stands, Steps, here, over, same_length, Holds, IsValue, Listed, listed_none, listed_more, vals_listed, listed_used}

-- the test says: the list of values, then zeros
module _ (h : List ℕ) (hi a : ℕ) (ws : List ℕ) (agree : Holds h a ws) (e : a + length ws ≡ hi) where
  pub filled_rest : filled a ws ≡ true → (x : ℕ) → a + used_of (vals a 0 ws) ≤ x → x < hi → at h x ≡ 0
  unfolding filled
  filled_rest t x p q =
      let i : x ≡ a + (x - a) = omega arith in
      ap (at h) i ∙ agree.word (x - a) (omega arith) ∙ zeros_behind (used_of (vals a 0 ws)) ws t (x - a) (omega arith) (omega arith)

  pub filled_of : (f : ℕ) → Steps h hi a f → ((x : ℕ) → f ≤ x → x < hi → at h x ≡ 0) → filled a ws ≡ true
  unfolding filled
  filled_of f s z =
      let q = listed_used h hi s (vals_listed h hi a ws agree e) z in
      behind_zeros (used_of (vals a 0 ws)) ws (λ i p b. sym (agree.word i b) ∙ z (a + i) (omega arith) (omega arith))

-- ---- the fields of the records

module _ (g : ℕ → Bool) (h : List ℕ) (hi : ℕ) where
  -- of one value
  module _ {a l : ℕ} {v : Val} (x : IsValue h hi a l v) where
    field_is : (i : ℕ) → i < l → at h (a + suc i) ≡ at v.words i
    field_is i b = let s = x.size in ap (at h) (omega arith) ∙ x.holds.word i (omega arith)

    value_in : is_record (at h a) ≡ true → fields_pass g v ≡ true → (i : ℕ) → i < l → g (at h (a + suc i)) ≡ true
    unfolding fields_pass
    value_in k t i b =
        let s = x.size in
        let r : v.is_rec ≡ true = x.kind ∙ k in
        ap g (field_is i b) ∙ all_at g v.words (rw (fields_pass, r) at t) i (omega arith)

    value_of : (is_record (at h a) ≡ true → (i : ℕ) → i < l → g (at h (a + suc i)) ≡ true) → fields_pass g v ≡ true
    unfolding fields_pass
    value_of f = go v.is_rec refl
      where
        go : (b : Bool) → v.is_rec ≡ b → fields_pass g v ≡ true
        go true r = rw (fields_pass, r) (at_all g v.words (λ i b. let s = x.size in ap g (sym (field_is i (omega arith))) ∙ f (sym x.kind ∙ r) i (omega arith)))
        go false r = rw (fields_pass, r)

  pub fields_in : {a b l : ℕ} {vs : List Val} → Steps h hi a b → Listed h hi a vs → Stands h hi b l → is_record (at h b) ≡ true → all (fields_pass g) vs ≡ true
      → (i : ℕ) → i < l → g (at h (b + suc i)) ≡ true
  fields_in here (listed_none f) st k t i q = absurd (f _ st)
  fields_in here (listed_more x r) st k t i q = let m = same_length x.stands st in value_in x k (all_cons (fields_pass g) _ _ t).0 i (omega arith)
  fields_in (over st' s) (listed_none f) st k t i q = absurd (f _ st')
  fields_in (over st' s) (listed_more x r) st k t i q = fields_in s (rw (same_length x.stands st') at r) st k (all_cons (fields_pass g) _ _ t).1 i q

  pub fields_of_lem : {a : ℕ} {vs : List Val} → Listed h hi a vs
      → ((b l i : ℕ) → Steps h hi a b → Stands h hi b l → is_record (at h b) ≡ true → i < l → g (at h (b + suc i)) ≡ true)
      → all (fields_pass g) vs ≡ true
  unfolding all
  fields_of_lem (listed_none n) f = refl
  fields_of_lem (listed_more {a} {l} {v} {vs} x r) f =
      cons_all (fields_pass g) v vs (value_of x (λ k i b. f a l i here x.stands k b)) (fields_of_lem r (λ b m i s. f b m i (over x.stands s)))
