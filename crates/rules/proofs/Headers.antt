-- What a header says, from its remainder by 8. By cases on the remainder: only 1 and 3 say a length.
use Prim.Native.Nat.{ℕ, zero, suc, ◌/◌, ◌%◌, ◌≤◌}
use mathlib.Core.Path.{◌≡◌, refl, sym, ap, ◌∙◌}
use mathlib.Core.Logic.{◌⊎◌, inl, inr, ⊎_elim}
use mathlib.Core.Bool.{Bool, true, false, false≢true, true≢false}
use mathlib.Core.Option.{Option, none, some, none-ne-some}
use native.Mathlib.Omega.{arith}
use borrow.Author.Tests.{leb-true, le-leb, ne_eqb}
use lib.Dec.{leb, eqb}
use Rattle.rules.specs.Words.{head_by, head_of, length_by, record_by, words_by, is_record, fit, fits}
use Rattle.rules.proofs.Pointers.{words_of}

pub fit_some : (w m l : ℕ) → fit w m ≡ some l → (length_by (head_of w) ≡ some l) × (l ≤ m)
unfolding fit
fit_some w m l e = go (length_by (head_of w)) refl
  where
    test : (k : ℕ) → length_by (head_of w) ≡ some k → (b : Bool) → leb k m ≡ b → (length_by (head_of w) ≡ some l) × (l ≤ m)
    test k p true q =
        let e' : some k ≡ some l = sym (rw (p, fit, q)) ∙ e in
        let r : k ≡ l = cc in
        (cc, (let c = leb-true k m q in omega arith))
    test k p false q = absurd (none-ne-some l (sym (rw (p, fit, q)) ∙ e))

    go : (o : Option ℕ) → length_by (head_of w) ≡ o → (length_by (head_of w) ≡ some l) × (l ≤ m)
    go none p = absurd (none-ne-some l (sym (rw (p, fit)) ∙ e))
    go (some k) p = test k p (leb k m) refl

pub fit_is : (w m l : ℕ) → length_by (head_of w) ≡ some l → l ≤ m → fit w m ≡ some l
unfolding fit
fit_is w m l e b = rw (e, fit, le-leb l m b)

-- a remainder that says a length is 1 or 3
header_by : (r q l : ℕ) → length_by (head_by r q) ≡ some l → ((r ≡ 1) ⊎ (r ≡ 3)) × (q ≡ l)
header_by zero q l e = absurd (false≢true cc)
header_by (suc zero) q l e = (inl refl, cc)
header_by (suc (suc zero)) q l e = absurd (false≢true cc)
header_by (suc (suc (suc zero))) q l e = (inr refl, cc)
header_by (suc (suc (suc (suc zero)))) q l e = absurd (false≢true cc)
header_by (suc (suc (suc (suc (suc r))))) q l e = absurd (false≢true cc)

no_head : (r q : ℕ) → (r ≡ 1 → ⊥) → (r ≡ 3 → ⊥) → length_by (head_by r q) ≡ none
no_head r q a b = go (length_by (head_by r q)) refl
  where
    go : (o : Option ℕ) → length_by (head_by r q) ≡ o → length_by (head_by r q) ≡ none
    go none e = e
    go (some l) e = absurd (⊎_elim a b (header_by r q l e).0)

-- a header is odd, and has its length from 8 up
pub header_odd : (w l : ℕ) → length_by (head_of w) ≡ some l → (w % 2 ≡ 1) × (w / 8 ≡ l)
unfolding head_of
header_odd w l e = let (r, q) = header_by (w % 8) (w / 8) l e in (⊎_elim (λ z. omega arith) (λ z. omega arith) r, q)

fits_by : (h m l : ℕ) → length_by (head_of h) ≡ some l → fits h m ≡ leb l m
unfolding fits fit
fits_by h m l e = go (leb l m) refl
  where
    go : (b : Bool) → leb l m ≡ b → fits h m ≡ leb l m
    go true q = rw (e, fits, fit, q)
    go false q = rw (e, fits, fit, q)

pub fits_rec : (h m : ℕ) → h % 8 ≡ 1 → fits h m ≡ leb (h / 8) m
unfolding head_of
fits_rec h m e = fits_by h m (h / 8) (rw (e, head_of))

pub fits_raw : (h m : ℕ) → h % 8 ≡ 3 → fits h m ≡ leb (h / 8) m
unfolding head_of
fits_raw h m e = fits_by h m (h / 8) (rw (e, head_of))

pub fits_not : (h m : ℕ) → (h % 8 ≡ 1 → ⊥) → (h % 8 ≡ 3 → ⊥) → fits h m ≡ false
unfolding fits fit head_of
fits_not h m a b = rw (no_head (h % 8) (h / 8) a b, fits, fit)

by_record : (r q : ℕ) → record_by (head_by r q) ≡ eqb r 1
by_record zero q = refl
by_record (suc zero) q = refl
by_record (suc (suc zero)) q = refl
by_record (suc (suc (suc zero))) q = refl
by_record (suc (suc (suc (suc zero)))) q = refl
by_record (suc (suc (suc (suc (suc r))))) q = sym (ne_eqb (suc (suc (suc (suc (suc r))))) 1 (λ (e : suc (suc (suc (suc (suc r)))) ≡ 1). omega arith))

pub record_by_lem : (h : ℕ) → is_record h ≡ eqb (h % 8) 1
unfolding is_record head_of
record_by_lem h = by_record (h % 8) (h / 8)

pub fit_of : (h m : ℕ) → fits h m ≡ true → (fit h m ≡ some (h / 8)) × (h / 8 ≤ m)
unfolding fits head_of
fit_of h m t = go (fit h m) refl
  where
    go : (o : Option ℕ) → fit h m ≡ o → (fit h m ≡ some (h / 8)) × (h / 8 ≤ m)
    go none e = absurd (false≢true (sym (rw (e, fits)) ∙ t))
    go (some l) e =
        let f = fit_some h m l e in
        let q : l ≡ h / 8 = sym (header_odd h l f.0).1 in
        (e ∙ ap some q, rw (← q) f.1)

pub fit_none : (h m : ℕ) → fits h m ≡ false → fit h m ≡ none
unfolding fits
fit_none h m t = go (fit h m) refl
  where
    go : (o : Option ℕ) → fit h m ≡ o → fit h m ≡ none
    go none e = e
    go (some l) e = absurd (true≢false (sym (rw (e, fits)) ∙ t))

-- a header that fits says its value's length
fits_length : (h m : ℕ) → fits h m ≡ true → (length_by (head_of h) ≡ some (h / 8)) × (h / 8 ≤ m)
fits_length h m t = fit_some h m (h / 8) (fit_of h m t).0

-- what fits, fits into more words
pub fits_more : (h m k : ℕ) → fits h m ≡ true → m ≤ k → fits h k ≡ true
unfolding fits
fits_more h m k t b = let (e, q) = fits_length h m t in rw (fit_is h k (h / 8) e (omega arith), fits)

-- and how many words it takes
pub fits_words : (h m : ℕ) → fits h m ≡ true → words_by (head_of h) ≡ suc (h / 8)
fits_words h m t = words_of (head_of h) (h / 8) (fits_length h m t).0
