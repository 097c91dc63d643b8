-- Two views that mean the same: every path reads the same, and meets the same. Step by step both walks make the same tests, because the
-- values that they are at have one header, one length, and fields that mean the same.
use Prim.Native.Nat.{ℕ, suc, ◌-◌, ◌<◌, zero-le, suc-le-suc}
use native.Mathlib.Omega.{arith}
use mathlib.Core.Path.{◌≡◌, refl, sym, ap, ◌∙◌}
use mathlib.Core.Logic.{◌↔◌}
use mathlib.Core.Bool.{Bool, true, false, false≢true}
use mathlib.Core.List.{List, [], ◌∷◌}
use lib.ListN.{length, drop}
use lib.Dec.{leb}
use borrow.Author.Tests.{leb-false}
use Rattle.laws.specs.Lists.{at}
use Rattle.rules.specs.declared.Refusal.{Refusal}
use Rattle.rules.specs.Words.{word_of, is_record}
use Rattle.rules.specs.Calls.{header_in, fields_in, is_there, is_number, Walked, ends, stops, step_into, walk_from}
use Rattle.rules.specs.Seen.{View, whole, of_record, masked, read_value, read_by, path, reading, Reached, root, field}

-- two values alike: header and length are one; a record's fields are related, a raw value's words are the same
pub record Alike (R : ℕ → ℕ → Type 0) (x y : List ℕ) : Type 0 where
  pub header : header_in x ≡ header_in y
  pub size : length x ≡ length y
  pub fields : is_record (header_in x) ≡ true → (f : ℕ) → f < fields_in x → R (at x (suc f)) (at y (suc f))
  pub text : is_record (header_in x) ≡ false → x ≡ y

-- R relates the words of two views that mean the same
pub record Same (X Y : View) (R : ℕ → ℕ → Type 0) : Type 0 where
  pub numbers : (v w : ℕ) → R v w → is_number (word_of v) ≡ is_number (word_of w)
  pub value_of : (v w : ℕ) → R v w → is_number (word_of v) ≡ true → v ≡ w
  pub values : (v w : ℕ) → R v w → Alike R (X.value v) (Y.value w)
  pub homes : (v w : ℕ) → R v w → X.home v ≡ Y.home w
  pub once : (v w v' w' : ℕ) → R v w → R v' w' → (v ≡ v') ↔ (w ≡ w')

-- two walks alike
pub data AlikeWalks (R : ℕ → ℕ → Type 0) : Walked → Walked → Type 0 where
  both_end : {v w : ℕ} → R v w → AlikeWalks R (ends v) (ends w)
  both_stop : {k : Refusal} → AlikeWalks R (stops k) (stops k)

same_there : (x y : List ℕ) → length x ≡ length y → is_there y ≡ is_there x
same_there [] [] e = refl
same_there [] (y ∷ ys) e = absurd (omega arith)
same_there (x ∷ xs) [] e = absurd (omega arith)
same_there (x ∷ xs) (y ∷ ys) e = refl

module _ {R : ℕ → ℕ → Type 0} where
  -- one step into alike values
  pub steps_alike : (x y : List ℕ) → Alike R x y → (go go' : ℕ → Walked) → ((v w : ℕ) → R v w → AlikeWalks R (go v) (go' w)) → (f : ℕ)
      → AlikeWalks R (step_into x f go) (step_into y f go')
  unfolding step_into
  steps_alike x y a go go' rest f = by (is_there x) refl (is_record (header_in x)) refl (leb (fields_in x) f) refl
    where
      there : is_there y ≡ is_there x
      there = same_there x y a.size

      kind : is_record (header_in y) ≡ is_record (header_in x)
      kind = ap is_record (sym a.header)

      past : leb (fields_in y) f ≡ leb (fields_in x) f
      past = ap (λ l. leb (l - 1) f) (sym a.size)

      by : (p : Bool) → is_there x ≡ p → (q : Bool) → is_record (header_in x) ≡ q → (t : Bool) → leb (fields_in x) f ≡ t
          → AlikeWalks R (step_into x f go) (step_into y f go')
      by false e q e₁ t e₂ = rw (there, e) both_stop
      by true e false e₁ t e₂ = rw (there, kind, e, e₁) both_stop
      by true e true e₁ true e₂ = rw (there, kind, past, e, e₁, e₂) both_stop
      by true e true e₁ false e₂ = let b = leb-false (fields_in x) f e₂ in rw (there, kind, past, e, e₁, e₂) (rest _ _ (a.fields e₁ f (omega arith)))

module _ (X Y : View) (R : ℕ → ℕ → Type 0) (same : Same X Y R) where
  pub walks : (fs : List ℕ) (v w : ℕ) → R v w → AlikeWalks R (walk_from X.value v fs) (walk_from Y.value w fs)
  unfolding walk_from
  walks [] v w r = go (is_number (word_of v)) refl (is_there (X.value v)) refl
    where
      there : is_there (Y.value w) ≡ is_there (X.value v)
      there = same_there (X.value v) (Y.value w) (same.values v w r).size

      go : (b : Bool) → is_number (word_of v) ≡ b → (t : Bool) → is_there (X.value v) ≡ t → AlikeWalks R (walk_from X.value v []) (walk_from Y.value w [])
      go true e t q = rw (← same.numbers v w r, e) (both_end r)
      go false e true q = rw (← same.numbers v w r, e, there, q) (both_end r)
      go false e false q = rw (← same.numbers v w r, e, there, q) both_stop
  walks (f ∷ fs) v w r = go (is_number (word_of v)) refl (λ v' w' r'. walks fs v' w' r')
    where
      go : (b : Bool) → is_number (word_of v) ≡ b → ((v' w' : ℕ) → R v' w' → AlikeWalks R (walk_from X.value v' fs) (walk_from Y.value w' fs))
          → AlikeWalks R (walk_from X.value v (f ∷ fs)) (walk_from Y.value w (f ∷ fs))
      go true e rest = rw (← same.numbers v w r, e) both_stop
      go false e rest = rw (← same.numbers v w r, e) (steps_alike (X.value v) (Y.value w) (same.values v w r) _ _ rest f)

-- ---- what is read

masked_same : {X Y : View} {R : ℕ → ℕ → Type 0} → Same X Y R → (vs ws : List ℕ) → length vs ≡ length ws → ((f : ℕ) → f < length vs → R (at vs f) (at ws f)) → masked vs ≡ masked ws
unfolding masked
masked_same same [] [] l r = refl
masked_same same [] (w ∷ ws) l r = absurd (omega arith)
masked_same same (v ∷ vs) [] l r = absurd (omega arith)
masked_same {R = R} same (v ∷ vs) (w ∷ ws) l r =
    go (is_number (word_of v)) refl (masked_same same vs ws (omega arith) (λ f b. r (suc f) (suc-le-suc b)))
  where
    r₀ : R v w
    r₀ = r 0 (suc-le-suc zero-le)

    go : (b : Bool) → is_number (word_of v) ≡ b → masked vs ≡ masked ws → masked (v ∷ vs) ≡ masked (w ∷ ws)
    go true q rest = let p : v ≡ w = same.value_of v w r₀ q in rw (p, rest)
    go false q rest = let q' : is_number (word_of w) ≡ false = sym (same.numbers v w r₀) ∙ q in rw (q, q', rest)

-- the words behind a header
behind : (R : ℕ → ℕ → Type 0) (x y : List ℕ) → length x ≡ length y → ((f : ℕ) → f < fields_in x → R (at x (suc f)) (at y (suc f)))
    → (length (drop 1 x) ≡ length (drop 1 y)) × ((f : ℕ) → f < length (drop 1 x) → R (at (drop 1 x) f) (at (drop 1 y) f))
behind R [] [] e r = (refl, λ f b. absurd (omega arith))
behind R [] (y ∷ ys) e r = absurd (omega arith)
behind R (x ∷ xs) [] e r = absurd (omega arith)
behind R (x ∷ xs) (y ∷ ys) e r = (omega arith, λ f b. r f (omega arith))

module _ (X Y : View) (R : ℕ → ℕ → Type 0) (same : Same X Y R) where
  pub values_read : (home : ℕ) (x y : List ℕ) → Alike R x y → read_value home x ≡ read_value home y
  unfolding read_value
  values_read home x y a = go (is_record (header_in x)) refl
    where
      go : (k : Bool) → is_record (header_in x) ≡ k → read_value home x ≡ read_value home y
      go true k =
          let u = behind R x y a.size (a.fields k) in
          rw (← a.header, k) (ap (of_record home) (masked_same same (drop 1 x) (drop 1 y) u.0 u.1))
      go false k = rw (a.text k)

  pub ends_read : (v w : ℕ) → R v w → read_by X (ends v) ≡ read_by Y (ends w)
  ends_read v w r = go (is_number (word_of v)) refl
    where
      go : (b : Bool) → is_number (word_of v) ≡ b → read_by X (ends v) ≡ read_by Y (ends w)
      go true e = rw (← same.numbers v w r, e) (ap whole (same.value_of v w r e))
      go false e = rw (← same.numbers v w r, e) (ap (λ h. read_value h (X.value v)) (same.homes v w r) ∙ values_read (Y.home w) (X.value v) (Y.value w) (same.values v w r))

  pub walks_read : {a b : Walked} → AlikeWalks R a b → read_by X a ≡ read_by Y b
  walks_read (both_end {v} {w} r) = ends_read v w r
  walks_read both_stop = refl

  module _ (rx ry : List ℕ) (len : length rx ≡ length ry) (roots : (i : ℕ) → i < length rx → R (at rx i) (at ry i)) where
    pub paths : (i : ℕ) (fs : List ℕ) → AlikeWalks R (path X rx i fs) (path Y ry i fs)
    unfolding path
    paths i fs = go (leb (length rx) i) refl
      where
        go : (b : Bool) → leb (length rx) i ≡ b → AlikeWalks R (path X rx i fs) (path Y ry i fs)
        go true e = rw (← len, e) both_stop
        go false e = let b = leb-false (length rx) i e in rw (← len, e) (walks X Y R same fs (at rx i) (at ry i) (roots i (omega arith)))

    -- every path reads the same
    pub readings : (i : ℕ) (fs : List ℕ) → reading X rx i fs ≡ reading Y ry i fs
    unfolding reading
    readings i fs = walks_read (paths i fs)

-- ---- meetings: two paths end on one value
pub record MeetIn (X : View) (roots : List ℕ) (i : ℕ) (fs : List ℕ) (j : ℕ) (gs : List ℕ) : Type 0 where
  pub word : ℕ
  pub one : path X roots i fs ≡ ends word
  pub other : path X roots j gs ≡ ends word
  pub pointer : is_number (word_of word) ≡ false

pub alike_end : {R : ℕ → ℕ → Type 0} {a b : Walked} (v : ℕ) → AlikeWalks R a b → a ≡ ends v → (w : ℕ) × (b ≡ ends w) × R v w
alike_end {R} v (both_end {v = v'} {w} r) e = let q : v' ≡ v = cc in (w, refl, rw q at r)
alike_end v (both_stop {k}) e = absurd (false≢true cc)

-- the other way round
flipped : {R : ℕ → ℕ → Type 0} {a b : Walked} → AlikeWalks R a b → AlikeWalks (λ w v. R v w) b a
flipped (both_end r) = both_end r
flipped both_stop = both_stop

-- what two paths meet on, they meet on in the other view, where R keeps numbers and what is one
meets_on : (X Y : View) (R : ℕ → ℕ → Type 0) (rx ry : List ℕ) (i : ℕ) (fs : List ℕ) (j : ℕ) (gs : List ℕ) → ((v w : ℕ) → R v w → is_number (word_of v) ≡ is_number (word_of w))
    → ((v w v' w' : ℕ) → R v w → R v' w' → v ≡ v' → w ≡ w') → AlikeWalks R (path X rx i fs) (path Y ry i fs) → AlikeWalks R (path X rx j gs) (path Y ry j gs)
    → MeetIn X rx i fs j gs → MeetIn Y ry i fs j gs
meets_on X Y R rx ry i fs j gs numbers once P Q m =
    let p = alike_end m.word P m.one in
    let q = alike_end m.word Q m.other in
    let e : p.0 ≡ q.0 = once _ _ _ _ p.2 q.2 refl in
    record { word = p.0; one = p.1; other = q.1 ∙ ap ends (sym e); pointer = sym (numbers _ _ p.2) ∙ m.pointer }

module _ (X Y : View) (R : ℕ → ℕ → Type 0) (same : Same X Y R) (rx ry : List ℕ) (len : length rx ≡ length ry) (roots : (i : ℕ) → i < length rx → R (at rx i) (at ry i)) where
  pub meetings : (i : ℕ) (fs : List ℕ) (j : ℕ) (gs : List ℕ) → MeetIn X rx i fs j gs ↔ MeetIn Y ry i fs j gs
  meetings i fs j gs =
      let P = paths X Y R same rx ry len roots i fs in
      let Q = paths X Y R same rx ry len roots j gs in (
        meets_on X Y R rx ry i fs j gs same.numbers (λ v w v' w' r r'. (same.once v w v' w' r r').0) P Q,
        meets_on Y X (λ w v. R v w) ry rx i fs j gs (λ w v r. sym (same.numbers v w r)) (λ w v w' v' r r'. (same.once v w v' w' r r').1) (flipped P) (flipped Q),
      )

  -- what a root reaches has its like
  pub reached_like : {v : ℕ} → Reached X rx v → (w : ℕ) × R v w
  reached_like (root i b) = (at ry i, roots i b)
  reached_like (field {w = v} f r k b) =
      let p = reached_like r in
      (at (Y.value p.0) (suc f), (same.values v p.0 p.1).fields k f b)
