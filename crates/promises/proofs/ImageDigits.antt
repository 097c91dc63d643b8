-- Digits, words and frames, there and back: what is written is read as it was, and what is read is what was written. By recursion on the
-- digits and on the words; a number of m digits is its first digit and a number of the others.
use Prim.Native.Nat.{ℕ, zero, suc, ◌+◌, ◌*◌, ◌/◌, ◌%◌, ◌^◌, ◌<◌}
use mathlib.Core.Path.{◌≡◌, refl, sym, ap, ◌∙◌}
use mathlib.Core.Bool.{Bool, true, false, false≢true}
use mathlib.Core.Option.{Option, none, some, none-ne-some, some-ne-none}
use mathlib.Core.List.{List, [], ◌∷◌, ◌++◌, append_assoc}
use native.Mathlib.Nat.{pow-succ', one-le-pow, mod-eq_of_lt, mod-lt, mul-add-div_right, mul-add-mod_self_left, mul_assoc, mul_left_comm, mul-one, mod-one, add-mul, zero-mul}
use native.Mathlib.Omega.{arith}
use borrow.Author.Tests.{eq-eqb, eqb-true}
use lib.Arith.{digits_lt, digits_div, mod-mul}
use lib.Dec.{eqb}
use lib.ListN.{length}
use Rattle.laws.proofs.Choices.{first_chosen}
use Rattle.rules.specs.Memory.{Small}
use Rattle.rules.specs.Image.{digit_of, hex, hex_words, frame, value_of, digits, words, end_frame, read_words, read_frame}
use Rattle.rules.proofs.Digits.{value_digit, digit_value_lem}
use Rattle.promises.specs.Texts.{Countable}

-- what was read and what is left
some_both : {A B : Type 0} {a c : A} {b d : B} → ◌≡◌ {A = Option (A × B)} (some (a, b)) (some (c, d)) → (a ≡ c) × (b ≡ d)
some_both {A} {B} {a} {c} {b} {d} e =
    let p : ◌≡◌ {A = A × B} (a, b) (c, d) = cc in
    (ap (λ (t : A × B). t.0) p, ap (λ (t : A × B). t.1) p)

-- what was read in two steps: the first gives a, and from there the second gives b
read_on_lem : {A B X : Type 0} (o : Option A) (f : A → Option B) {b : B} → elim o [ none ↦ none | some a ↦ f a ] ≡ some b → ((a : A) → o ≡ some a → f a ≡ some b → X) → X
read_on_lem none f {b} e k = absurd (none-ne-some b e)
read_on_lem (some a) f e k = k a refl e

-- ---- a number

pow_pos : (m : ℕ) → 0 < 16 ^ m
pow_pos m = one-le-pow m 16 (omega arith)

-- the digits of a number, read after v
pub digits_hex : (m v w : ℕ) (rest : List ℕ) → digits m v (hex m w ++ rest) ≡ some (v * 16 ^ m + w % 16 ^ m, rest)
unfolding digits hex
digits_hex zero v w rest = ap (λ x. some (x, rest)) (sym (omega (arith, mul-one v, mod-one w)))
digits_hex (suc m) v w rest =
    let d : ℕ = w / 16 ^ m % 16 in
    let e : v * 16 ^ suc m + w % 16 ^ suc m ≡ (16 * v + d) * 16 ^ m + w % 16 ^ m =
    ap (λ x. v * x + w % x) (pow-succ' 16 m)
    ∙ ap (λ x. v * (16 * 16 ^ m) + x) (mod-mul w {m = 16} {c = 16 ^ m} (omega arith) (pow_pos m))
    ∙ (let a = add-mul (16 * v) d (16 ^ m) in let b = mul_assoc 16 v (16 ^ m) in let c = mul_left_comm v 16 (16 ^ m) in omega arith) in
    rw (digits, value_digit d (mod-lt (w / 16 ^ m) (omega arith)), e) (digits_hex m (16 * v + d) w rest)

pub digits_back : (m w : ℕ) (rest : List ℕ) → w < 16 ^ m → digits m 0 (hex m w ++ rest) ≡ some (w, rest)
digits_back m w rest b =
    digits_hex m 0 w rest ∙ ap (λ x. some (x, rest)) (let a = zero-mul (16 ^ m) in let c = mod-eq_of_lt b in omega arith)

-- what stands above the last m digits does not count
hex_low : (m a w : ℕ) → hex m (a * 16 ^ m + w) ≡ hex m w
unfolding hex
hex_low zero a w = refl
hex_low (suc m) a w =
    let e : a * 16 ^ suc m + w ≡ 16 * a * 16 ^ m + w =
    (let p = pow-succ' 16 m in let q = mul_left_comm a 16 (16 ^ m) in let r = mul_assoc 16 a (16 ^ m) in omega (arith, ap (λ x. a * x) p)) in
    let d : (16 * a * 16 ^ m + w) / 16 ^ m % 16 ≡ w / 16 ^ m % 16 =
    ap (λ x. x % 16) (mul-add-div_right (pow_pos m) (16 * a) w) ∙ mul-add-mod_self_left 16 a (w / 16 ^ m) in
    rw (e, d) (ap (λ r. digit_of (w / 16 ^ m % 16) ∷ r) (hex_low m (16 * a) w))

-- m digits that were read after v: their number, and that they are its digits
pub record Digits (m v x : ℕ) (bs rest : List ℕ) : Type 0 where
  pub number : ℕ
  pub small : number < 16 ^ m
  pub value : x ≡ v * 16 ^ m + number
  pub text : bs ≡ hex m number ++ rest

pub hex_digits : (m v x : ℕ) (bs rest : List ℕ) → digits m v bs ≡ some (x, rest) → Digits m v x bs rest
unfolding digits hex
hex_digits zero v x bs rest e =
    let (q, t) = some_both e in
    record { number = 0; small = omega arith; value = (let o = mul-one v in omega arith); text = t }
hex_digits (suc m) v x [] rest e = absurd (false≢true cc)
hex_digits (suc m) v x (b ∷ bs) rest e =
    read_on_lem (value_of b) _ e
    (λ d q s.
    let g = hex_digits m (16 * v + d) x bs rest s in
    let y : ℕ = g.number in
    let k = digit_value_lem b d q in
    let l = g.small in
    let u = g.value in
    let c : (d * 16 ^ m + y) / 16 ^ m % 16 ≡ d = ap (λ z. z % 16) (digits_div d l) ∙ mod-eq_of_lt k.1 in
    record {
      number = d * 16 ^ m + y;
      small = (let f = digits_lt {q = d} {m = 16} {r = y} {c = 16 ^ m} k.1 l in let p = pow-succ' 16 m in omega arith);
      value =
          (let p = ap (λ z. v * z) (pow-succ' 16 m) in
          let i = add-mul (16 * v) d (16 ^ m) in
          let j = mul_assoc 16 v (16 ^ m) in
          let h = mul_left_comm v 16 (16 ^ m) in
          omega arith);
      text = ap (λ z. z ∷ bs) k.0 ∙ ap (λ l. digit_of d ∷ l) g.text ∙ sym (rw (c, hex_low m d y));
    })

digits_read : (m x : ℕ) (bs rest : List ℕ) → digits m 0 bs ≡ some (x, rest) → (x < 16 ^ m) × (bs ≡ hex m x ++ rest)
digits_read m x bs rest e =
    let d = hex_digits m 0 x bs rest e in
    let q : d.number ≡ x = (let k = d.value in let z = zero-mul (16 ^ m) in omega arith) in
    rw (← q) (d.small, d.text)

-- ---- words

pub small_cons : (w : ℕ) (ws : List ℕ) → w < 2 ^ 32 → Small ws → Small (w ∷ ws)
small_cons w ws b s zero = b
small_cons w ws b s (suc i) = s i

pub words_hex : (ws rest : List ℕ) → Small ws → words (length ws) (hex_words ws ++ rest) ≡ some (ws, rest)
unfolding words hex_words
words_hex [] rest s = refl
words_hex (w ∷ ws) rest s =
    rw (append_assoc (hex 8 w) (hex_words ws) rest, words, digits_back 8 w (hex_words ws ++ rest) (s 0), words_hex ws rest (λ i. s (suc i)))

pub record Words (m : ℕ) (ws bs rest : List ℕ) : Type 0 where
  pub count : length ws ≡ m
  pub small : Small ws
  pub text : bs ≡ hex_words ws ++ rest

pub hex_words_lem : (m : ℕ) (bs ws rest : List ℕ) → words m bs ≡ some (ws, rest) → Words m ws bs rest
unfolding words hex_words
hex_words_lem zero bs ws rest e =
    let (q, t) = some_both e in
    rw (← q) (record { count = refl; small = λ i. omega arith; text = t })
hex_words_lem (suc m) bs ws rest e =
    read_on_lem (digits 8 0 bs) _ e
    (λ p q e₁.
    read_on_lem (words m p.1) _ e₁
    (λ t r e₂.
    let (a, b) = some_both e₂ in
    let (l, d) = digits_read 8 p.0 bs p.1 q in
    let g = hex_words_lem m p.1 t.0 t.1 r in
    rw (← a, ← b)
    (record {
      count = ap suc g.count;
      small = small_cons p.0 t.0 (omega arith) g.small;
      text = d ∙ rw (g.text, append_assoc (hex 8 p.0) (hex_words t.0) t.1);
    })))

-- ---- a frame

-- a frame's pieces in their order
pub frame_split : (kind : ℕ) (ws rest : List ℕ) → frame kind ws ++ rest ≡ hex 2 kind ++ (hex 4 (length ws) ++ (hex_words ws ++ (10 ∷ rest)))
unfolding frame
frame_split kind ws rest = simp append_assoc

pub frame_read : (kind : ℕ) (fits : List ℕ → Bool) (ws rest : List ℕ) → kind < 256 → Countable ws → fits ws ≡ true → read_frame kind fits (frame kind ws ++ rest) ≡ some (ws, rest)
unfolding read_frame read_words end_frame
frame_read kind fits ws rest k c f =
    let tail : List ℕ = hex_words ws ++ (10 ∷ rest) in
    rw (frame_split kind ws rest, read_frame, digits_back 2 kind (hex 4 (length ws) ++ tail) k, eq-eqb kind kind refl, digits_back 4 (length ws) tail c.few)
    (rw (read_words, words_hex ws (10 ∷ rest) c.small, f))

-- a frame that was read
pub record Framed (kind : ℕ) (fits : List ℕ → Bool) (ws bs rest : List ℕ) : Type 0 where
  pub text : bs ≡ frame kind ws ++ rest
  pub words : Countable ws
  pub passes : fits ws ≡ true
  pub kinds : kind < 256

pub read_framed : (kind : ℕ) (fits : List ℕ → Bool) (bs ws rest : List ℕ) → read_frame kind fits bs ≡ some (ws, rest) → Framed kind fits ws bs rest
unfolding read_frame read_words end_frame
read_framed kind fits bs ws rest e =
    read_on_lem (digits 2 0 bs) _ e
    (λ p q e₁.
    let (same, e₂) = kinded (eqb p.0 kind) _ e₁ in
    read_on_lem (digits 4 0 p.1) _ e₂
    (λ c r e₃.
    read_on_lem (words c.0 c.1) _ e₃
    (λ u w e₄.
    let (f, e₅) = first_chosen (fits u.0) (sym e₄) (λ z. some-ne-none _ z) in
    let (us, end) = ended u.0 u.1 (sym e₅) in
    let (k, head) = digits_read 2 p.0 bs p.1 q in
    let (m, count) = digits_read 4 c.0 p.1 c.1 r in
    let g = hex_words_lem c.0 c.1 u.0 u.1 w in
    let s = eqb-true p.0 kind same in
    let z = g.count in
    rw (← us)
    (record {
      text = head ∙ rw (s, count, ← z, g.text, end) (sym (frame_split kind u.0 rest));
      words = record { small = g.small; few = omega arith };
      passes = f;
      kinds = omega arith;
    }))))
  where
    kinded : (t : Bool) (o : Option (List ℕ × List ℕ)) → ◌≡◌ {A = Option (List ℕ × List ℕ)} (elim t [ false ↦ none | true ↦ o ]) (some (ws, rest)) → (t ≡ true) × (o ≡ some (ws, rest))
    kinded true o h = (refl, h)
    kinded false o h = absurd (none-ne-some _ h)

    -- the newline behind the words
    ended : (us tail : List ℕ) → end_frame us tail ≡ some (ws, rest) → (us ≡ ws) × (tail ≡ 10 ∷ rest)
    ended us [] h = absurd (none-ne-some _ h)
    ended us (b ∷ bs) h =
        let (t, o) = first_chosen (eqb b 10) (sym h) (λ z. some-ne-none _ z) in
        let (y, x) = some_both (sym o) in
        (y, rw (eqb-true b 10 t, x))
