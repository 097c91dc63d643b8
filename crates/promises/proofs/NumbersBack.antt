-- Whole numbers read back as they were written, and words too: 2i+1 modulo 2^32 is undone by halving, below and above the middle alike.
use Rattle.std.specs.Prelude.{Ok, Err}
use Prim.Native.Nat.{ℕ, ◌+◌, ◌-◌, ◌*◌, ◌/◌, ◌%◌, ◌^◌, ◌≤◌, ◌<◌}
use native.Mathlib.Omega.{arith}
use mathlib.Core.Path.{◌≡◌, refl}
use mathlib.Core.Bool.{Bool, true, false, false≢true}
use lib.IntN.{ℤ, pos, negsuc}
use lib.Dec.{ltb, eqb}
use borrow.Author.Tests.{lt-ltb, le-ltb, ltb-true, ltb-false, ne_eqb, eqb-false}
use Rattle.laws.specs.Choice.{◌⇒◌∣◌}
use Rattle.rules.specs.declared.Refusal.{Refusal}
use Rattle.rules.specs.Calls.{word_of_number, number_of_word}

-- the number that a word below or above the middle gives
low_word : (i : ℕ) → i < 2 ^ 30 → number_of_word (2 * i + 1) ≡ Ok (pos i)
unfolding number_of_word
low_word i b =
    let o : eqb ((2 * i + 1) % 2) 0 ≡ false = ne_eqb ((2 * i + 1) % 2) 0 (λ (z : (2 * i + 1) % 2 ≡ 0). omega arith) in
    let l : ltb (2 * i + 1) (2 ^ 31) ≡ true = lt-ltb (2 * i + 1) (2 ^ 31) (omega arith) in
    let h : (2 * i + 1) / 2 ≡ i = omega arith in
    rw (o, l, h)

high_word : (i : ℕ) → i < 2 ^ 30 → number_of_word (2 ^ 32 - (2 * i + 1)) ≡ Ok (negsuc i)
unfolding number_of_word
high_word i b =
    let w : ℕ = 2 ^ 32 - (2 * i + 1) in
    let o : eqb (w % 2) 0 ≡ false = ne_eqb (w % 2) 0 (λ (z : w % 2 ≡ 0). omega arith) in
    let l : ltb w (2 ^ 31) ≡ false = le-ltb w (2 ^ 31) (omega arith) in
    let h : (2 ^ 32 - 1 - w) / 2 ≡ i = omega arith in
    rw (o, l, h)

-- a number that is not refused is in its range
in_range : (b : Bool) (v w : ℕ) → (b ⇒ Ok v ∣ Err Refusal.NoNumber) ≡ Ok w → (b ≡ true) × (v ≡ w)
in_range true v w e = (refl, cc)
in_range false v w e = absurd (false≢true cc)

-- and reads back
pub number_back : (i : ℤ) (w : ℕ) → word_of_number i ≡ Ok w → number_of_word w ≡ Ok i
number_back (pos i) w e = let t = in_range (ltb i (2 ^ 30)) (2 * i + 1) w e in rw (← t.1) (low_word i (ltb-true i (2 ^ 30) t.0))
number_back (negsuc i) w e = let t = in_range (ltb i (2 ^ 30)) (2 ^ 32 - (2 * i + 1)) w e in rw (← t.1) (high_word i (ltb-true i (2 ^ 30) t.0))

-- the word of a number that halving gives
low_back : (w : ℕ) → (w % 2 ≡ 0 → ⊥) → w < 2 ^ 31 → word_of_number (pos (w / 2)) ≡ Ok w
low_back w o b = let l : ltb (w / 2) (2 ^ 30) ≡ true = lt-ltb (w / 2) (2 ^ 30) (omega arith) in let h : 2 * (w / 2) + 1 ≡ w = omega arith in rw (l, h)

high_back : (w : ℕ) → (w % 2 ≡ 0 → ⊥) → 2 ^ 31 ≤ w → w < 2 ^ 32 → word_of_number (negsuc ((2 ^ 32 - 1 - w) / 2)) ≡ Ok w
high_back w o b c =
    let l : ltb ((2 ^ 32 - 1 - w) / 2) (2 ^ 30) ≡ true = lt-ltb ((2 ^ 32 - 1 - w) / 2) (2 ^ 30) (omega arith) in
    let h : 2 ^ 32 - (2 * ((2 ^ 32 - 1 - w) / 2) + 1) ≡ w = omega arith in
    rw (l, h)

-- a 32-bit word that is not refused is written back
pub word_back : (w : ℕ) (i : ℤ) → w < 2 ^ 32 → number_of_word w ≡ Ok i → word_of_number i ≡ Ok w
unfolding number_of_word
word_back w i c e = go (eqb (w % 2) 0) refl (ltb w (2 ^ 31)) refl
  where
    go : (x : Bool) → eqb (w % 2) 0 ≡ x → (y : Bool) → ltb w (2 ^ 31) ≡ y → word_of_number i ≡ Ok w
    go true p y q = let e' : Err Refusal.NoNumber ≡ Ok i = rw p at e in absurd (false≢true cc)
    go false p true q =
        let e' : Ok (pos (w / 2)) ≡ Ok i = rw (p, q) at e in
        let x : pos (w / 2) ≡ i = cc in
        rw (← x) (low_back w (eqb-false (w % 2) 0 p) (ltb-true w (2 ^ 31) q))
    go false p false q =
        let e' : Ok (negsuc ((2 ^ 32 - 1 - w) / 2)) ≡ Ok i = rw (p, q) at e in
        let x : negsuc ((2 ^ 32 - 1 - w) / 2) ≡ i = cc in
        rw (← x) (high_back w (eqb-false (w % 2) 0 p) (ltb-false w (2 ^ 31) q) c)
