-- Parts of a list, writing into a part, and two parts of one size that lie apart. All hold word by word.
use Prim.Native.Nat.{ℕ, zero, suc, ◌+◌, ◌-◌, ◌*◌, ◌≤◌, ◌<◌}
use native.Mathlib.Nat.{le_refl, zero-add, mul-le-mul_right}
use native.Mathlib.Omega.{arith}
use native.Mathlib.Decide.{dec_le, ℕ_discrete}
use mathlib.Core.Path.{◌≡◌, sym, ap, ◌∙◌}
use mathlib.Core.Logic.{◌≢◌, ◌⊎◌, inl, inr}
use mathlib.Core.List.{List, [], ◌∷◌, ◌++◌}
use lib.ListN.{length, set, take, drop, length-append, length-take, length-drop, drop_of_length-le, get_or-append}
use lib.Seq.{get_or-set_same, get_or-set_other, ext_get_or, length-sets, slice, take-nil, length-take-le, get_or-append-add, get_or-take, get_or-drop}
use Rattle.laws.specs.Lists.{at, put}
use Rattle.laws.proofs.Writes.{put_sets}

pub drop_take : (m n : ℕ) (l : List ℕ) → drop m (take (m + n) l) ≡ take n (drop m l)
drop_take zero n l = rw zero-add
drop_take (suc m) n [] = let q : suc m + n ≡ suc (m + n) = omega arith in rw q (sym (take-nil n))
drop_take (suc m) n (x ∷ xs) = let q : suc m + n ≡ suc (m + n) = omega arith in rw q (drop_take m n xs)

pub slice_none : (f t : ℕ) (l : List ℕ) → t ≤ f → slice f t l ≡ []
slice_none f t l b = let q : length (take t l) ≤ f = simp length-take (omega arith) in drop_of_length-le (take t l) q

-- ---- words by their places

-- a part that lies in the list has all its words
pub part_length : (h : List ℕ) (a m : ℕ) → a + m ≤ length h → length (take m (drop a h)) ≡ m
part_length h a m inside = let d = length-drop a h in length-take-le m (drop a h) (omega arith)

-- and they are the list's words
pub word_in : (h : List ℕ) (a m i : ℕ) → i < m → at (take m (drop a h)) i ≡ at h (a + i)
word_in h a m i b = get_or-take m (drop a h) i 0 b ∙ get_or-drop a h i 0

-- the same words, taken from two memories that agree on them
pub part_same : (g h : List ℕ) (a m : ℕ) → length g ≡ length h → ((x : ℕ) → a ≤ x → x < a + m → at g x ≡ at h x) → a + m ≤ length g → take m (drop a g) ≡ take m (drop a h)
part_same g h a m e agree inside =
    let tg = part_length g a m inside in
    let th = part_length h a m (omega arith) in
    ext_get_or 0 _ _ (tg ∙ sym th)
    (λ i b.
    word_in g a m i (omega arith) ∙ agree (a + i) (omega arith) (omega arith) ∙ sym (word_in h a m i (omega arith)))

-- ---- writing words into a list

pub length_put : (h : List ℕ) (a : ℕ) (ws : List ℕ) → a + length ws ≤ length h → length (put h a ws) ≡ length h
length_put h a ws fits = ap length (put_sets h a ws fits) ∙ length-sets h a ws

-- what stands before the words, and the words: their length
front : (h : List ℕ) (a : ℕ) (ws : List ℕ) → a + length ws ≤ length h → length (take a h ++ ws) ≡ a + length ws
front h a ws fits =
    let l : length (take a h) ≡ a = length-take-le a h (omega arith) in
    simp length-append (omega arith)

pub at_put_below : (h : List ℕ) (a : ℕ) (ws : List ℕ) (x : ℕ) → a + length ws ≤ length h → x < a → at (put h a ws) x ≡ at h x
unfolding put
at_put_below h a ws x fits b =
    let l : length (take a h) ≡ a = length-take-le a h (omega arith) in
    get_or-append (take a h ++ ws) _ 0 x (omega (arith, front h a ws fits)) ∙ get_or-append (take a h) ws 0 x (omega arith) ∙ get_or-take a h x 0 b

pub at_put_in : (h : List ℕ) (a : ℕ) (ws : List ℕ) (i : ℕ) → a + length ws ≤ length h → i < length ws → at (put h a ws) (a + i) ≡ at ws i
unfolding put
at_put_in h a ws i fits b =
    let l : length (take a h) ≡ a = length-take-le a h (omega arith) in
    get_or-append (take a h ++ ws) _ 0 (a + i) (omega (arith, front h a ws fits))
    ∙ ap (λ k. at (take a h ++ ws) (k + i)) (sym l)
    ∙ get_or-append-add (take a h) ws i 0

pub at_put_above : (h : List ℕ) (a : ℕ) (ws : List ℕ) (x : ℕ) → a + length ws ≤ length h → a + length ws ≤ x → at (put h a ws) x ≡ at h x
unfolding put
at_put_above h a ws x fits b =
    let m : ℕ = a + length ws in
    let e : x ≡ m + (x - m) = omega arith in
    ap (at (put h a ws)) (e ∙ ap (λ k. k + (x - m)) (sym (front h a ws fits)))
    ∙ get_or-append-add (take a h ++ ws) _ (x - m) 0
    ∙ get_or-drop m h (x - m) 0
    ∙ ap (at h) (sym e)

-- ---- parts of one size

-- of two parts with different numbers, one lies before the other
pub apart : (size k l : ℕ) → k ≢ l → (k * size + size ≤ l * size) ⊎ (l * size + size ≤ k * size)
apart size k l ne = go (dec_le (suc k) l)
  where
    go : Dec (suc k ≤ l) → (k * size + size ≤ l * size) ⊎ (l * size + size ≤ k * size)
    go (yes h) = inl (omega (arith, mul-le-mul_right size h))
    go (no f) = inr (let h : suc l ≤ k = omega arith in omega (arith, mul-le-mul_right size h))

-- no place is in two parts
pub one_part : (size k l x : ℕ) → k ≢ l → k * size ≤ x → x < k * size + size → l * size ≤ x → x < l * size + size → ⊥
one_part size k l x ne a b c d = go (apart size k l ne)
  where
    go : (k * size + size ≤ l * size) ⊎ (l * size + size ≤ k * size) → ⊥
    go (inl q) = omega arith
    go (inr q) = omega arith

-- two parts begin at two places
pub starts_differ : (size k l : ℕ) → 0 < size → k ≢ l → k * size ≢ l * size
starts_differ size k l p ne e = one_part size k l (k * size) ne (le_refl _) (omega arith) (omega arith) (omega arith)

-- behind the first place of a part no part begins
pub begins_none : (size k l x : ℕ) → k * size < x → x < k * size + size → x ≢ l * size
begins_none size k l x a b e = go (ℕ_discrete k l)
  where
    go : Dec (k ≡ l) → ⊥
    go (yes q) = let w : k * size ≡ l * size = ap (λ t. t * size) q in omega arith
    go (no ne) = one_part size k l x ne (omega arith) b (omega arith) (omega arith)

-- nor at a second place
pub second_none : (size k l : ℕ) → 2 ≤ size → l * size + 1 ≢ k * size
second_none size k l b = begins_none size l k (l * size + 1) (omega arith) (omega arith)

-- what holds of the word that is set, and of the others as they were, holds of each
pub set_keeps : (P : ℕ → Type 0) (h : List ℕ) (x v y : ℕ) → x < length h → (y ≡ x → P v) → (y ≢ x → P (at h y)) → P (at (set h x v) y)
set_keeps P h x v y b new others = go (ℕ_discrete y x)
  where
    go : Dec (y ≡ x) → P (at (set h x v) y)
    go (yes e) = rw (e, get_or-set_same h x v 0 b) (new e)
    go (no ne) = rw (get_or-set_other h x y v 0 ne) (others ne)

-- a word set in part k leaves the other parts as they are
pub set_elsewhere : (size : ℕ) (h : List ℕ) (k a v l x : ℕ) → k * size ≤ a → a < k * size + size → l ≢ k → l * size ≤ x → x < l * size + size → at (set h a v) x ≡ at h x
set_elsewhere size h k a v l x lo hi ne p q = get_or-set_other h a x v 0 (λ e. one_part size l k x ne p q (omega arith) (omega arith))

-- words put inside part k leave the other parts as they are
pub put_elsewhere : (size : ℕ) (h : List ℕ) (k a : ℕ) (ws : List ℕ) (l x : ℕ) → a + length ws ≤ length h → k * size ≤ a → a + length ws ≤ k * size + size
    → l ≢ k → l * size ≤ x → x < l * size + size → at (put h a ws) x ≡ at h x
put_elsewhere size h k a ws l x fits lo hi ne p q = go (apart size l k ne)
  where
    go : (l * size + size ≤ k * size) ⊎ (k * size + size ≤ l * size) → at (put h a ws) x ≡ at h x
    go (inl b) = at_put_below h a ws x fits (omega arith)
    go (inr b) = at_put_above h a ws x fits (omega arith)
