-- Words in a list, by their place, and tests over lists. Each is total: a place outside reads 0.
use Rattle.std.specs.Prelude.{ℕ, zero, suc, ◌+◌, Bool, true, false, List, [], ◌∷◌, ◌++◌, length, take, drop, get_or, eqb}

-- the word at place i, 0 outside
abbrev pub at : List ℕ → ℕ → ℕ
at l i = get_or l i 0

-- the words ws at the places from a on
unfoldable pub put : List ℕ → ℕ → List ℕ → List ℕ
put l a ws = take a l ++ ws ++ drop (a + length ws) l

-- ws with zeros behind it, m words in all
unfoldable pub padded : ℕ → List ℕ → List ℕ
padded zero ws = []
padded (suc m) [] = 0 ∷ padded m []
padded (suc m) (w ∷ ws) = w ∷ padded m ws

module _ {A : Type 0} where
  -- the test passes at each element
  unfoldable pub all : (A → Bool) → List A → Bool
  all p [] = true
  all p (x ∷ xs) = elim (p x) [ true ↦ all p xs | false ↦ false ]

-- the m numbers from i on pass
unfoldable pub all_from : (ℕ → Bool) → ℕ → ℕ → Bool
all_from p zero i = true
all_from p (suc m) i = elim (p i) [ true ↦ all_from p m (suc i) | false ↦ false ]

-- the numbers below m pass
abbrev pub all_below : (ℕ → Bool) → ℕ → Bool
all_below p m = all_from p m 0

-- each word is 0
unfoldable pub zeros : List ℕ → Bool
zeros [] = true
zeros (w ∷ ws) = elim (eqb w 0) [ true ↦ zeros ws | false ↦ false ]

-- how often k stands in the list
unfoldable pub times : ℕ → List ℕ → ℕ
times k [] = zero
times k (x ∷ xs) = elim (eqb k x) [ true ↦ suc (times k xs) | false ↦ times k xs ]

-- the last element, or d where there is none
unfoldable pub last_or : ℕ → List ℕ → ℕ
last_or d [] = d
last_or d (x ∷ xs) = last_or x xs

-- the two lists are the same
unfoldable pub same : List ℕ → List ℕ → Bool
same [] [] = true
same [] (y ∷ ys) = false
same (x ∷ xs) [] = false
same (x ∷ xs) (y ∷ ys) = elim (eqb x y) [ true ↦ same xs ys | false ↦ false ]
