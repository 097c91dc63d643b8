-- A copy made word by word: what was copied so far, one word more, and the whole. `paste d b s i` is d with its words from b on replaced by the first
-- i words of s. A word that is read from the same list lies outside the words written so far, because the two parts lie apart.
use Prim.Native.Nat.{ℕ, zero, suc, ◌+◌, ◌-◌, ◌≤◌, ◌<◌}
use mathlib.Core.Path.{◌≡◌, refl, sym, ap, ◌∙◌}
use mathlib.Core.Logic.{◌⊎◌, inr, ⊎_elim}
use mathlib.Core.List.{List, [], ◌∷◌, map}
use native.Mathlib.Omega.{arith}
use native.Mathlib.Numerals.{add-one}
use lib.ListN.{length, take, drop, set, length-drop, length-map}
use lib.Seq.{paste, paste-suc, length-take-le}
use Rattle.laws.specs.Lists.{at, put}
use Rattle.laws.proofs.Lists.{at_put_below, at_put_above}
use Rattle.laws.proofs.Writes.{sets_whole, put_sets}

pub paste_put : (h : List ℕ) (b : ℕ) (s : List ℕ) (i : ℕ) → i ≤ length s → paste h b s i ≡ put h b (take i s)
unfolding put
paste_put h b s i l = rw (length-take-le i s l)

-- a word outside the part written
at_paste : (h : List ℕ) (b : ℕ) (s : List ℕ) (i x : ℕ) → i ≤ length s → b + i ≤ length h → (x < b) ⊎ (b + i ≤ x) → at (paste h b s i) x ≡ at h x
at_paste h b s i x l m w =
    let q : length (take i s) ≡ i = length-take-le i s l in
    rw (paste_put h b s i l)
    (⊎_elim (λ u. at_put_below h b (take i s) x (omega arith) u) (λ u. at_put_above h b (take i s) x (omega arith) (omega arith)) w)

-- one word more, from another list
pub paste_more : (d : List ℕ) (b : ℕ) (s : List ℕ) (i v : ℕ) → b + i < length d → i < length s → v ≡ at s i
    → set (paste d b s i) (b + i) v ≡ paste d b s (i + 1)
paste_more d b s i v m l e = rw (e, add-one i) (paste-suc d b s i 0 m l)

-- all m words are there
pub paste_done : (d : List ℕ) (b : ℕ) (s : List ℕ) (m i : ℕ) → i ≤ m → m ≤ i → m ≤ length s → paste d b s i ≡ put d b (take m s)
paste_done d b s m i l l' k = let e : i ≡ m = omega arith in rw e (paste_put d b s m k)

pub copy_done : (h : List ℕ) (a b m i : ℕ) → i ≤ m → m ≤ i → a + m ≤ length h → paste h b (drop a h) i ≡ put h b (take m (drop a h))
copy_done h a b m i l l' p = let k : length (drop a h) ≡ length h - a = length-drop a h in paste_done h b (drop a h) m i l l' (omega arith)

-- the whole list replaced
put_whole : (h ws : List ℕ) → length ws ≡ length h → put h 0 ws ≡ ws
put_whole h ws e = put_sets h 0 ws (omega arith) ∙ sets_whole h ws e

-- ---- from the front on: every word of d replaced by the word of s at its place

pub at_map : (f : ℕ → ℕ) (l : List ℕ) (i : ℕ) → i < length l → at (map f l) i ≡ f (at l i)
at_map f [] i b = absurd (omega arith)
at_map f (x ∷ l) zero b = refl
at_map f (x ∷ l) (suc i) b = at_map f l i (omega arith)

-- t is what it is so far
pub front_more : (d s t : List ℕ) (i v : ℕ) → t ≡ paste d 0 s i → i < length d → i < length s → v ≡ at s i → set t i v ≡ paste d 0 s (i + 1)
front_more d s t i v e m l q = let z : i ≡ 0 + i = omega arith in rw e (ap (λ k. set (paste d 0 s i) k v) z ∙ paste_more d 0 s i v (omega arith) l q)

-- w is the word that is replaced
pub map_more : (f : ℕ → ℕ) (d t : List ℕ) (i w v : ℕ) → t ≡ paste d 0 (map f d) i → i < length d → w ≡ at t i → v ≡ f w → set t i v ≡ paste d 0 (map f d) (i + 1)
map_more f d t i w v e b p q =
    let l : length (map f d) ≡ length d = length-map d f in
    let old : w ≡ at d i = p ∙ ap (λ x. at x i) e ∙ at_paste d 0 (map f d) i i (omega arith) (omega arith) (inr (omega arith)) in
    front_more d (map f d) t i v e b (omega arith) (q ∙ ap f old ∙ sym (at_map f d i b))
