-- A part of a list that is lent and given back: the words before it, the part as it was left, and the words after it are the list with the part
-- put in. And words that are filled one by one. By the laws of `take`, `drop` and `++`.
use Prim.Native.Nat.{ℕ, suc, ◌+◌, ◌-◌, ◌≤◌}
use mathlib.Core.Path.{◌≡◌, sym, ap, ◌∙◌}
use mathlib.Core.List.{List, ◌∷◌, ◌++◌, append-nil, append_assoc}
use native.Mathlib.Omega.{arith}
use native.Mathlib.Numerals.{add-one}
use lib.ListN.{length, take, drop, replicate, set, length-set, length-drop}
use lib.Seq.{drop-length, drop-drop, take_all}
use Rattle.laws.specs.Lists.{put, zeros}
use Rattle.laws.proofs.Writes.{put_sets}

-- every word of d is filled
pub filled : (d : List ℕ) (w i : ℕ) → i ≤ length d → length d ≤ i → replicate i w ++ drop i d ≡ replicate (length d) w
filled d w i l m = let e : i ≡ length d = omega arith in rw (e, drop-length, append-nil)

-- the first word and then the others
pub put_first : (h : List ℕ) (a w : ℕ) (ws : List ℕ) → a + 1 + length ws ≤ length h → put (set h a w) (a + 1) ws ≡ put h a (w ∷ ws)
put_first h a w ws b =
    rw (add-one a) (put_sets (set h a w) (suc a) ws (simp length-set (omega arith)) ∙ sym (put_sets h a (w ∷ ws) (omega arith)))

-- the words from a up to e of h, left as ys
pub part_put : (h : List ℕ) (a e : ℕ) (ys : List ℕ) → a + length ys ≡ e → take a h ++ (ys ++ drop (e - a) (drop a h)) ≡ put h a ys
unfolding put
part_put h a e ys q =
    let r : a + (e - a) ≡ a + length ys = omega arith in
    sym (append_assoc (take a h) ys _) ∙ ap (λ t. (take a h ++ ys) ++ t) (drop-drop (e - a) a h ∙ ap (λ m. drop m h) r)

-- the words from a to the end, as they are lent
pub part_rest : (l : List ℕ) (a : ℕ) → take (length l - a) (drop a l) ≡ drop a l
part_rest l a = take_all (length l - a) (drop a l) (simp length-drop (omega arith))

pub zeros_rest : (l : List ℕ) (a : ℕ) → zeros (drop a l) ≡ zeros (take (length l - a) (drop a l))
zeros_rest l a = ap zeros (sym (part_rest l a))
