-- Listing the pages of a cleared heap in rising order, one link at a time: what is linked so far, with the fresh pages from page k on, is
-- the whole fresh heap, and the words from page k on are still all 0.
use Prim.Native.Nat.{ℕ, zero, suc, ◌+◌, ◌-◌, ◌*◌, ◌^◌, ◌≤◌, ◌<◌}
use mathlib.Core.Path.{◌≡◌, sym, ap, ◌∙◌}
use mathlib.Core.List.{List, ◌∷◌, ◌++◌, append_assoc}
use native.Mathlib.Omega.{arith}
use native.Mathlib.Nat.{add-zero, zero-mul, suc-mul, one-mul}
use native.Mathlib.Numerals.{add-one}
use lib.Pow.{suc_ones}
use lib.ListN.{length, take, drop, replicate, set, length-replicate, replicate-append-replicate, take-append-drop}
use lib.Seq.{take-add, drop-drop, take-set-le, drop-set-add, take_at, drop_at}
use Rattle.rules.specs.Calls.{fresh_pages}

-- pages below k are linked; k and `left` pages after it are not
pub record Linked (n pages k left : ℕ) (h : List ℕ) : Type 0 where
  pub whole : fresh_pages n pages 0 ≡ take (k * 2 ^ n) h ++ fresh_pages n (suc left) k
  pub rest : drop (k * 2 ^ n) h ≡ replicate (suc left * 2 ^ n) 0
  pub counted : k + suc left ≡ pages

pub linked_start : (n pages : ℕ) (h : List ℕ) → 0 < pages → length h ≡ pages * 2 ^ n → h ≡ replicate (length h) 0 → Linked n pages 0 (pages - 1) h
linked_start n pages h b e z =
    let q : suc (pages - 1) ≡ pages = omega arith in
    record { whole = rw (q, zero-mul); rest = rw (q, ← e, zero-mul) z; counted = omega arith }

-- a page's link and its zeros
pub page_length : (n w : ℕ) → length (w ∷ replicate (2 ^ n - 1) 0) ≡ 2 ^ n
page_length n w = ap suc (length-replicate (2 ^ n - 1) 0) ∙ suc_ones n

-- the words from a page on, with the page's link set
one_page_lem : (n r w : ℕ) → set (replicate (2 ^ n + r) 0) 0 w ≡ (w ∷ replicate (2 ^ n - 1) 0) ++ replicate r 0
one_page_lem n r w =
    ap (λ ws. set ws 0 w) (sym (replicate-append-replicate (2 ^ n) r 0) ∙ ap (λ m. replicate m 0 ++ replicate r 0) (sym (suc_ones n)))

pub linked_more : (n pages k left : ℕ) (h : List ℕ) (a w : ℕ) → Linked n pages k left h → 0 < left → a ≡ k * 2 ^ n → w ≡ suc (k + 1)
    → Linked n pages (k + 1) (left - 1) (set h a w)
unfolding fresh_pages
linked_more n pages k zero h a w l b qa qw = absurd (omega arith)
linked_more n pages k (suc m) h a w l b qa qw =
    let p : ℕ = 2 ^ n in
    let fewer : m ≡ suc m - 1 = omega arith in
    let up : suc k ≡ k + 1 = omega arith in
    let next : (k + 1) * p ≡ k * p + p = rw add-one (suc-mul k p) in
    let here : set h a w ≡ set h (k * p + 0) w = ap (λ x. set h x w) (qa ∙ sym (add-zero (k * p))) in
    let rest : drop (k * p) (set h a w) ≡ (w ∷ replicate (p - 1) 0) ++ replicate (suc m * p) 0 =
    ap (drop (k * p)) here
    ∙ drop-set-add (k * p) h 0 w
    ∙ ap (λ ws. set ws 0 w) (l.rest ∙ ap (λ x. replicate x 0) (more m p))
    ∙ one_page_lem n (suc m * p) w in
    let size : length (w ∷ replicate (p - 1) 0) ≡ p = page_length n w in
    let front : take ((k + 1) * p) (set h a w) ≡ take (k * p) h ++ (w ∷ replicate (p - 1) 0) =
    ap (λ x. take x (set h a w)) next
    ∙ take-add (k * p) p (set h a w)
    ∙ ap (λ ws. ws ++ take p (drop (k * p) (set h a w))) (ap (λ x. take (k * p) (set h x w)) qa ∙ take-set-le (k * p) h (k * p) w (omega arith))
    ∙ ap (λ ws. take (k * p) h ++ ws) (ap (take p) rest ∙ take_at (w ∷ replicate (p - 1) 0) _ p size) in
    record {
      whole =
          l.whole
          ∙ ap (λ x. take (k * p) h ++ (x ∷ replicate (p - 1) 0 ++ fresh_pages n (suc m) (suc k))) (link k w qw)
          ∙ sym (append_assoc (take (k * p) h) (w ∷ replicate (p - 1) 0) _)
          ∙ ap (λ ws. ws ++ fresh_pages n (suc m) (suc k)) (sym front)
          ∙ ap (λ x. take ((k + 1) * p) (set h a w) ++ fresh_pages n (suc x) (suc k)) fewer
          ∙ ap (λ x. take ((k + 1) * p) (set h a w) ++ fresh_pages n (suc (suc m - 1)) x) up;
      rest =
          ap (λ x. drop x (set h a w)) next
          ∙ sym (drop-drop p (k * p) (set h a w))
          ∙ ap (drop p) rest
          ∙ drop_at (w ∷ replicate (p - 1) 0) _ p size
          ∙ ap (λ x. replicate (suc x * p) 0) fewer;
      counted = let c = l.counted in omega arith;
    }
  where
    more : (m p : ℕ) → suc (suc m) * p ≡ p + suc m * p
    more m p = suc-mul (suc m) p ∙ omega arith

    link : (k w : ℕ) → w ≡ suc (k + 1) → suc (suc k) ≡ w
    link k w q = omega arith

pub linked_end : (n pages k left : ℕ) (h : List ℕ) → Linked n pages k left h → left ≤ 0 → h ≡ fresh_pages n pages 0
unfolding fresh_pages
linked_end n pages k (suc m) h l b = absurd (omega arith)
linked_end n pages k zero h l b =
    sym (take-append-drop (k * 2 ^ n) h)
    ∙ ap (λ ws. take (k * 2 ^ n) h ++ ws) (l.rest ∙ ap (λ x. replicate x 0) (one-mul (2 ^ n) ∙ sym (suc_ones n)))
    ∙ sym l.whole
