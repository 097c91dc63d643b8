-- Clearing and taking pages and placing values, as the code does it: each law says what a definition comes to once the tests before it are known.
-- With these known, the definition computes.
use Rattle.std.specs.Prelude.{Ok}
use Prim.Native.Nat.{ℕ, zero, suc, ◌+◌, ◌-◌, ◌*◌, ◌^◌, ◌≤◌, ◌<◌}
use mathlib.Core.Path.{◌≡◌, refl, sym, ap, ◌∙◌}
use mathlib.Core.Bool.{true, false}
use mathlib.Core.Option.{none, some}
use mathlib.Core.List.{List, [], ◌++◌}
use native.Mathlib.Omega.{arith}
use native.Mathlib.Numerals.{sub-one}
use borrow.Author.Tests.{le-leb, lt-leb, eq-eqb, ne_eqb}
use lib.ListN.{length, length-take, take, drop, replicate, set, length-set, length-replicate}
use lib.Seq.{get_or-set_same}
use Rattle.laws.specs.Lists.{at, put}
use Rattle.laws.proofs.Lists.{part_length}
use Rattle.laws.proofs.Parts.{part_put}
use Rattle.rules.specs.declared.Refusal.{Refusal}
use Rattle.rules.specs.Memory.{Store, control, page_link, page_end, body_address, page_words, link, set_link, origin, set_origin, row, end_of, top_of, set_end, set_top}
use Rattle.rules.specs.Words.{address_pointer}
use Rattle.rules.specs.Refusals.{Paged, outcome, refused}
use Rattle.rules.proofs.Limits.{paged_size}
use Rattle.rules.specs.Pages.{Run, begun, with_free, last_if, link_fits, take_page, clear_page, join, room, store, place}
use Rattle.rules.specs.Calls.{allocate_on, allocate_in}

-- the words that stand before the values of page k, which starts at a
pub link_at : (n k a w : ℕ) (h : List ℕ) → a ≡ k * 2 ^ n → w ≡ at h a → w ≡ link n h k
unfolding link
link_at n k a w h e q = rw (← e) q

pub origin_at : (n k a w : ℕ) (h : List ℕ) → a ≡ k * 2 ^ n → w ≡ at h (a + 1) → w ≡ origin n h k
unfolding origin
origin_at n k a w h e q = rw (← e) q

-- page k, of p words from a on, is handed back
pub page_handed : (n : ℕ) (h : List ℕ) (k a p : ℕ) → a ≡ k * 2 ^ n → p ≡ 2 ^ n → take (a + p - a) (drop a h) ≡ page_words n h k
unfolding page_words
page_handed n h k a p qa qp =
    let s : a + p - a ≡ 2 ^ n = omega arith in
    ap (λ m. take m (drop a h)) s ∙ ap (λ x. take (2 ^ n) (drop x h)) qa

-- p words from a on are few
pub page_short : (n h a p : ℕ) (l : List ℕ) → Paged n h → p ≡ 2 ^ n → length (take (a + p - a) l) ≤ 256
page_short n h a p l g e = let z = paged_size n h g in simp length-take (omega arith)

-- page k, of p words from a on, is lent whole, and its words are left as ys
module _ (n : ℕ) (h : List ℕ) (k a p : ℕ) (qa : a ≡ k * 2 ^ n) (qp : p ≡ 2 ^ n) (b : k * 2 ^ n + 2 ^ n ≤ length h) where
  pub page_lent : length (take (a + p - a) (drop a h)) ≡ 2 ^ n
  page_lent = let s : a + p - a ≡ 2 ^ n = omega arith in part_length h a (a + p - a) (omega arith) ∙ s

  pub page_left : (ys : List ℕ) → length ys ≡ 2 ^ n → take a h ++ (ys ++ drop (a + p - a) (drop a h)) ≡ put h (k * 2 ^ n) ys
  page_left ys l = part_put h a (a + p) ys (omega arith) ∙ ap (λ x. put h x ys) qa

pub page_cleared : (n : ℕ) (h : List ℕ) (k a p : ℕ) (ys : List ℕ) → a ≡ k * 2 ^ n → p ≡ 2 ^ n → k * 2 ^ n + 2 ^ n ≤ length h
    → ys ≡ replicate (length (take (a + p - a) (drop a h))) 0 → take a h ++ (ys ++ drop (a + p - a) (drop a h)) ≡ clear_page n h k
unfolding clear_page
page_cleared n h k a p ys qa qp b z =
    let y : ys ≡ replicate (2 ^ n) 0 = z ∙ ap (λ i. replicate i 0) (page_lent n h k a p qa qp b) in
    page_left n h k a p qa qp b ys (ap length y ∙ length-replicate (2 ^ n) 0) ∙ ap (put h (k * 2 ^ n)) y

-- free last after a page is taken
pub last_none : (m l : ℕ) → m ≡ 1 → last_if (m - 1) l ≡ 0
last_none m l e = rw e

pub last_stays : (m l : ℕ) → 0 < m → (m ≡ 1 → ⊥) → last_if (m - 1) l ≡ l
last_stays zero l b ne = absurd (omega arith)
last_stays (suc zero) l b ne = absurd (ne refl)
last_stays (suc (suc m)) l b ne = rw (sub-one (suc (suc m)))

-- ---- a page taken

-- the run after page k is taken
unfoldable pub taken : ℕ → ℕ → ℕ → Run → Run
taken n j k r =
    with_free r (set_origin n (set_link n r.heap k 0) k (suc j)) (link n r.heap k) (last_if (r.count - 1) r.last) (r.count - 1)

pub takes : (n j k : ℕ) (r : Run) → r.first ≡ suc k → take_page n j r ≡ some (k, taken n j k r)
unfolding take_page taken
takes n j k r e = rw (e, take_page)

-- the table is as it was, and the heap as long
pub taken_table : (n j k : ℕ) (r : Run) → (taken n j k r).table ≡ r.table
unfolding taken
taken_table n j k r = refl

pub taken_long : (n j k : ℕ) (r : Run) → length (taken n j k r).heap ≡ length r.heap
unfolding taken
taken_long n j k r = length-set (set r.heap (k * 2 ^ n) 0) (k * 2 ^ n + 1) (suc j) ∙ length-set r.heap (k * 2 ^ n) 0

pub takes_none : (n j : ℕ) (r : Run) → r.first ≡ 0 → take_page n j r ≡ none
unfolding take_page
takes_none n j r e = rw (e, take_page)

-- ---- the allocation rule

module _ (n j : ℕ) (r : Run) where
  -- it fits before e
  pub place_here : (v : List ℕ) → top_of r.table j + length v ≤ end_of r.table j → place n j v r ≡ some (top_of r.table j, store n j v r)
  unfolding place room
  place_here v b = rw (le-leb _ _ b, place, room)

  -- it does not, and a page is taken
  pub place_grown : (v : List ℕ) (k : ℕ) (r₁ : Run) → end_of r.table j < top_of r.table j + length v → take_page n j r ≡ some (k, r₁)
      → place n j v r ≡ some (top_of (join n j k r₁).table j, store n j v (join n j k r₁))
  unfolding place room
  place_grown v k r₁ b e = rw (lt-leb _ _ b, e, place, room)

-- region j's a after a page has joined it
pub top_joined : (table : List ℕ) (j e a : ℕ) → length table ≡ 256 → j < 64 → top_of (set_top (set_end table j e) j a) j ≡ a
top_joined table j e a q b = get_or-set_same (set_end table j e) (row j + 2) a 0 (simp length-set (omega arith))

module _ (s : Store) (j : ℕ) (v : List ℕ) where
  pub value_here : top_of s.table j + length v ≤ end_of s.table j
      → allocate_in s j v
      ≡ outcome
      (Ok (address_pointer (top_of s.table j), s.ctl))
      (put s.heap (top_of s.table j) v)
      (set_top s.table j (top_of s.table j + length v))
      s.roots
      s.consts
  unfolding allocate_in allocate_on store
  value_here b = rw (le-leb _ _ b, place_here s.ctl.n j (begun s) v b)

  -- a page is wanted
  module _ (b : end_of s.table j < top_of s.table j + length v) where
    pub value_no_page : s.ctl.count ≡ 0 → allocate_in s j v ≡ refused s Refusal.NoPage
    unfolding allocate_in
    value_no_page z = rw (lt-leb _ _ b, eq-eqb _ _ z)

    pub value_broken : (s.ctl.count ≡ 0 → ⊥) → link_fits s.ctl.n s.heap (s.ctl.first - 1) s.ctl.count ≡ false → allocate_in s j v ≡ refused s (Refusal.Broken 0)
    unfolding allocate_in
    value_broken z f = rw (lt-leb _ _ b, ne_eqb _ _ z, f)

    -- page k is taken, h is the heap after that and f, l, m the free list
    pub value_grown : (k : ℕ) (h : List ℕ) (f l m : ℕ) → (s.ctl.count ≡ 0 → ⊥) → link_fits s.ctl.n s.heap (s.ctl.first - 1) s.ctl.count ≡ true
        → some (k, record { heap = h; table = s.table; first = f; last = l; count = m; stack = [] }) ≡ take_page s.ctl.n j (begun s)
        → length s.table ≡ 256
        → j < 64
        → allocate_in s j v
        ≡ outcome
        (Ok (address_pointer (body_address s.ctl.n k), (control s.ctl.n s.ctl.regions f l m)))
        (put (set h (end_of s.table j - 2 ^ s.ctl.n) (page_link k)) (body_address s.ctl.n k) v)
        (set_top (set_top (set_end s.table j (page_end s.ctl.n k)) j (body_address s.ctl.n k)) j (body_address s.ctl.n k + length v))
        s.roots
        s.consts
    unfolding allocate_in allocate_on store join
    value_grown k h f l m z t e q w =
        rw (lt-leb _ _ b, ne_eqb _ _ z, t, place_grown s.ctl.n j (begun s) v k _ b (sym e), top_joined s.table j (page_end s.ctl.n k) (body_address s.ctl.n k) q w)
