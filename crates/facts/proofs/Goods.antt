-- Good pointers as tests and as facts: the list of values has an address exactly when stepping comes to it.
use Prim.Native.Nat.{ℕ, suc, ◌+◌, ◌-◌, ◌*◌, ◌/◌, ◌^◌, ◌≤◌, ◌<◌}
use native.Mathlib.Omega.{arith}
use native.Mathlib.Decide.{dec_le}
use mathlib.Core.Path.{◌≡◌, refl}
use mathlib.Core.Logic.{◌≢◌}
use mathlib.Core.Bool.{true, false, false≢true}
use mathlib.Core.List.{List}
use lib.ListN.{length}
use lib.Seq.{length-slice}
use lib.Dec.{leb}
use borrow.Author.Tests.{leb-true, le-leb}
use Rattle.laws.specs.Lists.{at}
use Rattle.rules.specs.Memory.{page_count, body_words, origin}
use Rattle.rules.specs.Words.{Word, number, in_heap, in_const, word_of, page_vals, good_on, good_heap, good_const, good_in}
use Rattle.rules.specs.Audit.{const_field}
use Rattle.rules.specs.Refusals.{Paged}
use Rattle.rules.proofs.Limits.{paged_size, page_inside}
use Rattle.rules.proofs.Chains.{page_part}
use Rattle.rules.proofs.Good.{past_pages}
use Rattle.rules.proofs.Looks.{good_parts}
use Rattle.rules.proofs.Steps.{Holds, slice_holds, Listed, vals_listed, stands_from, stands_to, all_listed}
use Rattle.facts.proofs.Inside.{page_at}
use Rattle.facts.proofs.Sound.{InHeap, InConst, Good, a_number, to_heap, to_const, GoodConst, number_there, const_there}

-- ---- the words of a page

module _ (n : ℕ) (heap : List ℕ) (p : Paged n (length heap)) where
  pub page_ends : (k : ℕ) → k < page_count n heap → k * 2 ^ n + 2 ^ n ≤ length heap
  page_ends k b = (page_inside n (length heap) (2 ^ n) k refl p b).ends

  -- a word that is not 0 stands in a page
  pub page_there : (k i : ℕ) → i < 2 ^ n → at heap (k * 2 ^ n + i) ≢ 0 → k < page_count n heap
  page_there k i b ne = go (dec_le (page_count n heap) k)
    where
      go : Dec (page_count n heap ≤ k) → k < page_count n heap
      go (yes q) = absurd (ne (past_pages n heap k i p q))
      go (no f) = omega arith

  -- the words behind its descriptor, which end with the page
  pub body_holds : (k : ℕ) → k < page_count n heap → Holds heap (k * 2 ^ n + 2) (body_words n heap k)
  body_holds k b = rw (page_part n heap k) (slice_holds heap (k * 2 ^ n + 2) (k * 2 ^ n + 2 ^ n) (page_ends k b))

  pub body_ends : (k : ℕ) → k < page_count n heap → k * 2 ^ n + 2 + length (body_words n heap k) ≡ k * 2 ^ n + 2 ^ n
  body_ends k b =
      let z = paged_size n (length heap) p in
      rw (page_part n heap k) (omega (arith, length-slice (k * 2 ^ n + 2) (k * 2 ^ n + 2 ^ n) heap (page_ends k b)))

  -- the list of the values among them
  pub body_listed : (k : ℕ) → k < page_count n heap → Listed heap (k * 2 ^ n + 2 ^ n) (k * 2 ^ n + 2) (page_vals n heap k)
  unfolding page_vals
  body_listed k b = vals_listed heap (k * 2 ^ n + 2 ^ n) (k * 2 ^ n + 2) (body_words n heap k) (body_holds k b) (body_ends k b)

-- ---- the heap

module _ (n R : ℕ) (heap : List ℕ) (p : Paged n (length heap)) where
  pub in_heap_lem : (a : ℕ) → good_heap n R heap a ≡ true → InHeap n R heap a
  unfolding origin
  in_heap_lem a t =
      let k : ℕ = a / 2 ^ n in
      let g = good_parts n R heap a t in
      let lo : 1 ≤ at heap (k * 2 ^ n + 1) = leb-true _ _ g.0 in
      let hi : at heap (k * 2 ^ n + 1) ≤ R = leb-true _ _ g.1 in
      let z = paged_size n (length heap) p in
      let there : k < page_count n heap = page_there n heap p k 1 (omega arith) (λ (q : at heap (k * 2 ^ n + 1) ≡ 0). omega arith) in
      let f = stands_from heap (k * 2 ^ n + 2 ^ n) a (body_listed n heap p k there) g.2 in
      record {
        page = k;
        region = at heap (k * 2 ^ n + 1) - 1;
        len = f.0;
        there = there;
        known = omega arith;
        whose = omega arith;
        value = record { steps = f.1; stands = f.2 };
      }

  on_page : (a : ℕ) (g : InHeap n R heap a) → good_on n R heap g.page a ≡ true
  unfolding good_on origin
  on_page a g =
      let e₁ : leb 1 (suc g.region) ≡ true = le-leb 1 (suc g.region) (omega arith) in
      let e₂ : leb (suc g.region) R ≡ true = le-leb (suc g.region) R g.known in
      rw (g.whose, good_on, e₁, e₂) (stands_to heap (g.page * 2 ^ n + 2 ^ n) g.value.steps (body_listed n heap p g.page g.there) g.value.stands)

  pub heap_in : (a : ℕ) → InHeap n R heap a → good_heap n R heap a ≡ true
  unfolding good_heap
  heap_in a g = rw (page_at g.value) (on_page a g)

-- ---- the constants

pub in_const_lem : (consts : List ℕ) (a : ℕ) → good_const consts a ≡ true → InConst consts a
unfolding good_const
in_const_lem consts a t =
    let f = stands_from consts (length consts) a (all_listed consts) t in
    record { len = f.0; steps = f.1; stands = f.2 }

pub const_in : (consts : List ℕ) (a : ℕ) → InConst consts a → good_const consts a ≡ true
unfolding good_const
const_in consts a g = stands_to consts (length consts) g.steps (all_listed consts) g.stands

-- ---- words

module _ {n R : ℕ} {heap consts : List ℕ} (p : Paged n (length heap)) {w : ℕ} where
  pub good_of : good_in n R heap consts w ≡ true → Good n R heap consts w
  unfolding good_in
  good_of t = go (word_of w) refl
    where
      go : (x : Word) → word_of w ≡ x → Good n R heap consts w
      go number e = a_number e
      go (in_heap a) e = to_heap a e (in_heap_lem n R heap p a (rw (good_in, e) at t))
      go (in_const a) e = to_const a e (in_const_lem consts a (rw (good_in, e) at t))

  pub of_good : Good n R heap consts w → good_in n R heap consts w ≡ true
  unfolding good_in
  of_good (a_number e) = rw (good_in, e)
  of_good (to_heap a e g) = rw (good_in, e) (heap_in n R heap p a g)
  of_good (to_const a e g) = rw (good_in, e) (const_in consts a g)

module _ {consts : List ℕ} {w : ℕ} where
  pub const_of : const_field consts w ≡ true → GoodConst consts w
  unfolding const_field
  const_of t = go (word_of w) refl
    where
      go : (x : Word) → word_of w ≡ x → GoodConst consts w
      go number e = number_there e
      go (in_heap a) e = let z : false ≡ true = rw (const_field, e) at t in absurd (false≢true z)
      go (in_const a) e = const_there a e (in_const_lem consts a (rw (const_field, e) at t))

  pub of_const : GoodConst consts w → const_field consts w ≡ true
  unfolding const_field
  of_const (number_there e) = rw (const_field, e)
  of_const (const_there a e g) = rw (const_field, e) (const_in consts a g)
