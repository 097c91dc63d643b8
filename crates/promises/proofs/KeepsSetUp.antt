-- Setting up leaves a sound heap, from any words, if the constants keep rule 8: every page is free and linked to the next, no region is
-- there, and every root is a number.
use Prim.Native.Nat.{ℕ, zero, suc, ◌+◌, ◌-◌, ◌*◌, ◌/◌, ◌^◌, ◌≤◌, ◌<◌, zero-le}
use native.Mathlib.Nat.{add-zero, zero-add, zero-mul, eq-or-lt_of_le}
use native.Mathlib.Omega.{arith}
use mathlib.Core.Path.{◌≡◌, refl, sym, ap, ◌∙◌, subst}
use mathlib.Core.Logic.{◌≢◌, ◌⊎◌, inl, inr}
use mathlib.Core.Bool.{Bool, true, false}
use mathlib.Core.List.{List, [], ◌∷◌, Memᴰ}
use lib.ListN.{length, replicate, length-replicate, get_or-replicate, length-append, get_or-append}
use lib.Seq.{get_or-append-add}
use lib.Dec.{ltb}
use borrow.Author.Tests.{ltb-true, lt-ltb}
use Rattle.laws.specs.Lists.{at, last_or}
use Rattle.laws.proofs.Once.{counting, counting_length, in_counting, counting_in, counting_linked, Linked, linked_once}
use Rattle.rules.specs.Memory.{Store, lent, control, limits, page_count, link}
use Rattle.rules.specs.Audit.{last_link}
use Rattle.rules.specs.Pages.{begun}
use Rattle.rules.specs.Refusals.{Paged}
use Rattle.rules.specs.Calls.{fresh_pages}
use Rattle.rules.proofs.Limits.{paged_size, whole_pages, two_pages, within_same}
use Rattle.rules.proofs.Looks.{word_is_number}
use Rattle.rules.proofs.Fresh.{page_length}
use Rattle.facts.proofs.Laid.{spare≢mine, spare≢beyond, mine≢beyond, Owner, spare, beyond, mine, Clean, Layout}
use Rattle.facts.proofs.Means.{within_of}
use Rattle.facts.proofs.Sound.{Within, Good, a_number, Constants, in_free, Sound}

-- ---- the words of fresh pages

-- one page, with its link
abbrev one_page : ℕ → ℕ → List ℕ
one_page n l = l ∷ replicate (2 ^ n - 1) 0

module _ (n : ℕ) (big : 1 ≤ 2 ^ n) where
  page_zero : (l x : ℕ) → 0 < x → x < 2 ^ n → at (one_page n l) x ≡ 0
  page_zero l zero a b = absurd (omega arith)
  page_zero l (suc x) a b = get_or-replicate (2 ^ n - 1) x 0 0 (omega arith)

  -- m pages from page k on
  pub fresh_length : (m k : ℕ) → length (fresh_pages n m k) ≡ m * 2 ^ n
  unfolding fresh_pages
  fresh_length zero k = rw zero-mul
  fresh_length (suc zero) k = let a = page_length n 0 in omega arith
  fresh_length (suc (suc m)) k =
      length-append (one_page n (suc (suc k))) (fresh_pages n (suc m) (suc k))
      ∙ (let a = page_length n (suc (suc k)) in let b = fresh_length (suc m) (suc k) in omega arith)

  -- a word of page i, which is linked to the next, or to none if it is the last
  pub fresh_word : (m k i l x : ℕ) → i < m → (suc i < m → l ≡ suc (suc (k + i))) → (suc i ≡ m → l ≡ 0) → x < 2 ^ n
      → at (fresh_pages n m k) (i * 2 ^ n + x) ≡ at (one_page n l) x
  unfolding fresh_pages
  fresh_word zero k i l x b f g hi = absurd (omega arith)
  fresh_word (suc zero) k (suc i) l x b f g hi = absurd (omega arith)
  fresh_word (suc zero) k zero l x b f g hi = let q : 0 * 2 ^ n + x ≡ x = omega arith in rw q (ap (λ y. at (one_page n y) x) (sym (g refl)))
  fresh_word (suc (suc m)) k zero l x b f g hi =
      let q : 0 * 2 ^ n + x ≡ x = omega arith in
      let e : suc (suc k) ≡ l = ap (λ y. suc (suc y)) (sym (add-zero k)) ∙ sym (f (omega arith)) in
      let p = page_length n (suc (suc k)) in
      rw q (get_or-append (one_page n (suc (suc k))) (fresh_pages n (suc m) (suc k)) 0 x (omega arith) ∙ ap (λ y. at (one_page n y) x) e)
  fresh_word (suc (suc m)) k (suc i) l x b f g hi =
      let y : ℕ = i * 2 ^ n + x in
      let q : suc i * 2 ^ n + x ≡ length (one_page n (suc (suc k))) + y = (let p = page_length n (suc (suc k)) in omega arith) in
      rw q
      (get_or-append-add (one_page n (suc (suc k))) (fresh_pages n (suc m) (suc k)) y 0
      ∙ fresh_word (suc m) (suc k) i l x (omega arith) (λ c. let e = f (omega arith) in omega arith) (λ c. g (omega arith)) hi)

  -- behind its link it is all zero
  pub fresh_zero : (m k i x : ℕ) → i < m → 0 < x → x < 2 ^ n → at (fresh_pages n m k) (i * 2 ^ n + x) ≡ 0
  fresh_zero m k i x b lo hi = go (eq-or-lt_of_le {n = suc i} {m = m} b)
    where
      go : (suc i ≡ m) ⊎ (suc i < m) → at (fresh_pages n m k) (i * 2 ^ n + x) ≡ 0
      go (inl e) = fresh_word m k i 0 x b (λ c. absurd (omega arith)) (λ c. refl) hi ∙ page_zero 0 x lo hi
      go (inr c) = fresh_word m k i (suc (suc (k + i))) x b (λ c. refl) (λ e. absurd (omega arith)) hi ∙ page_zero (suc (suc (k + i))) x lo hi

-- ---- the last of the numbers from k on, as a link

counting_last : (m k : ℕ) → last_link (counting (suc m) k) ≡ suc (k + m)
unfolding counting last_link last_or
counting_last zero k = ap suc (sym (add-zero k))
counting_last (suc m) k = let e : suc (suc k + m) ≡ suc (k + suc m) = omega arith in counting_last m (suc k) ∙ e

-- ---- the store

-- what setting up leaves of a store of any words, with n
abbrev pub set_up_store : ℕ → Store → Store
set_up_store n s =
    lent (fresh_pages n (page_count n s.heap) 0) (replicate (length s.table) 0) (replicate (length s.roots) 1) s.consts
    (control n 0 1 (page_count n s.heap) (page_count n s.heap))

module _ (n : ℕ) (s : Store) (fits : limits n (length s.heap) (length s.table) (length s.roots) (length s.consts) ≡ true) (consts : Constants s.consts) where
  abbrev N : ℕ
  N = page_count n s.heap

  abbrev h : List ℕ
  h = fresh_pages n (page_count n s.heap) 0

  within : Within (lent s.heap s.table s.roots s.consts (control n 0 0 0 0))
  within = within_of (lent s.heap s.table s.roots s.consts (control n 0 0 0 0)) fits

  abbrev paged : Paged n (length s.heap)
  paged = within.paged

  size : (16 ≤ 2 ^ n) × (2 ^ n ≤ 256)
  size = paged_size n (length s.heap) paged

  big : 1 ≤ 2 ^ n
  big = let a = size in omega arith

  long : length h ≡ length s.heap
  long = fresh_length n big N 0 ∙ whole_pages n (length s.heap) paged

  some_pages : N ≡ suc (N - 1)
  some_pages = let a = two_pages n (length s.heap) paged within.two in omega arith

  own : ℕ → Owner
  own k = elim (ltb k N) [ true ↦ spare | false ↦ beyond ]

  own_there : (k : ℕ) → k < N → own k ≡ spare
  unfolding own
  own_there k b = rw (own, lt-ltb k N b)

  there : (k : ℕ) → own k ≢ beyond → k < N
  unfolding own
  there k ne = go (ltb k N) refl
    where
      go : (b : Bool) → ltb k N ≡ b → k < N
      go true e = ltb-true k N e
      go false e = absurd (ne (rw (own, e)))

  never : {A : Type 0} (k j : ℕ) → own k ≡ mine j → A
  never k j e = spare≢mine (own_there k (there k (λ q. mine≢beyond e q))) e

  free : List ℕ
  free = counting N 0

  in_free_there : (k : ℕ) → Memᴰ k free → k < N
  unfolding free
  in_free_there k m = let t = in_counting N 0 k m in let b = t.1 in omega arith

  linked : Linked (link n h) 1 free
  unfolding free link
  linked =
      subst (λ m. Linked (link n h) 1 (counting m 0)) (sym some_pages)
      (counting_linked (link n h) N next last (N - 1) 0 (let e = some_pages in omega arith))
    where
      next : (i : ℕ) → suc i < N → at h (i * 2 ^ n) ≡ suc (suc i)
      next i b = ap (at h) (sym (add-zero (i * 2 ^ n))) ∙ fresh_word n big N 0 i (suc (suc i)) 0 (omega arith) (λ c. omega arith) (λ e. absurd (omega arith)) big

      last : (i : ℕ) → suc i ≡ N → at h (i * 2 ^ n) ≡ 0
      last i e = ap (at h) (sym (add-zero (i * 2 ^ n))) ∙ fresh_word n big N 0 i 0 0 (omega arith) (λ c. absurd (omega arith)) (λ q. refl) big

  last_is : N ≡ last_link free
  unfolding free
  last_is =
      let q : N ≡ suc (0 + (N - 1)) = some_pages ∙ ap suc (sym (zero-add (N - 1))) in
      q ∙ sym (counting_last (N - 1) 0) ∙ ap (λ m. last_link (counting m 0)) (sym some_pages)

  cleans : (k : ℕ) → k < N → Clean n h k
  cleans k b =
      record {
        rest = λ x p q.
            let e : x ≡ k * 2 ^ n + (x - k * 2 ^ n) = omega arith in
            ap (at h) e ∙ fresh_zero n big N 0 k (x - k * 2 ^ n) b (omega arith) (omega arith);
      }

  laid : Layout n N 0 own (λ k. 0) (λ j. []) free (begun (set_up_store n s))
  unfolding free
  laid =
      record {
        size = fresh_length n big N 0;
        big = size.0;
        rows = zero-le;
        known = there;
        free_own = λ k m. own_there k (in_free_there k m);
        free_once = linked_once linked;
        free_links = linked;
        free_last_lem = last_is;
        free_count = sym (counting_length N 0);
        free_clean = λ k o. cleans k (there k (spare≢beyond o));
        mine_own = λ j k b m. absurd (omega arith);
        mine_once = λ j b. absurd (omega arith);
        mine_links = λ j b. absurd (omega arith);
        mine_body = λ j k o. never k j o;
        mine_top = λ j b. absurd (omega arith);
      }

  abbrev ones : List ℕ
  ones = replicate (length s.roots) 1

  root : (i : ℕ) → i < length ones → Good n 0 h s.consts (at ones i)
  root i b =
      let e = length-replicate {A = ℕ} (length s.roots) 1 in
      rw (get_or-replicate {A = ℕ} (length s.roots) i 1 0 (omega arith)) (a_number (word_is_number 1 refl))

  pub set_up_sound : Sound (set_up_store n s)
  unfolding free
  set_up_sound =
      let p : page_count n h ≡ N = ap (λ x. x / 2 ^ n) long in
      record {
        within = within_same long (length-replicate (length s.table) 0) (length-replicate {A = ℕ} (length s.roots) 1) refl within;
        own = own;
        fin = λ k. 0;
        pages = λ j. [];
        free = free;
        regions = zero-le;
        past = λ x a b. let t = within.table in get_or-replicate (length s.table) x 0 0 (omega arith);
        idle = λ j b. absurd (omega arith);
        laid = rw p laid;
        chained = λ k b. let b' : k < N = rw p at b in in_free (own_there k b') (counting_in N 0 k zero-le (omega arith));
        fields = λ j k a l i b m v r q. absurd (omega arith);
        roots = root;
        consts = consts;
      }
