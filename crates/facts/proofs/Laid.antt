-- How a heap under collection is laid out: whose each page is, and what stands in it. Every fact is about single words. A chain's pages are pages
-- of the heap and each stands once, so they are at most N.
use Prim.Native.Nat.{ℕ, suc, ◌+◌, ◌-◌, ◌*◌, ◌^◌, ◌≤◌, ◌<◌}
use native.Mathlib.Nat.{le_refl, mul-le-mul_right}
use native.Mathlib.Omega.{arith}
use native.Mathlib.Decide.{ℕ_discrete}
use mathlib.Core.Path.{◌≡◌, refl, sym, ap, ◌∙◌, subst}
use mathlib.Core.Logic.{◌≢◌}
use mathlib.Core.Bool.{Bool, true, false, false≢true}
use mathlib.Core.Option.{some}
use mathlib.Core.List.{List, [], ◌∷◌, Memᴰ}
use lib.ListN.{length, set, take, drop}
use lib.Seq.{get_or-set_other}
use lib.Dec.{eqb}
use borrow.Author.Tests.{eqb-true, eqb-false}
use Rattle.rules.specs.Words.{head_of, length_by}
use Rattle.rules.specs.Memory.{link, end_of, first_of, top_of}
use Rattle.laws.specs.Lists.{at}
use Rattle.rules.specs.Audit.{last_link}
use Rattle.rules.specs.Pages.{Scan, Run, with_heap, with_table, with_stack}
use Rattle.laws.proofs.Lists.{part_length, one_part, starts_differ, begins_none}
use Rattle.laws.proofs.Once.{Once, Last, last_in, Linked, linked_same}
use Rattle.laws.proofs.Once.{once_most, linked_none, linked_first}
use Rattle.rules.proofs.Steps.{PageSteps, OnPage, steps_le, steps_same}

-- ---- a function changed at one place
module _ {A : Type 0} where
  unfoldable pub upd : (ℕ → A) → ℕ → A → ℕ → A
  upd f k a x = elim (eqb x k) [ true ↦ a | false ↦ f x ]

  pub upd_same : (f : ℕ → A) (k : ℕ) (a : A) (x : ℕ) → x ≡ k → upd f k a x ≡ a
  unfolding upd
  upd_same f k a x e = go (eqb x k) refl
    where
      go : (b : Bool) → eqb x k ≡ b → upd f k a x ≡ a
      go true q = rw (q, upd)
      go false q = absurd (eqb-false x k q e)

  pub upd_other : (f : ℕ → A) (k : ℕ) (a : A) (x : ℕ) → x ≢ k → upd f k a x ≡ f x
  unfolding upd
  upd_other f k a x ne = go (eqb x k) refl
    where
      go : (b : Bool) → eqb x k ≡ b → upd f k a x ≡ f x
      go true q = absurd (ne (eqb-true x k q))
      go false q = rw (q, upd)

  -- what is not the change was so before
  pub upd_back : (f : ℕ → A) (k : ℕ) (a : A) (x : ℕ) (b : A) → b ≢ a → upd f k a x ≡ b → f x ≡ b
  upd_back f k a x b ne e = sym (upd_other f k a x (λ q. ne (sym e ∙ upd_same f k a x q))) ∙ e

-- ---- pages
pub data Owner : Type 0 where
  old spare beyond : Owner
  mine : ℕ → Owner

pub mine_inj : {i j : ℕ} → mine i ≡ mine j → i ≡ j
mine_inj e = cc

-- two owners
pub old≢spare : {A : Type 0} {o : Owner} → o ≡ old → o ≡ spare → A
old≢spare p q = absurd (false≢true cc)

pub old≢mine : {A : Type 0} {o : Owner} {j : ℕ} → o ≡ old → o ≡ mine j → A
old≢mine p q = absurd (false≢true cc)

pub old≢beyond : {A : Type 0} {o : Owner} → o ≡ old → o ≡ beyond → A
old≢beyond p q = absurd (false≢true cc)

pub spare≢mine : {A : Type 0} {o : Owner} {j : ℕ} → o ≡ spare → o ≡ mine j → A
spare≢mine p q = absurd (false≢true cc)

pub spare≢beyond : {A : Type 0} {o : Owner} → o ≡ spare → o ≡ beyond → A
spare≢beyond p q = absurd (false≢true cc)

pub mine≢beyond : {A : Type 0} {o : Owner} {j : ℕ} → o ≡ mine j → o ≡ beyond → A
mine≢beyond p q = absurd (false≢true cc)

-- a page has one owner
pub old_mine_apart : (own : ℕ → Owner) {k l j : ℕ} → own k ≡ old → own l ≡ mine j → k ≢ l
old_mine_apart own o m e = old≢mine o (ap own e ∙ m)

-- page k of region j: its values end at f, and then zeros
pub record Body (n : ℕ) (h : List ℕ) (k j f : ℕ) : Type 0 where
  pub whose : at h (k * 2 ^ n + 1) ≡ suc j
  pub filled : PageSteps n h k f
  pub inside : f ≤ k * 2 ^ n + 2 ^ n
  pub rest : (x : ℕ) → f ≤ x → x < k * 2 ^ n + 2 ^ n → at h x ≡ 0

-- page k is all zero but its link
pub record Clean (n : ℕ) (h : List ℕ) (k : ℕ) : Type 0 where
  pub rest : (x : ℕ) → k * 2 ^ n < x → x < k * 2 ^ n + 2 ^ n → at h x ≡ 0

-- two heaps have the same words in page k behind its link
pub record Like (n : ℕ) (g h : List ℕ) (k : ℕ) : Type 0 where
  pub word : (x : ℕ) → k * 2 ^ n < x → x < k * 2 ^ n + 2 ^ n → at g x ≡ at h x

pub like_itself : {n : ℕ} {g : List ℕ} {k : ℕ} → Like n g g k
like_itself = record { word = λ x p q. refl }

pub like_then : {n : ℕ} {f g h : List ℕ} {k : ℕ} → Like n f g k → Like n g h k → Like n f h k
like_then a b = record { word = λ x p q. a.word x p q ∙ b.word x p q }

-- a page that keeps its words keeps them behind its link, and its link
module _ (n : ℕ) (g h : List ℕ) (k : ℕ) (same : (x : ℕ) → k * 2 ^ n ≤ x → x < k * 2 ^ n + 2 ^ n → at h x ≡ at g x) where
  pub like_kept : Like n g h k
  like_kept = record { word = λ x p q. sym (same x (omega arith) q) }

  pub link_kept : 16 ≤ 2 ^ n → link n g k ≡ link n h k
  unfolding link
  link_kept big = sym (same (k * 2 ^ n) (le_refl _) (omega arith))

pub body_like : {n : ℕ} {g h : List ℕ} {k j f : ℕ} → 2 ≤ 2 ^ n → Like n g h k → Body n g k j f → Body n h k j f
body_like {n} {g} {h} {k} {j} {f} big like b =
    let lo = steps_le b.filled in
    let hi = b.inside in
    record {
      whose = sym (like.word (k * 2 ^ n + 1) (omega arith) (omega arith)) ∙ b.whose;
      filled = steps_same (λ x p q. like.word x (omega arith) (omega arith)) b.filled;
      inside = b.inside;
      rest = λ x p q. sym (like.word x (omega arith) q) ∙ b.rest x p q;
    }

pub clean_like : {n : ℕ} {g h : List ℕ} {k : ℕ} → Like n g h k → Clean n g k → Clean n h k
clean_like like c = record { rest = λ x p q. sym (like.word x p q) ∙ c.rest x p q }

-- a link set: no other word of any page
pub like_relinked : (n : ℕ) (h : List ℕ) (z v l : ℕ) → Like n h (set h (z * 2 ^ n) v) l
like_relinked n h z v l = record { word = λ x p q. sym (get_or-set_other h (z * 2 ^ n) x v 0 (begins_none (2 ^ n) l z x p q)) }

-- and no other link
pub link_relinked : (n : ℕ) (h : List ℕ) (z v l : ℕ) → 0 < 2 ^ n → l ≢ z → link n h l ≡ link n (set h (z * 2 ^ n) v) l
unfolding link
link_relinked n h z v l p ne = sym (get_or-set_other h (z * 2 ^ n) (l * 2 ^ n) v 0 (starts_differ (2 ^ n) l z p ne))

-- ---- a region's row

-- its fp is the address of the page that opens the chain ks
pub record RowFirst (n : ℕ) (t h : List ℕ) (j : ℕ) (ks : List ℕ) : Type 0 where
  pub page : ℕ
  pub first : first_of t j ≡ page * 2 ^ n
  pub links : Linked (link n h) (suc page) ks

-- its e is the end of the chain's last page, and its a the end of that page's values
pub record RowLast (n : ℕ) (t : List ℕ) (fin : ℕ → ℕ) (j : ℕ) (ks : List ℕ) : Type 0 where
  pub page : ℕ
  pub last : Last ks page
  pub end : end_of t j ≡ page * 2 ^ n + 2 ^ n
  pub top : top_of t j ≡ fin page

-- the same words, links and ends
pub first_same : {n : ℕ} {t t' h h' : List ℕ} {j : ℕ} {ks : List ℕ} → first_of t' j ≡ first_of t j → ((k : ℕ) → Memᴰ k ks → link n h k ≡ link n h' k) → RowFirst n t h j ks → RowFirst n t' h' j ks
first_same e same F = record { page = F.page; first = e ∙ F.first; links = linked_same same F.links }

pub last_same : {n : ℕ} {t t' : List ℕ} {fin fin' : ℕ → ℕ} {j : ℕ} {ks : List ℕ} → end_of t' j ≡ end_of t j → top_of t' j ≡ top_of t j → ((k : ℕ) → Memᴰ k ks → fin k ≡ fin' k)
    → RowLast n t fin j ks → RowLast n t' fin' j ks
last_same e a same F = record { page = F.page; last = F.last; end = e ∙ F.end; top = a ∙ F.top ∙ same F.page (last_in F.last) }

-- ---- the whole
pub record Layout (n N R : ℕ) (own : ℕ → Owner) (fin : ℕ → ℕ) (pages : ℕ → List ℕ) (free : List ℕ) (r : Run) : Type 0 where
  pub size : length r.heap ≡ N * 2 ^ n
  pub big : 16 ≤ 2 ^ n
  pub rows : 4 * R ≤ length r.table
  pub known : (k : ℕ) → own k ≢ beyond → k < N
  -- the free list
  pub free_own : (k : ℕ) → Memᴰ k free → own k ≡ spare
  pub free_once : Once free
  pub free_links : Linked (link (n) r.heap) r.first free
  pub free_last_lem : r.last ≡ last_link free
  pub free_count : r.count ≡ length free
  pub free_clean : (k : ℕ) → own k ≡ spare → Clean (n) r.heap k
  -- the regions' new pages
  pub mine_own : (j k : ℕ) → j < R → Memᴰ k (pages j) → own k ≡ mine j
  pub mine_once : (j : ℕ) → j < R → Once (pages j)
  pub mine_links : (j : ℕ) → j < R → RowFirst n r.table r.heap j (pages j)
  pub mine_body : (j k : ℕ) → own k ≡ mine j → Body (n) r.heap k j (fin k)
  pub mine_top : (j : ℕ) → j < R → RowLast n r.table fin j (pages j)

-- the first page of the free list is nobody's
pub first_spare : {n N R : ℕ} {own : ℕ → Owner} {fin : ℕ → ℕ} {pages : ℕ → List ℕ} {k : ℕ} {ks : List ℕ} {r : Run} → Layout n N R own fin pages (k ∷ ks) r → own k ≡ spare
first_spare {k = k} L = L.free_own k (Memᴰ.head refl)

module _ {n N R : ℕ} {own : ℕ → Owner} {fin : ℕ → ℕ} {pages : ℕ → List ℕ} {free : List ℕ} {r : Run} (L : Layout n N R own fin pages free r) where
  -- where the free list begins
  pub first_none : free ≡ [] → r.first ≡ 0
  first_none e = linked_none (subst (λ ks. Linked (link n r.heap) r.first ks) e L.free_links)

  pub first_is : {k : ℕ} {ks : List ℕ} → free ≡ k ∷ ks → r.first ≡ suc k
  first_is e = (linked_first (subst (λ ks. Linked (link n r.heap) r.first ks) e L.free_links)).0

  -- a page that is somebody's lies in the heap
  pub page_in : (k : ℕ) → own k ≢ beyond → k * 2 ^ n + 2 ^ n ≤ length r.heap
  page_in k ne = let s = L.size in let p = mul-le-mul_right (2 ^ n) (L.known k ne) in omega arith

  -- and a value there has all its words
  pub words_in : {h : List ℕ} {k a l : ℕ} → own k ≢ beyond → OnPage n h k a l → length (take (suc l) (drop a r.heap)) ≡ suc l
  words_in {k = k} {a} {l} ne v = let p = page_in k ne in let e = v.stands.ends in part_length r.heap a (suc l) (omega arith)

  -- the pages of a chain are the heap's, and no more than those
  pub chain_known : (j : ℕ) → j < R → (k : ℕ) → Memᴰ k (pages j) → k < N
  chain_known j b k m = L.known k (mine≢beyond (L.mine_own j k b m))

  pub chain_few : (j : ℕ) → j < R → length (pages j) ≤ N
  chain_few j b = once_most N (chain_known j b) (L.mine_once j b)

  pub free_known : (k : ℕ) → Memᴰ k free → k < N
  free_known k m = L.known k (spare≢beyond (L.free_own k m))

  pub free_few : length free ≤ N
  free_few = once_most N free_known L.free_once

  -- a free page has no origin
  pub spare_origin : (k : ℕ) → own k ≡ spare → at r.heap (k * 2 ^ n + 1) ≡ 0
  spare_origin k o = let b = L.big in (L.free_clean k o).rest (k * 2 ^ n + 1) (omega arith) (omega arith)

  -- a page given to another is one of the heap's still
  pub upd_known : (k : ℕ) (o : Owner) → own k ≢ beyond → (l : ℕ) → upd own k o l ≢ beyond → l < N
  upd_known k o ne l f = go (ℕ_discrete l k)
    where
      go : Dec (l ≡ k) → l < N
      go (yes e) = L.known l (λ q. ne (ap own (sym e) ∙ q))
      go (no g) = L.known l (λ q. f (upd_other own k o l g ∙ q))

  -- a page that is no region's is in no chain
  pub chain_apart : {k : ℕ} → ((i : ℕ) → own k ≢ mine i) → (i l : ℕ) → i < R → Memᴰ l (pages i) → l ≢ k
  chain_apart ne i l b m e = ne i (ap own (sym e) ∙ L.mine_own i l b m)

  -- what stands in a page of region j's chain
  pub chain_body : (j k : ℕ) → j < R → Memᴰ k (pages j) → Body n r.heap k j (fin k)
  chain_body j k b m = L.mine_body j k (L.mine_own j k b m)

  -- the last page of region j's chain: a lies behind its descriptor and not behind e, and what ends by e ends in the heap
  module _ (j : ℕ) (j_r : j < R) where
    pub last_own : own (L.mine_top j j_r).page ≡ mine j
    last_own = L.mine_own j (L.mine_top j j_r).page j_r (last_in (L.mine_top j j_r).last)

    pub last_start : end_of r.table j - 2 ^ n ≡ (L.mine_top j j_r).page * 2 ^ n
    last_start = let e = (L.mine_top j j_r).end in omega arith

    pub last_in_heap : (L.mine_top j j_r).page * 2 ^ n + 2 ^ n ≤ length r.heap
    last_in_heap = page_in (L.mine_top j j_r).page (mine≢beyond last_own)

    pub last_low : (L.mine_top j j_r).page * 2 ^ n + 2 ≤ top_of r.table j
    last_low = let b = steps_le (L.mine_body j (L.mine_top j j_r).page last_own).filled in let a = (L.mine_top j j_r).top in omega arith

    pub last_high : top_of r.table j ≤ (L.mine_top j j_r).page * 2 ^ n + 2 ^ n
    last_high = let b = (L.mine_body j (L.mine_top j j_r).page last_own).inside in let a = (L.mine_top j j_r).top in omega arith

    -- no other page has a value that begins or ends at a
    pub not_top : (k t : ℕ) → k * 2 ^ n + 2 ≤ t → t ≤ k * 2 ^ n + 2 ^ n → k ≢ (L.mine_top j j_r).page → t ≢ top_of r.table j
    not_top k t p q ne e =
        let lo = last_low in
        let hi = last_high in
        one_part (2 ^ n) k (L.mine_top j j_r).page (t - 1) ne (omega arith) (omega arith) (omega arith) (omega arith)

    -- nor does a value that ends later in its page begin there
    pub below_top : (k t : ℕ) → k * 2 ^ n + 2 ≤ t → t ≤ k * 2 ^ n + 2 ^ n → t < fin k → t ≢ top_of r.table j
    below_top k t p q b = go (ℕ_discrete k (L.mine_top j j_r).page)
      where
        go : Dec (k ≡ (L.mine_top j j_r).page) → t ≢ top_of r.table j
        go (yes e) = let a = (L.mine_top j j_r).top in let f : fin k ≡ fin (L.mine_top j j_r).page = ap fin e in omega arith
        go (no ne) = not_top k t p q ne

    pub top_in_heap : (m : ℕ) → top_of r.table j + m ≤ end_of r.table j → top_of r.table j + m ≤ length r.heap
    top_in_heap m b = let a = last_in_heap in let e = (L.mine_top j j_r).end in omega arith

  -- another heap, with the same links, free pages and bodies
  pub heap_laid : (h : List ℕ) → length h ≡ length r.heap → ((k : ℕ) → own k ≢ old → link n r.heap k ≡ link n h k)
      → ((k : ℕ) → own k ≡ spare → Like n r.heap h k) → ((j k : ℕ) → own k ≡ mine j → Body n h k j (fin k))
      → Layout n N R own fin pages free (with_heap r h)
  heap_laid h len links like bodies =
      record {
        size = len ∙ L.size;
        big = L.big;
        rows = L.rows;
        known = L.known;
        free_own = L.free_own;
        free_once = L.free_once;
        free_links = linked_same (λ k m. links k (λ q. old≢spare q (L.free_own k m))) L.free_links;
        free_last_lem = L.free_last_lem;
        free_count = L.free_count;
        free_clean = λ k o. clean_like (like k o) (L.free_clean k o);
        mine_own = L.mine_own;
        mine_once = L.mine_once;
        mine_links = λ i p. first_same refl (λ k m. links k (λ q. old≢mine q (L.mine_own i k p m))) (L.mine_links i p);
        mine_body = bodies;
        mine_top = L.mine_top;
      }

  -- another table, with the same first, last and top of the regions below Q, and any scan stack
  pub rows_laid : (Q : ℕ) → Q ≤ R → (t : List ℕ) (stack : List Scan) → 4 * Q ≤ length t → ((i x : ℕ) → i < Q → 4 * i ≤ x → x < 4 * i + 3 → at t x ≡ at r.table x)
      → Layout n N Q own fin pages free (with_stack (with_table r t) stack)
  rows_laid Q few t stack wide same =
      record {
        size = L.size;
        big = L.big;
        rows = wide;
        known = L.known;
        free_own = L.free_own;
        free_once = L.free_once;
        free_links = L.free_links;
        free_last_lem = L.free_last_lem;
        free_count = L.free_count;
        free_clean = L.free_clean;
        mine_own = λ i k b. L.mine_own i k (omega arith);
        mine_once = λ i b. L.mine_once i (omega arith);
        mine_links = λ i b. first_same (same i (4 * i + 1) b (omega arith) (omega arith)) (λ k m. refl) (L.mine_links i (omega arith));
        mine_body = L.mine_body;
        mine_top = λ i b. last_same (same i (4 * i) b (le_refl _) (omega arith)) (same i (4 * i + 2) b (omega arith) (omega arith)) (λ k m. refl) (L.mine_top i (omega arith));
      }

-- a value's words: a header and as many words as it says
pub record Value (ws : List ℕ) (l : ℕ) : Type 0 where
  pub head : length_by (head_of (at ws 0)) ≡ some l
  pub size : length ws ≡ suc l
