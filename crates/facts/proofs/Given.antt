-- Pages given back: each is cleared and follows the last free page, so the heap stays laid out, and no other page changes but for the link
-- of the page that was last.
use Prim.Native.Nat.{ℕ, zero, suc, ◌+◌, ◌*◌, ◌^◌, ◌≤◌, ◌<◌}
use native.Mathlib.Nat.{le_refl}
use native.Mathlib.Omega.{arith}
use native.Mathlib.Decide.{ℕ_discrete}
use mathlib.Core.Path.{◌≡◌, refl, sym, ap, ◌∙◌}
use mathlib.Core.Logic.{◌≢◌, ◌⊎◌, inl, inr}
use mathlib.Core.List.Memᴰ
use mathlib.Core.List.{List, [], ◌∷◌, ◌++◌, append-nil, Memᴰ}
use lib.ListN.{length, set, length-set, length-append}
use lib.Seq.{append_snoc, get_or-set_same}
use Rattle.laws.specs.Lists.{at, last_or}
use Rattle.laws.proofs.Once.{Once, once_none, once_more, in_tail, Last, only, later, last_in, Linked, linked_single, linked_snoc, last_snoc, in_snoc, once_snoc, member?}
use Rattle.rules.specs.Memory.{link}
use Rattle.rules.specs.Audit.{last_link}
use Rattle.rules.specs.Pages.{Run, with_free, clear_page, give_back, give_back_all}
use Rattle.facts.proofs.Laid.{upd, upd_same, upd_other, old≢spare, old≢mine, old≢beyond, spare≢mine, spare≢beyond, old_mine_apart, Owner, old, spare, mine, Body, Clean, Like, like_itself, like_then, body_like, clean_like, like_relinked, link_relinked, first_same, Layout, page_in, like_kept, chain_apart, upd_back, upd_known}
use Rattle.facts.proofs.Sound.{Chained, in_free, in_region}
use Rattle.facts.proofs.Cleared.{clear_length, clear_else, clear_link, clear_in}

-- ---- the last of a list of pages, as a link

pub last_link_lem : (k : ℕ) (ks : List ℕ) → Last (k ∷ ks) (last_or k ks)
unfolding last_or
last_link_lem k [] = only
last_link_lem k (l ∷ ls) = later (last_link_lem l ls)

pub link_last : {ks : List ℕ} {l : ℕ} → Last ks l → last_link ks ≡ suc l
unfolding last_link last_or
link_last only = refl
link_last (later {k} u) = go u (link_last u)
  where
    go : {ks : List ℕ} {l : ℕ} → Last ks l → last_link ks ≡ suc l → last_link (k ∷ ks) ≡ suc l
    go only e = refl
    go (later u) e = e

-- the other way round: the page that the last link names is the last
last_linked : (ks : List ℕ) (k : ℕ) → last_link ks ≡ suc k → Last ks k
unfolding last_link
last_linked [] k e = absurd (omega arith)
last_linked (y ∷ ys) k e = let w : last_or y ys ≡ k = omega arith in rw w at (last_link_lem y ys)

none_linked : (ks : List ℕ) → last_link ks ≡ 0 → ks ≡ []
unfolding last_link
none_linked [] e = refl
none_linked (y ∷ ys) e = absurd (omega arith)

pub last_one_of : (ks : List ℕ) (k : ℕ) → last_link ks ≡ suc k → Memᴰ k ks
last_one_of ks k e = last_in (last_linked ks k e)

-- ---- one page

module _ (n : ℕ) (r : Run) (k : ℕ) where
  -- page k is the only free page, or it follows page z
  given_by : (P : Run → Type 0) → (r.last ≡ 0 → P (with_free r (clear_page n r.heap k) (suc k) (suc k) (suc r.count)))
      → ((z : ℕ) → r.last ≡ suc z → P (with_free r (set (clear_page n r.heap k) (z * 2 ^ n) (suc k)) r.first (suc k) (suc r.count))) → P (give_back n k r)
  unfolding give_back
  given_by P f g = go r.last refl
    where
      go : (x : ℕ) → r.last ≡ x → P (give_back n k r)
      go zero e = rw (give_back, e) (f e)
      go (suc z) e = rw (give_back, e) (g z e)

module _ {n N R : ℕ} {own : ℕ → Owner} {fin : ℕ → ℕ} {pages : ℕ → List ℕ} {free : List ℕ} {r : Run} (L : Layout n N R own fin pages free r) (k : ℕ) (own_k : own k ≡ old) where
  abbrev P : ℕ
  P = 2 ^ n

  k_in : k * P + P ≤ length r.heap
  k_in = page_in L k (old≢beyond own_k)

  -- the page cleared
  abbrev h₁ : List ℕ
  h₁ = clear_page n r.heap k

  length₁ : length h₁ ≡ length r.heap
  length₁ = clear_length n r.heap k k_in

  others₁ : (l x : ℕ) → l ≢ k → l * P ≤ x → x < l * P + P → at h₁ x ≡ at r.heap x
  others₁ = clear_else n r.heap k k_in

  cleared : (x : ℕ) → k * P ≤ x → x < k * P + P → at h₁ x ≡ 0
  cleared = clear_in n r.heap k k_in

  like₁ : (l : ℕ) → l ≢ k → Like n r.heap h₁ l
  like₁ l ne = like_kept n r.heap h₁ l (λ x. others₁ l x ne)

  -- and the link of the last free page set
  link₂ : (z v : ℕ) → own z ≡ spare → link n (set h₁ (z * P) v) z ≡ v
  unfolding link
  link₂ z v o = get_or-set_same h₁ (z * P) v 0 (let b = L.big in let e = length₁ in let i = page_in L z (spare≢beyond o) in omega arith)

  links₁ : (l : ℕ) → l ≢ k → link n r.heap l ≡ link n h₁ l
  links₁ l ne = sym (clear_link n r.heap k k_in (let b = L.big in omega arith) l ne)

  link_k : link n h₁ k ≡ 0
  unfolding link
  link_k = let b = L.big in cleared (k * P) (le_refl _) (omega arith)

  free_not_k : (l : ℕ) → Memᴰ l free → l ≢ k
  free_not_k l m q = old≢spare (ap own q ∙ own_k) (L.free_own l m)

  own'_free : (l : ℕ) → Memᴰ l (free ++ k ∷ []) → upd own k spare l ≡ spare
  own'_free l m = go (in_snoc free m) (ℕ_discrete l k)
    where
      go : Memᴰ l free ⊎ (l ≡ k) → Dec (l ≡ k) → upd own k spare l ≡ spare
      go c (yes e) = upd_same own k spare l e
      go (inl p) (no ne) = upd_other own k spare l ne ∙ L.free_own l p
      go (inr e) (no ne) = absurd (ne e)

  count' : suc r.count ≡ length (free ++ k ∷ [])
  count' = let c = L.free_count in let a = length-append free (k ∷ []) in omega arith

  mine_back : (i l : ℕ) → upd own k spare l ≡ mine i → own l ≡ mine i
  mine_back i l = upd_back own k spare l (mine i) (λ q. spare≢mine q refl)

  -- whichever way the heap h' came about: page k is cleared, the others are as they were but for links of free pages
  module _ (h' : List ℕ) (first' : ℕ) (len : length h' ≡ length h₁) (like : (l : ℕ) → Like n h₁ h' l)
      (links : (i l : ℕ) → own l ≡ mine i → link n h₁ l ≡ link n h' l) (chained : Linked (link n h') first' (free ++ k ∷ [])) where
    bodies : (i l : ℕ) → own l ≡ mine i → Body n h' l i (fin l)
    bodies i l o =
        let b = L.big in
        body_like (omega arith) (like_then (like₁ l (λ q. old_mine_apart own own_k o (sym q))) (like l)) (L.mine_body i l o)

    cleans : (l : ℕ) → upd own k spare l ≡ spare → Clean n h' l
    cleans l o = go (ℕ_discrete l k)
      where
        go : Dec (l ≡ k) → Clean n h' l
        go (yes e) = clean_like (like l) (record { rest = λ x p q. let w : l * P ≡ k * P = ap (λ t. t * P) e in cleared x (omega arith) (omega arith) })
        go (no ne) = clean_like (like_then (like₁ l ne) (like l)) (L.free_clean l (sym (upd_other own k spare l ne) ∙ o))

    mine_links' : (i l : ℕ) → i < R → Memᴰ l (pages i) → link n r.heap l ≡ link n h' l
    mine_links' i l b m = links₁ l (chain_apart L (λ j. old≢mine own_k) i l b m) ∙ links i l (L.mine_own i l b m)

    laid_by : Layout n N R (upd own k spare) fin pages (free ++ k ∷ []) (record { heap = h'; table = r.table; first = first'; last = suc k; count = suc r.count; stack = r.stack })
    laid_by =
        record {
          size = len ∙ length₁ ∙ L.size;
          big = L.big;
          rows = L.rows;
          known = upd_known L k spare (old≢beyond own_k);
          free_own = own'_free;
          free_once = once_snoc L.free_once (λ m. free_not_k k m refl);
          free_links = chained;
          free_last_lem = sym (link_last (last_snoc free));
          free_count = count';
          free_clean = cleans;
          mine_own = λ i l b m. upd_other own k spare l (chain_apart L (λ j. old≢mine own_k) i l b m) ∙ L.mine_own i l b m;
          mine_once = L.mine_once;
          mine_links = λ i b. first_same refl (λ l m. mine_links' i l b m) (L.mine_links i b);
          mine_body = λ i l o. bodies i l (mine_back i l o);
          mine_top = L.mine_top;
        }

  alone : (fs : List ℕ) → fs ≡ [] → Linked (link n h₁) (suc k) (fs ++ k ∷ [])
  alone fs e = rw e (linked_single link_k)

  -- the two ways: no page was free, or page z was the last
  given_first : free ≡ [] → Layout n N R (upd own k spare) fin pages (free ++ k ∷ []) (record { heap = h₁; table = r.table; first = suc k; last = suc k; count = suc r.count; stack = r.stack })
  given_first e = laid_by h₁ (suc k) refl (λ l. like_itself) (λ i l o. refl) (alone free e)

  given_later : (z : ℕ) → Last free z
      → Layout n N R (upd own k spare) fin pages (free ++ k ∷ []) (record { heap = set h₁ (z * P) (suc k); table = r.table; first = r.first; last = suc k; count = suc r.count; stack = r.stack })
  given_later z last =
      let own_z : own z ≡ spare = L.free_own z (last_in last) in
      let b = L.big in
      let links₂ : (l : ℕ) → l ≢ z → link n h₁ l ≡ link n (set h₁ (z * P) (suc k)) l = λ l. link_relinked n h₁ z (suc k) l (omega arith) in
      laid_by (set h₁ (z * P) (suc k)) r.first (length-set h₁ (z * P) (suc k)) (like_relinked n h₁ z (suc k))
      (λ i l o. links₂ l (λ q. spare≢mine (ap own q ∙ own_z) o))
      (linked_snoc L.free_links last L.free_once (link₂ z (suc k) own_z) (sym (links₂ k (λ q. free_not_k z (last_in last) (sym q))) ∙ link_k)
      (λ y m ne. links₁ y (free_not_k y m) ∙ links₂ y ne))

  pub record Given (x : Run) : Type 0 where
    pub laid : Layout n N R (upd own k spare) fin pages (free ++ k ∷ []) x
    pub like : (l : ℕ) → l ≢ k → Like n r.heap x.heap l
    pub table : x.table ≡ r.table

  pub given : Given (give_back n k r)
  given =
      given_by n r k Given (λ e. record { laid = given_first (none_linked free (sym L.free_last_lem ∙ e)); like = like₁; table = refl })
      (λ z e.
      record {
        laid = given_later z (last_linked free z (sym L.free_last_lem ∙ e));
        like = λ l ne. like_then (like₁ l ne) (like_relinked n h₁ z (suc k) l);
        table = refl;
      })

-- ---- all pages of a list

-- the pages of the list are free
unfoldable pub spared : (ℕ → Owner) → List ℕ → ℕ → Owner
spared own [] = own
spared own (k ∷ ks) = spared (upd own k spare) ks

pub spared_out : (own : ℕ → Owner) (ks : List ℕ) (l : ℕ) → (Memᴰ l ks → ⊥) → spared own ks l ≡ own l
unfolding spared
spared_out own [] l f = refl
spared_out own (k ∷ ks) l f = spared_out (upd own k spare) ks l (λ m. f (Memᴰ.tail m)) ∙ upd_other own k spare l (λ e. f (Memᴰ.head e))

spared_by : (ks : List ℕ) (own : ℕ → Owner) (l : ℕ) → (own l ≡ spare) ⊎ Memᴰ l ks → spared own ks l ≡ spare
unfolding spared
spared_by [] own l (inl e) = e
spared_by [] own l (inr m) = absurd (Memᴰ.not-nil m)
spared_by (k ∷ ks) own l c = spared_by ks (upd own k spare) l (go (ℕ_discrete l k) c)
  where
    go : Dec (l ≡ k) → (own l ≡ spare) ⊎ Memᴰ l (k ∷ ks) → (upd own k spare l ≡ spare) ⊎ Memᴰ l ks
    go (yes e) c = inl (upd_same own k spare l e)
    go (no ne) (inl e) = inl (upd_other own k spare l ne ∙ e)
    go (no ne) (inr m) = inr (in_tail ne m)

pub spared_in : (own : ℕ → Owner) (ks : List ℕ) (l : ℕ) → Memᴰ l ks → spared own ks l ≡ spare
spared_in own ks l m = spared_by ks own l (inr m)

pub record GivenAll (n N R : ℕ) (own : ℕ → Owner) (fin : ℕ → ℕ) (pages : ℕ → List ℕ) (free ks : List ℕ) (r r' : Run) : Type 0 where
  pub laid : Layout n N R (spared own ks) fin pages (free ++ ks) r'
  -- the other pages keep all their words behind their links
  pub like : (l : ℕ) → (Memᴰ l ks → ⊥) → Like n r.heap r'.heap l
  pub table : r'.table ≡ r.table

pub given_all : {n N R : ℕ} {own : ℕ → Owner} {fin : ℕ → ℕ} {pages : ℕ → List ℕ} {free ks : List ℕ} {r : Run} → Once ks → Layout n N R own fin pages free r
    → ((k : ℕ) → Memᴰ k ks → own k ≡ old) → GivenAll n N R own fin pages free ks r (give_back_all n ks r)
unfolding give_back_all spared
given_all {free = free} once_none L f =
    record { laid = rw (append-nil free) L; like = λ l ne. like_itself; table = refl }
given_all {own = own} {free = free} (once_more {k} {ks} new o) L f =
    let g = given L k (f k (Memᴰ.head refl)) in
    let rest = given_all {own = upd own k spare} o g.laid (λ l m. upd_other own k spare l (λ e. new (rw e at m)) ∙ f l (Memᴰ.tail m)) in
    record {
      laid = rw (append_snoc free k ks) at rest.laid;
      like = λ l ne. like_then (g.like l (λ e. ne (Memᴰ.head e))) (rest.like l (λ m. ne (Memᴰ.tail m)));
      table = rest.table ∙ g.table;
    }

-- ---- one page of any run

module _ (n : ℕ) (r : Run) (k : ℕ) where
  pub given_last : (give_back n k r).last ≡ suc k
  given_last = given_by n r k (λ x. x.last ≡ suc k) (λ e. refl) (λ z e. refl)

  pub given_count : (give_back n k r).count ≡ suc r.count
  given_count = given_by n r k (λ x. x.count ≡ suc r.count) (λ e. refl) (λ z e. refl)

  module _ (inside : k * 2 ^ n + 2 ^ n ≤ length r.heap) where
    pub given_length : length (give_back n k r).heap ≡ length r.heap
    given_length =
        let cleared = clear_length n r.heap k inside in
        given_by n r k (λ x. length x.heap ≡ length r.heap) (λ e. cleared) (λ z e. length-set (clear_page n r.heap k) (z * 2 ^ n) (suc k) ∙ cleared)

    -- a page that is neither this one nor the last free one keeps its link
    pub given_link : 0 < 2 ^ n → (l : ℕ) → l ≢ k → r.last ≢ suc l → link n (give_back n k r).heap l ≡ link n r.heap l
    given_link p l ne nl =
        let cleared = clear_link n r.heap k inside p l ne in
        given_by n r k (λ x. link n x.heap l ≡ link n r.heap l) (λ e. cleared)
        (λ z e. sym (link_relinked n (clear_page n r.heap k) z (suc k) l p (λ q. nl (e ∙ ap suc (sym q)))) ∙ cleared)

-- a page given back is in the free list, and another is in the chain where it was
pub given_chained : {R : ℕ} {own : ℕ → Owner} {pages : ℕ → List ℕ} {free : List ℕ} (ks : List ℕ) (k : ℕ) → ((Memᴰ k ks → ⊥) → Chained R own pages free k)
    → Chained R (spared own ks) pages (free ++ ks) k
given_chained {R} {own} {pages} {free} ks k was = go (member? k ks)
  where
    by : (Memᴰ k ks → ⊥) → Chained R own pages free k → Chained R (spared own ks) pages (free ++ ks) k
    by f (in_free o m) = in_free (spared_out own ks k f ∙ o) (Memᴰ.append_left ks m)
    by f (in_region j b o m) = in_region j b (spared_out own ks k f ∙ o) m

    go : Dec (Memᴰ k ks) → Chained R (spared own ks) pages (free ++ ks) k
    go (yes m) = in_free (spared_in own ks k m) (Memᴰ.append_right free m)
    go (no f) = by f (was f)
