-- Chains as lists: their pages are pages of the heap, one that ends with link 0 is linked by its pages' links, and the other way round; so
-- chains that end, whose pages bear their own origin and whose lengths add up to N, hold each page once, and rule 3 can count.
use Prim.Native.Nat.{ℕ, zero, suc, ◌+◌, ◌≤◌, ◌<◌}
use native.Mathlib.Omega.{arith}
use native.Mathlib.Nat.{le_refl}
use native.Mathlib.Decide.{ℕ_discrete}
use mathlib.Core.Path.{◌≡◌, refl, ap, ◌∙◌}
use mathlib.Core.Logic.{◌⊎◌, inl, inr, ⊎_elim}
use mathlib.Core.Bool.{Bool, true}
use mathlib.Core.List.Memᴰ
use mathlib.Core.List.{List, ◌∷◌, ◌++◌, Memᴰ}
use lib.ListN.{length}
use lib.Dec.{eqb}
use borrow.Author.Tests.{eqb-true}
use Rattle.laws.specs.Lists.{all, all_below, times}
use Rattle.laws.proofs.Tests.{all_in, below_in}
use Rattle.laws.proofs.Once.{Once, once_none, Linked, stop, goes, linked_once, once_append, once_by_count}
use Rattle.rules.specs.Memory.{page_count, link, origin, chain, chain_end, first_link, region_pages, free_pages, pages_from, region_origin}
use Rattle.rules.specs.Audit.{ends_well, each_page, all_chains}
use Rattle.rules.proofs.Chains.{chain_by, chain_here}

module _ (n : ℕ) (h : List ℕ) where
  -- the pages of a chain are pages of the heap
  pub chain_there : (f x k : ℕ) → Memᴰ k (chain f n h x) → k < page_count n h
  chain_there =
      chain_by n h (λ f x ks e. (k : ℕ) → Memᴰ k ks → k < page_count n h) (λ f x k m. absurd (Memᴰ.not-nil m))
      (λ f x ks e b rest k m. ⊎_elim (λ q. omega arith) (λ q. rest k q) (Memᴰ.cases_cons m))

  -- one that ends with link 0 is linked by its pages' links
  pub chain_linked : (f x : ℕ) → chain_end f n h x ≡ 0 → Linked (link n h) x (chain f n h x)
  chain_linked = chain_by n h (λ f x ks e. e ≡ 0 → Linked (link n h) x ks) (λ f x z. rw z stop) (λ f x ks e b rest z. goes (rest z))

  -- and pages of the heap that are linked are the chain, if there is fuel for them
  pub linked_chain : (f : ℕ) {x : ℕ} {ks : List ℕ} → Linked (link n h) x ks → ((k : ℕ) → Memᴰ k ks → k < page_count n h) → length ks ≤ f
      → (chain f n h x ≡ ks) × (chain_end f n h x ≡ 0)
  unfolding chain chain_end
  linked_chain zero stop small b = (refl, refl)
  linked_chain (suc f) stop small b = (refl, refl)
  linked_chain zero (goes t) small b = absurd (omega arith)
  linked_chain (suc f) (goes {k} t) small b =
      let r = linked_chain f t (λ x m. small x (Memᴰ.tail m)) (omega arith) in
      let c = chain_here n h f k (small k (Memᴰ.head refl)) in
      (c.0 ∙ ap (λ ks. k ∷ ks) r.0, c.1 ∙ r.1)

-- ---- all chains

module _ (n : ℕ) (h t : List ℕ) where
  -- a page of the regions from i on is a page of one of them
  pub pages_of_lem : (m i k : ℕ) → Memᴰ k (pages_from n h t m i) → (j : ℕ) × (i ≤ j) × (j < i + m) × Memᴰ k (region_pages n h t j)
  unfolding pages_from
  pages_of_lem zero i k m = absurd (Memᴰ.not-nil m)
  pages_of_lem (suc c) i k m = go (Memᴰ.append_cases (region_pages n h t i) m) (λ q. pages_of_lem c (suc i) k q)
    where
      Found : ℕ → ℕ → Type 0
      Found i m = (j : ℕ) × (i ≤ j) × (j < i + m) × Memᴰ k (region_pages n h t j)

      go : Memᴰ k (region_pages n h t i) ⊎ Memᴰ k (pages_from n h t c (suc i)) → (Memᴰ k (pages_from n h t c (suc i)) → Found (suc i) c) → Found i (suc c)
      go (inl p) rest = (i, le_refl i, omega arith, p)
      go (inr p) rest = let r = rest p in (r.0, (let a = r.1 in omega arith), (let b = r.2 in omega arith), r.3)

  pub of_pages : (m i j k : ℕ) → i ≤ j → j < i + m → Memᴰ k (region_pages n h t j) → Memᴰ k (pages_from n h t m i)
  unfolding pages_from
  of_pages zero i j k a b m = absurd (omega arith)
  of_pages (suc c) i j k a b m = go (ℕ_discrete j i) (λ a' b'. of_pages c (suc i) j k a' b' m)
    where
      go : Dec (j ≡ i) → (suc i ≤ j → j < suc i + c → Memᴰ k (pages_from n h t c (suc i))) → Memᴰ k (region_pages n h t i ++ pages_from n h t c (suc i))
      go (yes e) rest = Memᴰ.append_left (pages_from n h t c (suc i)) (rw e at m)
      go (no ne) rest = Memᴰ.append_right (region_pages n h t i) (rest (omega arith) (omega arith))

  -- the pages of all of them are pages of the heap
  pub region_there : (j k : ℕ) → Memᴰ k (region_pages n h t j) → k < page_count n h
  unfolding region_pages
  region_there j k m = chain_there n h (page_count n h) _ k m

  pub free_there : (first k : ℕ) → Memᴰ k (free_pages n h first) → k < page_count n h
  unfolding free_pages
  free_there first k m = chain_there n h (page_count n h) first k m

  pub chains_there : (R first k : ℕ) → Memᴰ k (all_chains n h t R first) → k < page_count n h
  chains_there R first k m = go (Memᴰ.append_cases (pages_from n h t R 0) m)
    where
      go : Memᴰ k (pages_from n h t R 0) ⊎ Memᴰ k (free_pages n h first) → k < page_count n h
      go (inl p) = let r = pages_of_lem R 0 k p in region_there r.0 k r.3
      go (inr p) = free_there first k p

  -- a test of each page of each region, at one of them
  pub each_page_in : (R : ℕ) (q : ℕ → ℕ → Bool) → each_page q n h t R ≡ true → (j k : ℕ) → j < R → Memᴰ k (region_pages n h t j) → q j k ≡ true
  each_page_in R q e j k b m = all_in (q j) (region_pages n h t j) (below_in (λ j. all (q j) (region_pages n h t j)) R e j b) k m

  -- chains that stand once each and bear their own origins stand once together
  module _ (R : ℕ) (once : (j : ℕ) → j < R → Once (region_pages n h t j)) (whose : (j k : ℕ) → j < R → Memᴰ k (region_pages n h t j) → origin n h k ≡ suc j) where
    pub pages_once : (m i : ℕ) → i + m ≤ R → Once (pages_from n h t m i)
    unfolding pages_from
    pages_once zero i b = once_none
    pages_once (suc m) i b =
        once_append (pages_from n h t m (suc i)) (once i (omega arith)) (pages_once m (suc i) (omega arith))
        (λ k p q.
        let r = pages_of_lem m (suc i) k q in
        let c = r.1 in
        let d = r.2 in
        let e = whose i k (omega arith) p in
        let e' = whose r.0 k (omega arith) r.3 in
        omega arith)

    pub chains_once : (first : ℕ) → Once (free_pages n h first) → ((k : ℕ) → Memᴰ k (free_pages n h first) → origin n h k ≡ 0) → Once (all_chains n h t R first)
    chains_once first o f =
        once_append (free_pages n h first) (pages_once R 0 (omega arith)) o
        (λ k p q.
        let r = pages_of_lem R 0 k p in
        let d = r.2 in
        let e = whose r.0 k (omega arith) r.3 in
        let e' = f k q in
        omega arith)

-- ---- rule 3 by counting

module _ (n : ℕ) (h t : List ℕ) (R first : ℕ)
    (ends : all_below (λ j. ends_well n h (first_link n t j)) R ≡ true) (free_ends : ends_well n h first ≡ true)
    (origins : each_page (λ j k. eqb (origin n h k) (region_origin j)) n h t R ≡ true) (free_origins : all (λ k. eqb (origin n h k) 0) (free_pages n h first) ≡ true) where
  pub chain_links : (j : ℕ) → j < R → Linked (link n h) (first_link n t j) (region_pages n h t j)
  unfolding region_pages ends_well
  chain_links j b = chain_linked n h (page_count n h) (first_link n t j) (eqb-true _ 0 (below_in (λ j. ends_well n h (first_link n t j)) R ends j b))

  pub free_links : Linked (link n h) first (free_pages n h first)
  unfolding free_pages ends_well
  free_links = chain_linked n h (page_count n h) first (eqb-true _ 0 free_ends)

  pub chain_origin : (j k : ℕ) → j < R → Memᴰ k (region_pages n h t j) → origin n h k ≡ suc j
  chain_origin j k b m = eqb-true _ _ (each_page_in n h t R (λ j k. eqb (origin n h k) (region_origin j)) origins j k b m)

  pub free_origin : (k : ℕ) → Memᴰ k (free_pages n h first) → origin n h k ≡ 0
  free_origin k m = eqb-true _ _ (all_in (λ k. eqb (origin n h k) 0) (free_pages n h first) free_origins k m)

  pub all_once : Once (all_chains n h t R first)
  all_once = chains_once n h t R (λ j b. linked_once (chain_links j b)) chain_origin first (linked_once free_links) free_origin

  -- "every page is in exactly one chain" exactly when the chains have N pages in all
  pub exactly_once : all_below (λ k. eqb (times k (all_chains n h t R first)) 1) (page_count n h) ≡ eqb (length (all_chains n h t R first)) (page_count n h)
  exactly_once = once_by_count (page_count n h) (chains_there n h t R first) all_once
