-- Used words. On a sound heap a region's used words are what its pages hold; after a collection that is the words of the values that a root
-- reaches, each once, and so no more than before.
use Prim.Native.Nat.{ℕ, suc, ◌+◌, ◌*◌, ◌^◌, ◌≤◌, ◌<◌}
use native.Mathlib.Omega.{arith}
use native.Mathlib.Decide.{ℕ_discrete}
use mathlib.Core.Path.{◌≡◌, refl, ap}
use mathlib.Core.Logic.{◌⊎◌, inl, inr}
use mathlib.Core.List.Memᴰ
use mathlib.Core.List.{List, [], ◌∷◌, ◌++◌, Memᴰ}
use Rattle.laws.specs.Sums.{sum_over}
use Rattle.laws.proofs.Once.{Once, once_sum}
use Rattle.laws.proofs.Sums.{sum_append}
use Rattle.rules.specs.Memory.{Store}
use Rattle.rules.specs.Words.{used_of, page_vals}
use Rattle.rules.specs.Audit.{used_on, used_by}
use Rattle.rules.specs.Seen.{seen, words_at}
use Rattle.rules.proofs.Steps.{Steps, PageSteps, OnPage, here, over, steps_le, steps_then, apart}
use Rattle.facts.proofs.Laid.{mine, mine≢beyond}
use Rattle.facts.proofs.Looked.{words_at_home}
use Rattle.facts.proofs.Framed.{chain_below}
use Rattle.facts.proofs.Sound.{Sound}
use Rattle.facts.proofs.Passing.{pages_are, ends_at_lem}
use Rattle.working.proofs.Invariant.{filled_to}

-- what the pointer w counts for region j: the words of a value of one of the region's pages, or nothing
pub data Counts (s : Store) (S : Sound s) (j w : ℕ) : Type 0 where
  for_its_words : {k a l : ℕ} → w ≡ 4 * a → Memᴰ k (S.pages j) → OnPage s.ctl.n s.heap k a l → Counts s S j w
  for_nothing : words_at (seen s) j w ≡ 0 → Counts s S j w

module _ (s : Store) (S : Sound s) where
  abbrev n : ℕ
  n = s.ctl.n

  abbrev R : ℕ
  R = s.ctl.regions

  -- a page
  page_used : (j k : ℕ) → j < R → Memᴰ k (S.pages j) → used_of (page_vals n s.heap k) ≡ filled_to n S.fin k
  page_used j k j_r m = let e = ends_at_lem S j k j_r m in omega arith

  pages_used : (j : ℕ) → j < R → (ks : List ℕ) → ((k : ℕ) → Memᴰ k ks → Memᴰ k (S.pages j)) → used_on n s.heap ks ≡ sum_over (filled_to n S.fin) ks
  unfolding used_on sum_over
  pages_used j j_r [] sub = refl
  pages_used j j_r (k ∷ ks) sub =
      rw (page_used j k j_r (sub k (Memᴰ.head refl)), pages_used j j_r ks (λ x m. sub x (Memᴰ.tail m)))

  -- a region
  pub used_filled : (j : ℕ) → j < R → used_by n s.heap s.table j ≡ sum_over (filled_to n S.fin) (S.pages j)
  unfolding used_by
  used_filled j j_r = rw (pages_are S j j_r) (pages_used j j_r (S.pages j) (λ k m. m))

  -- ---- the values of a region

  module _ (j : ℕ) (j_r : j < R) where
    value_words : {k a l : ℕ} → S.own k ≡ mine j → OnPage n s.heap k a l → words_at (seen s) j (4 * a) ≡ suc l
    value_words {k} {a} {l} o v =
        words_at_home s S.within.paged a
        (record { page = k; region = j; len = l; there = S.laid.known k (mine≢beyond o); known = j_r; whose = (S.laid.mine_body j k o).whose; value = v })

    -- pointers to values, what they sum to, and that all values of these pages are there
    record Listed (ks : List ℕ) : Type 0 where
      pub all : List ℕ
      pub sum : sum_over (words_at (seen s) j) all ≡ sum_over (filled_to n S.fin) ks
      pub there : (k a : ℕ) → Memᴰ k ks → PageSteps n s.heap k a → a < S.fin k → Memᴰ (4 * a) all

    -- those of page k from c on
    from : (k : ℕ) → S.own k ≡ mine j → {c f : ℕ} → PageSteps n s.heap k c → Steps s.heap (k * 2 ^ n + 2 ^ n) c f
        → (vs : List ℕ) × (sum_over (words_at (seen s) j) vs + c ≡ f)
        × ((a : ℕ) → PageSteps n s.heap k a → c ≤ a → a < f → Memᴰ (4 * a) vs)
    unfolding sum_over
    from k o to_c here = ([], omega arith, λ a t p q. absurd (omega arith))
    from k o {c} {f} to_c (over {l = l} st r) =
        let rest = from k o (steps_then to_c (over st here)) r in
        let e = rest.1 in
        let w = value_words o (record { steps = to_c; stands = st }) in
        (4 * c ∷ rest.0, omega arith, λ a t p q. go a t p q (ℕ_discrete a c) (apart to_c st t) rest.2)
      where
        go : {vs : List ℕ} (a : ℕ) → PageSteps n s.heap k a → c ≤ a → a < f → Dec (a ≡ c) → (a ≤ c) ⊎ (c + suc l ≤ a)
            → ((b : ℕ) → PageSteps n s.heap k b → c + suc l ≤ b → b < f → Memᴰ (4 * b) vs) → Memᴰ (4 * a) (4 * c ∷ vs)
        go a t p q (yes e) d rest = Memᴰ.head (ap (λ x. 4 * x) e)
        go a t p q (no ne) (inl u) rest = absurd (ne (omega arith))
        go a t p q (no ne) (inr u) rest = Memᴰ.tail (rest a t u q)

    listed : (ks : List ℕ) → ((k : ℕ) → Memᴰ k ks → Memᴰ k (S.pages j)) → Listed ks
    unfolding sum_over
    listed [] sub = record { all = []; sum = refl; there = λ k a m t q. absurd (Memᴰ.not-nil m) }
    listed (k ∷ ks) sub =
        let o = S.laid.mine_own j k j_r (sub k (Memᴰ.head refl)) in
        let B = S.laid.mine_body j k o in
        let lo = steps_le B.filled in
        let own = from k o here B.filled in
        let e = own.1 in
        let rest = listed ks (λ x m. sub x (Memᴰ.tail m)) in
        let e' = rest.sum in
        let a = sum_append (words_at (seen s) j) own.0 rest.all in
        record { all = own.0 ++ rest.all; sum = omega arith; there = λ x a m t q. go x a own.0 own.2 rest (Memᴰ.cases_cons m) t q }
      where
        go : (x a : ℕ) (vs : List ℕ) → ((b : ℕ) → PageSteps n s.heap k b → k * 2 ^ n + 2 ≤ b → b < S.fin k → Memᴰ (4 * b) vs)
            → (L : Listed ks) → (x ≡ k) ⊎ Memᴰ x ks → PageSteps n s.heap x a → a < S.fin x → Memᴰ (4 * a) (vs ++ L.all)
        go x a vs p L (inl e) t u = let t' : PageSteps n s.heap k a = rw e at t in Memᴰ.append_left L.all (p a t' (steps_le t') (rw e at u))
        go x a vs p L (inr m) t u = Memᴰ.append_right vs (L.there x a m t u)

    -- pointers of which each stands once take no more than the used words
    pub used_bound : (xs : List ℕ) → Once xs
        → ((w : ℕ) → Memᴰ w xs → Counts s S j w) → sum_over (words_at (seen s) j) xs ≤ used_by n s.heap s.table j
    used_bound xs o f =
        let L = listed (S.pages j) (λ k m. m) in
        let b = once_sum (words_at (seen s) j) o L.all (λ w m. go w L (f w m)) in
        let e = L.sum in
        let u = used_filled j j_r in
        omega arith
      where
        go : (w : ℕ) (L : Listed (S.pages j)) → Counts s S j w → Memᴰ w L.all ⊎ (words_at (seen s) j w ≡ 0)
        go w L (for_nothing z) = inr z
        go w L (for_its_words {k} {a} e m v) = let b = chain_below S.laid j j_r m v in inl (rw e (L.there k a m v.steps (omega arith)))
