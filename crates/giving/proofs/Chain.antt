-- A region's chain, given back link by link, is its list of pages given back: a page that is given back is cleared, and the one that was last
-- gets a link, and neither is one of the pages still to come, so their links are as they were.
use Prim.Native.Nat.{ℕ, zero, suc, ◌+◌, ◌*◌, ◌^◌, ◌≤◌, ◌<◌, zero-le}
use native.Mathlib.Nat.{mul-le-mul_right}
use native.Mathlib.Omega.{arith}
use mathlib.Core.Path.{◌≡◌, refl, sym, ◌∙◌}
use mathlib.Core.Logic.{◌≢◌}
use mathlib.Core.List.{List, ◌∷◌, Memᴰ}
use lib.ListN.{length}
use Rattle.laws.proofs.Once.{Once, once_head, once_tail}
use Rattle.laws.proofs.Each.{chain_keep}
use Rattle.rules.specs.Memory.{Store, page_count, link, first_link, region_pages}
use Rattle.rules.specs.Pages.{Run, begun, give_back, give_back_all}
use Rattle.facts.proofs.Given.{given_last, given_length, given_link, last_one_of}
use Rattle.facts.proofs.Laid.{chain_known, chain_few, free_known}
use Rattle.facts.proofs.Passing.{first_page, pages_are}
use Rattle.facts.proofs.Sound.{Sound, region_or_free}
use Rattle.giving.specs.Giving.{link_in, give_chain}

-- the page that the last link names is free
last_free : (s : Store) (S : Sound s) (k : ℕ) → s.ctl.last ≡ suc k → Memᴰ k S.free
last_free s S k e = last_one_of S.free k (sym S.laid.free_last_lem ∙ e)

-- so it is a page of the heap
pub last_there : (s : Store) (S : Sound s) → s.ctl.last ≤ page_count s.ctl.n s.heap
last_there s S = go s.ctl.last refl
  where
    go : (x : ℕ) → s.ctl.last ≡ x → x ≤ page_count s.ctl.n s.heap
    go zero e = zero-le
    go (suc k) e = free_known S.laid k (last_free s S k e)

module _ (s : Store) (S : Sound s) (j : ℕ) (j_r : j < s.ctl.regions) where
  abbrev n : ℕ
  n = s.ctl.n

  abbrev N : ℕ
  N = page_count s.ctl.n s.heap

  -- the pages ks are still to be given back
  record Giving (ks : List ℕ) (r : Run) : Type 0 where
    size : N * 2 ^ n ≤ length r.heap
    links : (k : ℕ) → Memᴰ k ks → link n r.heap k ≡ link n s.heap k
    once : Once ks
    not_last : (k : ℕ) → Memᴰ k ks → r.last ≢ suc k
    rest : give_back_all n ks r ≡ give_back_all n (S.pages j) (begun s)

  turn : (k : ℕ) (ks : List ℕ) (r : Run) → Memᴰ k (S.pages j) → Giving (k ∷ ks) r → (link_in n r k ≡ link n s.heap k) × Giving ks (give_back n k r)
  unfolding give_back_all
  turn k ks r here G =
      let b = S.laid.big in
      let z = G.size in
      let i : k * 2 ^ n + 2 ^ n ≤ length r.heap = omega (arith, mul-le-mul_right (2 ^ n) (chain_known S.laid j j_r k here)) in
      let new : (l : ℕ) → Memᴰ l ks → l ≢ k = λ l m e. once_head G.once (rw e at m) in (
        G.links k (Memᴰ.head refl),
        record {
          size = let e = given_length n r k i in omega arith;
          links = λ l m. given_link n r k i (omega arith) l (new l m) (G.not_last l (Memᴰ.tail m)) ∙ G.links l (Memᴰ.tail m);
          once = once_tail G.once;
          not_last = λ l m d. new l m (let e = given_last n r k in omega arith);
          rest = G.rest;
        },
      )

  pub region_given : give_chain n N (first_link n s.table j) (begun s) ≡ give_back_all n (region_pages n s.heap s.table j) (begun s)
  unfolding give_back_all
  region_given =
      let F = S.laid.mine_links j j_r in
      let z = S.laid.size in
      rw (pages_are S j j_r, first_page S j j_r)
      (chain_keep N (link_in n) (give_back n) (link n s.heap) Giving (S.pages j) (chain_known S.laid j j_r) turn N (suc F.page) (begun s) F.links (chain_few S.laid j j_r)
      (record { size = omega arith; links = λ k m. refl; once = S.laid.mine_once j j_r; not_last = λ k m q. region_or_free S j k j_r m (last_free s S k q); rest = refl })).rest
