-- Where the scan goes on, at work and in the plain run: both read the same header, the same word behind the value (none where the value ends its page)
-- and the same link.
use Prim.Native.Nat.{ℕ, suc, ◌+◌, ◌-◌, ◌*◌, ◌/◌, ◌%◌, ◌^◌, ◌≤◌, ◌<◌}
use native.Mathlib.Nat.{mul-le-mul_right, mul-mod_left}
use native.Mathlib.Omega.{arith}
use native.Mathlib.Decide.{ℕ_discrete}
use mathlib.Core.Path.{◌≡◌, refl, sym, ap, ◌∙◌, subst}
use mathlib.Core.Bool.{Bool, true, false, ◌||◌}
use mathlib.Core.List.{Memᴰ}
use lib.Dec.{eqb}
use borrow.Author.Tests.{eqb-false}
use Rattle.laws.specs.Lists.{at}
use Rattle.laws.proofs.Once.{linked_from, linked_fits}
use Rattle.rules.specs.Memory.{Store, page_count, link, top_of}
use Rattle.rules.specs.Words.{head_of, words_by}
use Rattle.rules.specs.Pages.{Run}
use Rattle.rules.specs.Collection.{next_from, next_scan}
use Rattle.facts.proofs.Inside.{page_at}
use Rattle.rules.proofs.Pointers.{words_of}
use Rattle.rules.proofs.Headers.{header_odd}
use Rattle.rules.proofs.Steps.{steps_le}
use Rattle.facts.proofs.Laid.{chain_known}
use Rattle.facts.proofs.Sound.{Sound}
use Rattle.working.proofs.Rows.{InRow}
use Rattle.working.proofs.Invariant.{Ghost, Inv}
use Rattle.motion.specs.Leaves.{Desk}
use Rattle.motion.specs.Run as X
use Rattle.motion.specs.Run.{next_of, next_page}
use Rattle.agreement.proofs.Matching.{Matching}
use Rattle.agreement.proofs.Frames.{top_same, body_plain, value_plain, link_same}
use Rattle.agreement.proofs.Took.{heap_small, start_is}

module _ {s : Store} {S : Sound s} {g : Ghost} {r : Run} {d : Desk} {j b : ℕ} (I : Inv s S g r) (M : Matching s S g r d) (j_r : j < s.ctl.regions)
    (F : InRow s.ctl.n r.heap g.fin (g.pages j) b) where
  abbrev n : ℕ
  n = s.ctl.n

  abbrev N : ℕ
  N = page_count n s.heap

  abbrev P : ℕ
  P = 2 ^ n

  abbrev k : ℕ
  k = F.page

  abbrev t : ℕ
  t = b + suc F.len

  lo : k * P + 2 ≤ b
  lo = steps_le F.value.steps

  hi : t ≤ k * P + P
  hi = F.value.stands.ends

  in_heap_lem : (l : ℕ) → Memᴰ l (g.pages j) → l * P + P ≤ N * P
  in_heap_lem l m = let q = mul-le-mul_right P (chain_known I.laid j j_r l m) in omega arith

  here : at d.heap b ≡ at r.heap b
  here = M.words b (value_plain S g.own F.value)

  page_is : b / P ≡ k
  page_is = page_at F.value

  -- the page that the link names
  link_known : link n r.heap k - 1 < N
  link_known =
      let on = linked_from (I.laid.mine_links j j_r).links F.here in
      let p = linked_fits on.1 (λ y m. chain_known I.laid j j_r y (on.3 y m)) in
      let q = chain_known I.laid j j_r k F.here in
      omega arith

  next_page_lem : next_page n b d.heap ≡ (link n r.heap k - 1) * P + 2
  next_page_lem =
      rw (page_is, start_is S k (chain_known I.laid j j_r k F.here), link_same M k, start_is S (link n r.heap k - 1) link_known)

  end_is : b + ((at d.heap b) / 8 + 1) ≡ t
  end_is =
      let w : (at r.heap b) / 8 ≡ F.len = (header_odd (at r.heap b) F.len F.value.stands.head).1 in
      let e : (at d.heap b) / 8 ≡ F.len = ap (λ x. x / 8) here ∙ w in
      omega arith

  end_plain : b + words_by (head_of (at r.heap b)) ≡ t
  end_plain = ap (λ x. b + x) (words_of (head_of (at r.heap b)) F.len F.value.stands.head)

  -- the word behind the value, where it does not end its page
  behind : eqb (t % P) 0 ≡ false → at d.heap t ≡ at r.heap t
  behind e = M.words t (body_plain S g.own k (let p = lo in omega arith) (strict (ℕ_discrete t (k * P + P))))
    where
      strict : Dec (t ≡ k * P + P) → t < k * P + P
      strict (yes q) =
          let w : t ≡ suc k * P = omega arith in
          let z : t % P ≡ 0 = ap (λ x. x % P) w ∙ mul-mod_left (suc k) P in
          absurd (eqb-false (t % P) 0 e z)
      strict (no ne) = let p = hi in omega arith

  pub nexts : X.next_scan n j b d ≡ next_scan n j b r
  unfolding next_scan next_from next_of
  nexts =
      ap (λ x. next_of n b x (top_of d.notes j) d.heap) end_is ∙ ap (λ x. next_of n b t x d.heap) (top_same M j j_r)
      ∙ go (eqb t (top_of r.table j)) refl (eqb (t % P) 0) refl ∙ ap (λ x. next_from n j b x r) (sym end_plain)
    where
      page : (link n r.heap (b / P) - 1) * P + 2 ≡ (link n r.heap k - 1) * P + 2
      page = ap (λ x. (link n r.heap x - 1) * P + 2) page_is

      last : (c : Bool) → eqb (at r.heap t) 0 ≡ c → eqb t (top_of r.table j) ≡ false → eqb (t % P) 0 ≡ false → next_of n b t (top_of r.table j) d.heap ≡ next_from n j b t r
      last true q e f = rw (e, f, next_from, behind f, q) (next_page_lem ∙ sym page)
      last false q e f = rw (e, f, next_from, behind f, q)

      go : (x : Bool) → eqb t (top_of r.table j) ≡ x → (y : Bool) → eqb (t % P) 0 ≡ y → next_of n b t (top_of r.table j) d.heap ≡ next_from n j b t r
      go true e y f = rw (e, next_from)
      go false e true f = rw (e, f, next_from) (next_page_lem ∙ sym page)
      go false e false f = last (eqb (at r.heap t) 0) refl e f

  -- it fits into a word
  pub next_small : next_scan n j b r < 4294967296
  unfolding next_scan next_from
  next_small = subst (λ x. next_from n j b x r < 4294967296) (sym end_plain) (go (eqb t (top_of r.table j)) refl (eqb (t % P) 0 || eqb (at r.heap t) 0) refl)
    where
      t_small : t < 4294967296
      t_small = let p = hi in let q = in_heap_lem k F.here in let c = heap_small S in omega arith

      page_small : (link n r.heap (b / P) - 1) * P + 2 < 4294967296
      page_small =
          let c = heap_small S in
          let z = mul-le-mul_right P link_known in
          let y = S.laid.big in
          rw page_is (omega arith)

      go : (x : Bool) → eqb t (top_of r.table j) ≡ x → (y : Bool) → (eqb (t % P) 0 || eqb (at r.heap t) 0) ≡ y → next_from n j b t r < 4294967296
      go true e y f = rw (e, next_from) t_small
      go false e true f = rw (e, f, next_from) page_small
      go false e false f = rw (e, f, next_from) t_small
