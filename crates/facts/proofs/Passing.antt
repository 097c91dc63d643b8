-- From facts to the audit's tests: a `Sound` heap passes, so that `Sound` is exactly what the audit's yes means. The chains are the lists
-- that `Sound` names, since linked pages of which each stands once are at most N.
use Rattle.std.specs.Prelude.{Ok}
use Prim.Native.Nat.{ℕ, zero, suc, ◌+◌, ◌*◌, ◌%◌, ◌^◌, ◌≤◌, ◌<◌, zero-le}
use native.Mathlib.Nat.{mul-mod_left}
use native.Mathlib.Omega.{arith}
use mathlib.Core.Path.{◌≡◌, refl, sym, ap, ◌∙◌}
use mathlib.Core.Logic.{◌↔◌}
use mathlib.Core.Bool.{Bool, true, beq}
use mathlib.Core.List.Memᴰ
use mathlib.Core.List.{List, Memᴰ}
use lib.ListN.{length}
use lib.Dec.{eqb}
use borrow.Author.Tests.{lt-ltb, le-leb, eq-eqb, ne_eqb}
use Rattle.laws.specs.Lists.{all}
use Rattle.laws.proofs.Facts.{and_of, all_of, at_all, below_of, behind_zeros}
use Rattle.laws.proofs.Once.{Once, last_one, Linked, stop, goes, linked_fits, linked_ends, once_each}
use Rattle.rules.specs.declared.Control.{Control}
use Rattle.rules.specs.Memory.{Store, limits, page_count, region_origin, page_words, body_words, link, origin, end_of, top_of, status_of, chain, chain_end, first_link, region_pages, free_pages, pages_from}
use Rattle.rules.specs.Words.{page_vals, used_of, fields_pass}
use Rattle.rules.specs.Audit.{each_page, if_last, rule2, opens, ends_well, last_link, all_chains, rule3, ends_at, top_fits, rule4, page_filled, rule5, good_word, rule6, rule7, const_field, rule8, clean, rule9, first_failing, broken_rule}
use Rattle.rules.specs.Refusals.{Paged, common, within_limits, common_test}
use Rattle.rules.specs.Calls.{audit}
use Rattle.rules.specs.Collection.{from_space}
use Rattle.rules.proofs.Judged.{Passes, judged_yes}
use Rattle.rules.proofs.Chains.{length_page, at_page}
use Rattle.rules.proofs.Whole.{linked_chain, chains_once, of_pages, pages_of_lem, pages_once}
use Rattle.rules.proofs.Steps.{holds_all, listed_used, all_listed}
use Rattle.facts.proofs.Laid.{spare_origin, chain_body, chain_known, chain_few, free_known, free_few}
use Rattle.facts.proofs.Filled.{filled_of, fields_of_lem}
use Rattle.facts.proofs.Goods.{page_ends, body_holds, body_ends, body_listed, of_good, of_const}
use Rattle.facts.proofs.Cleared.{first_link_lem}
use Rattle.facts.proofs.Sound.{top_lies, Within, Chained, in_free, in_region, Sound}
use Rattle.facts.proofs.Means.{Rules, sound_of}

pub hold_rules : (s : Store) → Rules s → broken_rule s ≡ 0
unfolding broken_rule first_failing
hold_rules s r = rw (first_failing, r.two, r.three, r.four, r.five, r.six, r.seven, r.eight, r.nine)

-- ---- the limits

pub within_limits_lem : (s : Store) → Within s → within_limits s ≡ true
unfolding limits
within_limits_lem s w =
    and_of (and_of (and_of (and_of (and_of (and_of (and_of
    (le-leb _ _ w.paged.low) (le-leb _ _ w.paged.high)) (eq-eqb _ _ w.paged.whole)) (le-leb _ _ w.two)) (le-leb _ _ w.paged.size))
    (eq-eqb _ _ w.table)) (le-leb _ _ w.roots)) (le-leb _ _ w.consts)

module _ {s : Store} (S : Sound s) where
  abbrev n : ℕ
  n = s.ctl.n

  abbrev N : ℕ
  N = page_count s.ctl.n s.heap

  abbrev R : ℕ
  R = s.ctl.regions

  abbrev paged : Paged s.ctl.n (length s.heap)
  paged = S.within.paged

  -- ---- the chains are those that the facts name

  pub first_page : (j : ℕ) (b : j < R) → first_link n s.table j ≡ suc (S.laid.mine_links j b).page
  first_page j b = first_link_lem n s.table j (S.laid.mine_links j b).page S.laid.big (S.laid.mine_links j b).first

  chain_is : (j : ℕ) → j < R → (chain N n s.heap (first_link n s.table j) ≡ S.pages j) × (chain_end N n s.heap (first_link n s.table j) ≡ 0)
  chain_is j b =
      rw (first_page j b)
      (linked_chain n s.heap N (S.laid.mine_links j b).links (chain_known S.laid j b)
      (chain_few S.laid j b))

  free_is : (chain N n s.heap s.ctl.first ≡ S.free) × (chain_end N n s.heap s.ctl.first ≡ 0)
  free_is = linked_chain n s.heap N S.laid.free_links (free_known S.laid) (free_few S.laid)

  pub pages_are : (j : ℕ) → j < R → region_pages n s.heap s.table j ≡ S.pages j
  unfolding region_pages
  pages_are j b = (chain_is j b).0

  pub free_are : free_pages n s.heap s.ctl.first ≡ S.free
  unfolding free_pages
  free_are = free_is.0

  whose : (j k : ℕ) → j < R → Memᴰ k (S.pages j) → origin n s.heap k ≡ suc j
  unfolding origin
  whose j k b m = (chain_body S.laid j k b m).whose

  nobodys : (k : ℕ) → Memᴰ k S.free → origin n s.heap k ≡ 0
  unfolding origin
  nobodys k m = spare_origin S.laid k (S.laid.free_own k m)

  -- ---- the regions' pages together

  walked_once : (j : ℕ) → j < R → Once (region_pages n s.heap s.table j)
  walked_once j b = rw (pages_are j b) (S.laid.mine_once j b)

  walked_whose : (j k : ℕ) → j < R → Memᴰ k (region_pages n s.heap s.table j) → origin n s.heap k ≡ suc j
  walked_whose j k b m = whose j k b (rw (pages_are j b) at m)

  pub from_once : Once (from_space s)
  from_once = pages_once n s.heap s.table R walked_once walked_whose R 0 (omega arith)

  pub in_from : (k : ℕ) → Memᴰ k (from_space s) → (j : ℕ) × (j < R) × Memᴰ k (S.pages j)
  in_from k m =
      let t = pages_of_lem n s.heap s.table R 0 k m in
      let b : t.0 < R = (let c = t.2 in omega arith) in
      (t.0, b, rw (pages_are t.0 b) at t.3)

  pub of_from : (j k : ℕ) → j < R → Memᴰ k (S.pages j) → Memᴰ k (from_space s)
  of_from j k b m = of_pages n s.heap s.table R 0 j k zero-le (omega arith) (rw (pages_are j b) m)

  -- ---- the common test

  both_or_none : (ks : List ℕ) {x c : ℕ} → Linked (link n s.heap) x ks → c ≡ length ks → beq (eqb x 0) (eqb c 0) ≡ true
  both_or_none ks stop e = rw e
  both_or_none ks (goes {k} {ks = ms} t) e = rw (e, ne_eqb (suc k) 0 (λ (q : suc k ≡ 0). omega arith), ne_eqb (suc (length ms)) 0 (λ (q : suc (length ms) ≡ 0). omega arith))

  commons : common_test s ≡ true
  unfolding common
  commons =
      let c = S.laid.free_count in
      let m = free_few S.laid in
      and_of (and_of (and_of
      (le-leb _ _ S.regions) (le-leb _ _ (linked_fits S.laid.free_links (free_known S.laid)))) (le-leb s.ctl.count N (omega arith)))
      (both_or_none S.free S.laid.free_links c)

  -- ---- the rules

  -- a test of each page of each region
  each_page_lem : (q : ℕ → ℕ → Bool) → ((j k : ℕ) → j < R → Memᴰ k (S.pages j) → q j k ≡ true) → each_page q n s.heap s.table R ≡ true
  each_page_lem q f =
      below_of (λ j. all (q j) (region_pages n s.heap s.table j)) R
      (λ j b. all_of (q j) (region_pages n s.heap s.table j) (λ k m. f j k b (rw (pages_are j b) at m)))

  each_free : (q : ℕ → Bool) → ((k : ℕ) → Memᴰ k S.free → q k ≡ true) → all q (free_pages n s.heap s.ctl.first) ≡ true
  each_free q f = all_of q (free_pages n s.heap s.ctl.first) (λ k m. f k (rw free_are at m))

  two : rule2 s ≡ true
  unfolding rule2
  two =
      and_of (and_of (le-leb _ _ S.regions)
      (behind_zeros (4 * R) s.table (λ x p q. let len = S.within.table in S.past x p (omega arith))))
      (below_of (λ j. eqb (status_of s.table j) 0) R (λ j b. eq-eqb _ _ (S.idle j b)))

  chains_all_once : Once (all_chains n s.heap s.table R s.ctl.first)
  chains_all_once =
      chains_once n s.heap s.table R walked_once walked_whose s.ctl.first (rw free_are S.laid.free_once) (λ k m. nobodys k (rw free_are at m))

  in_chains : (k : ℕ) → Chained R S.own S.pages S.free k → Memᴰ k (all_chains n s.heap s.table R s.ctl.first)
  in_chains k (in_free o m) = Memᴰ.append_right (pages_from n s.heap s.table R 0) (rw free_are m)
  in_chains k (in_region j b o m) =
      Memᴰ.append_left (free_pages n s.heap s.ctl.first) (of_from j k b m)

  opened : (j : ℕ) → j < R → opens n s.heap s.table j ≡ true
  unfolding opens
  opened j b =
      let t = S.laid.mine_links j b in
      let there : first_link n s.table j ≤ N = rw (first_page j b) (linked_fits t.links (chain_known S.laid j b)) in
      and_of (eq-eqb _ _ (ap (λ x. x % 2 ^ n) t.first ∙ mul-mod_left t.page (2 ^ n))) (lt-ltb _ N there)

  three : rule3 s ≡ true
  unfolding rule3 ends_well
  three =
      and_of (and_of (and_of (and_of (and_of (and_of (and_of
      (below_of (opens n s.heap s.table) R opened)
      (once_each N chains_all_once (λ k b. in_chains k (S.chained k b))))
      (below_of (λ j. ends_well n s.heap (first_link n s.table j)) R (λ j b. eq-eqb _ _ (chain_is j b).1)))
      (eq-eqb _ _ free_is.1))
      (each_page_lem (λ j k. eqb (origin n s.heap k) (region_origin j)) (λ j k b m. eq-eqb _ _ (whose j k b m))))
      (each_free (λ k. eqb (origin n s.heap k) 0) (λ k m. eq-eqb _ _ (nobodys k m))))
      (eq-eqb _ _ (S.laid.free_last_lem ∙ ap last_link (sym free_are))))
      (eq-eqb _ _ (S.laid.free_count ∙ ap length (sym free_are)))

  -- a page whose link is 0 is the last
  if_last_lem : (j k : ℕ) (b : j < R) → Memᴰ k (S.pages j) → (t : Bool) → (k ≡ (S.laid.mine_top j b).page → t ≡ true) → if_last (link n s.heap k) t ≡ true
  unfolding if_last
  if_last_lem j k b m t f = go (link n s.heap k) refl
    where
      go : (l : ℕ) → link n s.heap k ≡ l → if_last l t ≡ true
      go zero e = f (last_one (linked_ends (S.laid.mine_links j b).links m e) (S.laid.mine_top j b).last)
      go (suc l) e = refl

  four : rule4 s ≡ true
  unfolding rule4 ends_at top_fits
  four =
      and_of
      (each_page_lem (ends_at n s.heap s.table)
      (λ j k b m. if_last_lem j k b m _ (λ e. eq-eqb _ _ ((S.laid.mine_top j b).end ∙ ap (λ x. x * 2 ^ n + 2 ^ n) (sym e)))))
      (below_of (top_fits n s.table) R
      (λ j b.
      let t = top_lies S j b in
      and_of (le-leb (end_of s.table j + 2) (top_of s.table j + 2 ^ n) t.0) (le-leb (top_of s.table j) (end_of s.table j) t.1)))

  -- what stands in a page ends where the list of its values does
  pub ends_at_lem : (j k : ℕ) → j < R → Memᴰ k (S.pages j) → k * 2 ^ n + 2 + used_of (page_vals n s.heap k) ≡ S.fin k
  ends_at_lem j k b m =
      let x = chain_body S.laid j k b m in
      listed_used s.heap (k * 2 ^ n + 2 ^ n) x.filled (body_listed n s.heap paged k (chain_known S.laid j b k m)) x.rest

  five : rule5 s ≡ true
  unfolding rule5 page_filled
  five =
      each_page_lem (page_filled n s.heap s.table)
      (λ j k b m.
      let x = chain_body S.laid j k b m in
      let there = chain_known S.laid j b k m in
      and_of
      (filled_of s.heap (k * 2 ^ n + 2 ^ n) (k * 2 ^ n + 2) (body_words n s.heap k) (body_holds n s.heap paged k there) (body_ends n s.heap paged k there) (S.fin k) x.filled x.rest)
      (if_last_lem j k b m _ (λ e. eq-eqb _ _ (ends_at_lem j k b m ∙ ap S.fin e ∙ sym (S.laid.mine_top j b).top))))

  six : rule6 s ≡ true
  unfolding rule6
  six =
      each_page_lem (λ j k. all (fields_pass (good_word s)) (page_vals n s.heap k))
      (λ j k b m.
      fields_of_lem (good_word s) s.heap (k * 2 ^ n + 2 ^ n) (body_listed n s.heap paged k (chain_known S.laid j b k m))
      (λ a l i st x r q. of_good paged (S.fields j k a l i b m (record { steps = st; stands = x }) r q)))

  seven : rule7 s ≡ true
  unfolding rule7
  seven = at_all (good_word s) s.roots (λ i b. of_good paged (S.roots i b))

  eight : rule8 s ≡ true
  unfolding rule8
  eight =
      and_of
      (filled_of s.consts (length s.consts) 0 s.consts (holds_all s.consts) (omega arith) S.consts.fin S.consts.filled S.consts.rest)
      (fields_of_lem (const_field s.consts) s.consts (length s.consts) (all_listed s.consts)
      (λ a l i st x r q. of_const (S.consts.fields a l i st x r q)))

  nine : rule9 s ≡ true
  unfolding rule9 clean
  nine =
      each_free (clean n s.heap)
      (λ k m.
      let len = length_page n s.heap k (page_ends n s.heap paged k (free_known S.laid k m)) in
      behind_zeros 1 (page_words n s.heap k)
      (λ i p q. at_page n s.heap k i (omega arith) ∙ (S.laid.free_clean k (S.laid.free_own k m)).rest (k * 2 ^ n + i) (omega arith) (omega arith)))

  pub passes_of : Passes s
  passes_of =
      record {
        limits = within_limits_lem s S.within;
        common = commons;
        unbroken = hold_rules s (record { two = two; three = three; four = four; five = five; six = six; seven = seven; eight = eight; nine = nine });
      }

-- ---- the meaning of yes

pub meaning : (s : Store) → Passes s ↔ Sound s
meaning s = (sound_of, passes_of)

-- after a yes the heap is sound
pub judged_sound : (s : Store) (c : Control) → Ok c ≡ audit s → Sound s
judged_sound s c e = (meaning s).0 (judged_yes s e)
