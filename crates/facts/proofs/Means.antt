-- From the audit's tests to facts: a heap within the limits whose rules hold is `Sound`. A page's owner is what its origin says, and its
-- values end where the list of them ends.
use Prim.Native.Nat.{ℕ, zero, suc, ◌+◌, ◌-◌, ◌*◌, ◌%◌, ◌^◌, ◌≤◌, ◌<◌}
use native.Mathlib.Nat.{div-add-mod'}
use native.Mathlib.Omega.{arith}
use mathlib.Core.Path.{◌≡◌, refl, sym, ap, ◌∙◌}
use mathlib.Core.Logic.{◌≢◌, ◌⊎◌, inl, inr}
use mathlib.Core.Bool.{Bool, true, false, ◌&&◌}
use mathlib.Core.List.Memᴰ
use mathlib.Core.List.{List, ◌∷◌, Memᴰ}
use lib.ListN.{length, drop}
use lib.Dec.{leb, ltb, eqb}
use borrow.Author.Tests.{ltb-true, lt-ltb, eqb-true}
use Rattle.laws.specs.Lists.{at, all, all_below, zeros, times}
use Rattle.laws.proofs.Tests.{both, eight_hold, all_in, below_in}
use Rattle.laws.proofs.Facts.{all_at, zeros_behind}
use Rattle.laws.proofs.Once.{has_last, last_in, Linked, linked_once, linked_last, each_once}
use Rattle.rules.specs.Memory.{Store, page_count, address_page, region_origin, page_words, body_words, body_address, page_end, link, origin, row, end_of, first_of, status_of, first_link, region_pages, free_pages, pages_from}
use Rattle.rules.specs.Words.{vals, page_vals, used_of, fields_pass}
use Rattle.rules.specs.Audit.{each_page, if_last, rule2, opens, ends_well, last_link, all_chains, rule3, ends_at, rule4, filled, page_filled, rule5, good_word, rule6, rule7, const_field, rule8, clean, rule9, first_failing, broken_rule}
use Rattle.rules.specs.Pages.{begun}
use Rattle.rules.specs.Refusals.{Admitted, within_limits}
use Rattle.rules.proofs.Limits.{paged_size, whole_pages}
use Rattle.rules.proofs.Chains.{length_page, at_page}
use Rattle.rules.proofs.Whole as W
use Rattle.rules.proofs.Steps.{steps_end, holds_all, listed_steps, all_listed}
use Rattle.facts.proofs.Laid.{spare≢beyond, mine≢beyond, Owner, spare, beyond, mine, Body, Clean, RowLast, Layout}
use Rattle.rules.proofs.Judged.{Passes, passed_admitted}
use Rattle.facts.proofs.Filled.{filled_rest, fields_in}
use Rattle.facts.proofs.Goods.{page_ends, body_holds, body_ends, body_listed, good_of, const_of}
use Rattle.rules.proofs.Limits as Limits
use Rattle.facts.proofs.Sound.{Within, Good, Constants, Chained, in_free, in_region, EachField, Sound, chained_mine, chained_spare}

-- ---- the rules, each by itself

pub record Rules (s : Store) : Type 0 where
  pub two : rule2 s ≡ true
  pub three : rule3 s ≡ true
  pub four : rule4 s ≡ true
  pub five : rule5 s ≡ true
  pub six : rule6 s ≡ true
  pub seven : rule7 s ≡ true
  pub eight : rule8 s ≡ true
  pub nine : rule9 s ≡ true

passed : (i : ℕ) (p : Store → Bool) (ps : List (Store → Bool)) (s : Store) → first_failing (suc i) (p ∷ ps) s ≡ 0 → (p s ≡ true) × (first_failing (suc (suc i)) ps s ≡ 0)
unfolding first_failing
passed i p ps s e = go (p s) refl
  where
    go : (b : Bool) → p s ≡ b → (p s ≡ true) × (first_failing (suc (suc i)) ps s ≡ 0)
    go true q = (q, rw (first_failing, q) at e)
    go false q = let z : suc i ≡ 0 = rw (first_failing, q) at e in absurd (omega arith)

rules_hold : (s : Store) → broken_rule s ≡ 0 → Rules s
unfolding broken_rule
rules_hold s e =
    let p2 = passed 1 rule2 _ s e in
    let p3 = passed 2 rule3 _ s p2.1 in
    let p4 = passed 3 rule4 _ s p3.1 in
    let p5 = passed 4 rule5 _ s p4.1 in
    let p6 = passed 5 rule6 _ s p5.1 in
    let p7 = passed 6 rule7 _ s p6.1 in
    let p8 = passed 7 rule8 _ s p7.1 in
    let p9 = passed 8 rule9 _ s p8.1 in
    record { two = p2.0; three = p3.0; four = p4.0; five = p5.0; six = p6.0; seven = p7.0; eight = p8.0; nine = p9.0 }

-- ---- whose each page is, and where its values end

abbrev pub owner_by : ℕ → Owner
owner_by zero = spare
owner_by (suc j) = mine j

unfoldable pub owner_in : ℕ → List ℕ → ℕ → Owner
owner_in n heap k = elim (ltb k (page_count n heap)) [ true ↦ owner_by (origin n heap k) | false ↦ beyond ]

abbrev pub end_in : ℕ → List ℕ → ℕ → ℕ
end_in n heap k = k * 2 ^ n + 2 + used_of (page_vals n heap k)

pub owner_is : (n : ℕ) (heap : List ℕ) (k : ℕ) → k < page_count n heap → owner_in n heap k ≡ owner_by (origin n heap k)
unfolding owner_in
owner_is n heap k b = rw (owner_in, lt-ltb k (page_count n heap) b)

pub owner_there : (n : ℕ) (heap : List ℕ) (k : ℕ) → owner_in n heap k ≢ beyond → k < page_count n heap
unfolding owner_in
owner_there n heap k ne = go (ltb k (page_count n heap)) refl
  where
    go : (b : Bool) → ltb k (page_count n heap) ≡ b → k < page_count n heap
    go true e = ltb-true _ _ e
    go false e = absurd (ne (rw (owner_in, e)))

-- ---- the limits

pub within_of : (s : Store) → within_limits s ≡ true → Within s
within_of s l = Limits.within _ _ _ _ _ l

-- ---- 8, which asks for the constants alone

pub constants_of : (s : Store) → rule8 s ≡ true → Constants s.consts
unfolding rule8
constants_of s t =
    let (f, g) = both {a = filled 0 s.consts} t in
    record {
      fin = 0 + used_of (vals 0 0 s.consts);
      filled = listed_steps s.consts (length s.consts) (all_listed s.consts);
      rest = filled_rest s.consts (length s.consts) 0 s.consts (holds_all s.consts) (omega arith) f;
      fields = λ a l i steps st r q.
          const_of (fields_in (const_field s.consts) s.consts (length s.consts) steps (all_listed s.consts) st r g i q);
    }

-- ---- the facts, rule by rule

module _ {s : Store} (p : Passes s) where
  abbrev n : ℕ
  n = s.ctl.n

  abbrev N : ℕ
  N = page_count s.ctl.n s.heap

  abbrev R : ℕ
  R = s.ctl.regions

  adm : Admitted (length s.heap) (length s.table) (length s.roots) (length s.consts) s.ctl
  adm = passed_admitted s p

  rules : Rules s
  rules = rules_hold s p.unbroken

  big : 16 ≤ 2 ^ n
  big = (paged_size n (length s.heap) adm.paged).0

  -- 2
  past : (x : ℕ) → 4 * R ≤ x → x < 256 → at s.table x ≡ 0
  unfolding rule2
  past x p q =
      let (t, _) = both {a = leb R 64 && zeros (drop (row R) s.table)} rules.two in
      let (_, z) = both {a = leb R 64} t in
      let len = adm.table in
      zeros_behind (4 * R) s.table z x p (omega arith)

  idle : (j : ℕ) → j < R → status_of s.table j ≡ 0
  unfolding rule2
  idle j b =
      let (_, z) = both {a = leb R 64 && zeros (drop (row R) s.table)} rules.two in
      eqb-true _ 0 (below_in (λ j. eqb (status_of s.table j) 0) R z j b)

  -- 3
  record Three : Type 0 where
    open_at : all_below (opens n s.heap s.table) R ≡ true
    each : all_below (λ k. eqb (times k (all_chains n s.heap s.table R s.ctl.first)) 1) N ≡ true
    ends : all_below (λ j. ends_well n s.heap (first_link n s.table j)) R ≡ true
    free_ends : ends_well n s.heap s.ctl.first ≡ true
    origins : each_page (λ j k. eqb (origin n s.heap k) (region_origin j)) n s.heap s.table R ≡ true
    free_origins : all (λ k. eqb (origin n s.heap k) 0) (free_pages n s.heap s.ctl.first) ≡ true
    last : s.ctl.last ≡ last_link (free_pages n s.heap s.ctl.first)
    count : s.ctl.count ≡ length (free_pages n s.heap s.ctl.first)

  three : Three
  unfolding rule3
  three =
      let A : Bool = all_below (opens n s.heap s.table) R in
      let B : Bool = all_below (λ k. eqb (times k (all_chains n s.heap s.table R s.ctl.first)) 1) N in
      let C : Bool = all_below (λ j. ends_well n s.heap (first_link n s.table j)) R in
      let D : Bool = ends_well n s.heap s.ctl.first in
      let E : Bool = each_page (λ j k. eqb (origin n s.heap k) (region_origin j)) n s.heap s.table R in
      let F : Bool = all (λ k. eqb (origin n s.heap k) 0) (free_pages n s.heap s.ctl.first) in
      let G : Bool = eqb s.ctl.last (last_link (free_pages n s.heap s.ctl.first)) in
      let (a, b, c, d, e, f, g, h) = eight_hold {a = A} {b = B} {c = C} {d = D} {e = E} {f = F} {g = G} rules.three in
      record { open_at = a; each = b; ends = c; free_ends = d; origins = e; free_origins = f; last = eqb-true _ _ g; count = eqb-true _ _ h }

  abbrev pages : ℕ → List ℕ
  pages j = region_pages n s.heap s.table j

  abbrev free : List ℕ
  free = free_pages n s.heap s.ctl.first

  links : (j : ℕ) → j < R → Linked (link n s.heap) (first_link n s.table j) (pages j)
  links = W.chain_links n s.heap s.table R s.ctl.first three.ends three.free_ends three.origins three.free_origins

  free_linked : Linked (link n s.heap) s.ctl.first free
  free_linked = W.free_links n s.heap s.table R s.ctl.first three.ends three.free_ends three.origins three.free_origins

  whose : (j k : ℕ) → j < R → Memᴰ k (pages j) → origin n s.heap k ≡ suc j
  whose = W.chain_origin n s.heap s.table R s.ctl.first three.ends three.free_ends three.origins three.free_origins

  nobodys : (k : ℕ) → Memᴰ k free → origin n s.heap k ≡ 0
  nobodys = W.free_origin n s.heap s.table R s.ctl.first three.ends three.free_ends three.origins three.free_origins

  region_there : (j k : ℕ) → Memᴰ k (pages j) → k < N
  region_there = W.region_there n s.heap s.table

  free_there : (k : ℕ) → Memᴰ k free → k < N
  free_there = W.free_there n s.heap s.table s.ctl.first

  region_own : (j k : ℕ) → j < R → Memᴰ k (pages j) → owner_in n s.heap k ≡ mine j
  region_own j k b m = owner_is n s.heap k (region_there j k m) ∙ ap owner_by (whose j k b m)

  free_own : (k : ℕ) → Memᴰ k free → owner_in n s.heap k ≡ spare
  free_own k m = owner_is n s.heap k (free_there k m) ∙ ap owner_by (nobodys k m)

  chained : (k : ℕ) → k < N → Chained R (owner_in n s.heap) pages free k
  chained k b =
      go (Memᴰ.append_cases (pages_from n s.heap s.table R 0) ((each_once N (W.chains_there n s.heap s.table R s.ctl.first) three.each).1 k b))
    where
      go : Memᴰ k (pages_from n s.heap s.table R 0) ⊎ Memᴰ k free → Chained R (owner_in n s.heap) pages free k
      go (inl m) =
          let r = W.pages_of_lem n s.heap s.table R 0 k m in
          let j : ℕ = r.0 in
          let c = r.2 in
          let j_r : j < R = omega arith in
          in_region j j_r (region_own j k j_r r.3) r.3
      go (inr m) = in_free (free_own k m) m

  -- a region's page is in its chain
  mine_there : (j k : ℕ) → owner_in n s.heap k ≡ mine j → (j < R) × Memᴰ k (pages j)
  mine_there j k o = chained_mine (chained k (owner_there n s.heap k (mine≢beyond o))) o

  spare_there : (k : ℕ) → owner_in n s.heap k ≡ spare → Memᴰ k free
  spare_there k o = chained_spare (chained k (owner_there n s.heap k (spare≢beyond o))) o

  -- a test of each page of each region, at one of them
  at_page_of : (q : ℕ → ℕ → Bool) → each_page q n s.heap s.table R ≡ true → (j k : ℕ) → j < R → Memᴰ k (pages j) → q j k ≡ true
  at_page_of = W.each_page_in n s.heap s.table R

  opened : (j : ℕ) → j < R → first_of s.table j ≡ address_page n (first_of s.table j) * 2 ^ n
  unfolding opens
  opened j b =
      let (t, _) = both {a = eqb (first_of s.table j % 2 ^ n) 0} (below_in (opens n s.heap s.table) R three.open_at j b) in
      let e = eqb-true (first_of s.table j % 2 ^ n) 0 t in
      let d = div-add-mod' (first_of s.table j) (2 ^ n) in
      omega arith

  -- 5
  body : (j k : ℕ) → j < R → Memᴰ k (pages j) → Body n s.heap k j (end_in n s.heap k)
  unfolding rule5 page_filled page_vals origin
  body j k b m =
      let there = region_there j k m in
      let (t, _) = both {a = filled (body_address n k) (body_words n s.heap k)} (at_page_of (page_filled n s.heap s.table) rules.five j k b m) in
      let steps = listed_steps s.heap (k * 2 ^ n + 2 ^ n) (body_listed n s.heap adm.paged k there) in
      let g = big in
      record {
        whose = whose j k b m;
        filled = steps;
        inside = steps_end steps (omega arith);
        rest = filled_rest s.heap (k * 2 ^ n + 2 ^ n) (k * 2 ^ n + 2) (body_words n s.heap k) (body_holds n s.heap adm.paged k there) (body_ends n s.heap adm.paged k there) t;
      }

  -- 4 and 5: the last page
  top : (j : ℕ) → j < R → RowLast n s.table (end_in n s.heap) j (pages j)
  unfolding rule4 rule5 ends_at page_filled
  top j b =
      let z = has_last (links j b) in
      let k : ℕ = z.0 in
      let m = last_in z.1 in
      let l : link n s.heap k ≡ 0 = linked_last (links j b) z.1 in
      let (t₄, _) = both {a = each_page (ends_at n s.heap s.table) n s.heap s.table R} rules.four in
      let e₄ : if_last (link n s.heap k) (eqb (end_of s.table j) (page_end n k)) ≡ true = at_page_of (ends_at n s.heap s.table) t₄ j k b m in
      let (_, e₅) = both {a = filled (body_address n k) (body_words n s.heap k)} (at_page_of (page_filled n s.heap s.table) rules.five j k b m) in
      record { page = k; last = z.1; end = eqb-true _ _ (last_page_lem l e₄); top = sym (eqb-true _ _ (last_page_lem l e₅)) }
    where
      last_page_lem : {l : ℕ} {t : Bool} → l ≡ 0 → if_last l t ≡ true → t ≡ true
      last_page_lem e t = unfold if_last in (rw e at t)

  -- 9
  cleans : (k : ℕ) → Memᴰ k free → Clean n s.heap k
  unfolding rule9 clean
  cleans k m =
      let t : zeros (drop 1 (page_words n s.heap k)) ≡ true = all_in (clean n s.heap) free rules.nine k m in
      let len = length_page n s.heap k (page_ends n s.heap adm.paged k (free_there k m)) in
      record {
        rest = λ x p q.
            let e : x ≡ k * 2 ^ n + (x - k * 2 ^ n) = omega arith in
            ap (at s.heap) e ∙ sym (at_page n s.heap k (x - k * 2 ^ n) (omega arith)) ∙ zeros_behind 1 (page_words n s.heap k) t (x - k * 2 ^ n) (omega arith) (omega arith);
      }

  laid : Layout n N R (owner_in n s.heap) (end_in n s.heap) pages free (begun s)
  laid =
      record {
        size = sym (whole_pages n (length s.heap) adm.paged);
        big = big;
        rows = let a = adm.regions in let b = adm.table in omega arith;
        known = owner_there n s.heap;
        free_own = free_own;
        free_once = linked_once free_linked;
        free_links = free_linked;
        free_last_lem = three.last;
        free_count = three.count;
        free_clean = λ k o. cleans k (spare_there k o);
        mine_own = region_own;
        mine_once = λ j b. linked_once (links j b);
        mine_links = λ j b. record { page = address_page n (first_of s.table j); first = opened j b; links = links j b };
        mine_body = λ j k o. let t = mine_there j k o in body j k t.0 t.1;
        mine_top = top;
      }

  -- 6
  fields : EachField n R s.heap pages (Good n R s.heap s.consts)
  unfolding rule6
  fields j k a l i b m v r q =
      let there = region_there j k m in
      let t = at_page_of (λ j k. all (fields_pass (good_word s)) (page_vals n s.heap k)) rules.six j k b m in
      good_of adm.paged (fields_in (good_word s) s.heap (k * 2 ^ n + 2 ^ n) v.steps (body_listed n s.heap adm.paged k there) v.stands r t i q)

  -- 7
  roots : (i : ℕ) → i < length s.roots → Good n R s.heap s.consts (at s.roots i)
  unfolding rule7
  roots i b = good_of adm.paged (all_at (good_word s) s.roots rules.seven i b)

  pub sound_of : Sound s
  sound_of =
      record {
        within = within_of s p.limits;
        own = owner_in n s.heap;
        fin = end_in n s.heap;
        pages = pages;
        free = free;
        regions = adm.regions;
        past = past;
        idle = idle;
        laid = laid;
        chained = chained;
        fields = fields;
        roots = roots;
        consts = constants_of s rules.eight;
      }
