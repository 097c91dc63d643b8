-- A page taken at work and in the plain run: the same page, with link 0 in both. At work its origin word keeps its free link, which is the one that
-- it had at the start, since the free list is what is left of that list.
use Prim.Native.Nat.{ℕ, suc, ◌+◌, ◌*◌, ◌^◌, ◌≤◌, ◌<◌}
use native.Mathlib.Nat.{mod-eq_of_lt}
use native.Mathlib.Numerals.{sub-one}
use native.Mathlib.Omega.{arith}
use native.Mathlib.Decide.{ℕ_discrete}
use mathlib.Core.Path.{◌≡◌, refl, sym, ap, ◌∙◌}
use mathlib.Core.Logic.{◌≢◌, ◌⊎◌, inl, inr}
use mathlib.Core.List.Memᴰ
use mathlib.Core.List.{List, [], ◌∷◌, ◌++◌, append_assoc, Memᴰ}
use lib.ListN.{length, set, length-set, length-append}
use lib.Seq.{get_or-set_same, get_or-set_other}
use borrow.Author.Tests.{le-leb, ne_eqb}
use Rattle.laws.specs.Lists.{at}
use Rattle.laws.specs.Each.{after}
use Rattle.laws.proofs.Lists.{starts_differ, second_none}
use Rattle.laws.proofs.Once.{Linked, linked_first, linked_none, in_snoc}
use Rattle.rules.specs.Memory.{Store, page_count, link}
use Rattle.rules.specs.Pages.{Run}
use Rattle.rules.proofs.Limits.{pages_few}
use Rattle.facts.proofs.Laid.{Owner, spare, mine, Layout, upd, upd_same, upd_other, spare≢mine, spare≢beyond, page_in, free_few, free_known, first_spare, first_is}
use Rattle.facts.proofs.Sound.{Sound}
use Rattle.rules.proofs.Pages as T
use Rattle.motion.specs.Leaves.{Desk, desk, low, free_first, taken, page_start}
use Rattle.motion.specs.Run.{take_at, take_on, take_free}
use Rattle.agreement.proofs.Matching.{Plain, Alike}
use Rattle.agreement.proofs.Frames.{noted_same, set_alike, link_same}

-- a small number is its 32 bits
pub low_is : (v : ℕ) → v < 4294967296 → low v ≡ v
low_is v b = mod-eq_of_lt b

-- two lists of links with the same pages begin alike
pub same_start : {l m : ℕ → ℕ} {x y : ℕ} (ks : List ℕ) → Linked l x ks → Linked m y ks → x ≡ y
same_start [] p q = linked_none p ∙ sym (linked_none q)
same_start (k ∷ ks) p q = (linked_first p).0 ∙ sym (linked_first q).0

pub linked_on : {l : ℕ → ℕ} {x : ℕ} {k : ℕ} {ks : List ℕ} (ts : List ℕ) → Linked l x (ts ++ k ∷ ks) → Linked l (l k) ks
linked_on [] p = (linked_first p).1
linked_on (t ∷ ts) p = linked_on ts (linked_first p).1

module _ {s : Store} (S : Sound s) where
  pub few_pages : page_count s.ctl.n s.heap ≤ 65536
  few_pages = pages_few s.ctl.n (length s.heap) (page_count s.ctl.n s.heap) S.within.paged refl

  pub heap_small : page_count s.ctl.n s.heap * 2 ^ s.ctl.n ≤ 65536
  heap_small = let a = S.laid.size in let b = S.within.paged.size in omega arith

  -- a page of the heap
  pub start_is : (k : ℕ) → k < page_count s.ctl.n s.heap → page_start s.ctl.n k ≡ k * 2 ^ s.ctl.n
  unfolding page_start
  start_is k b = let c = few_pages in rw (le-leb k 65536 (omega arith))

-- ---- a page that can be taken

-- page k is taken
abbrev pub took_desk : ℕ → ℕ → Desk → Desk
took_desk n k d =
    desk (set (set d.heap (k * 2 ^ n) 0) (k * 2 ^ n + 1) (at d.heap (k * 2 ^ n)))
    (set (set d.notes free_first (at d.heap (k * 2 ^ n))) taken (low (at d.notes taken + 1)))

module _ {s : Store} {S : Sound s} {own : ℕ → Owner} {k : ℕ} {ks : List ℕ} {r : Run} {d : Desk} {R : ℕ} {fin : ℕ → ℕ} {pages : ℕ → List ℕ} (M : Alike s S own (k ∷ ks) r d)
    (L : Layout s.ctl.n (page_count s.ctl.n s.heap) R own fin pages (k ∷ ks) r) where
  abbrev n : ℕ
  n = s.ctl.n

  abbrev N : ℕ
  N = page_count n s.heap

  abbrev P : ℕ
  P = 2 ^ n

  own_k : own k ≡ spare
  own_k = first_spare L

  k_known : k < N
  k_known = free_known L k (Memᴰ.head refl)

  k_in : k * P + P ≤ length r.heap
  k_in = page_in L k (spare≢beyond own_k)

  -- its link is the one of before
  link_was : link n r.heap k ≡ link n s.heap k
  link_was =
      let p : Linked (link n s.heap) s.ctl.first (M.took ++ k ∷ ks) = rw M.front at S.laid.free_links in
      same_start ks (linked_first L.free_links).1 (linked_on M.took p)

  abbrev d' : Desk
  d' = took_desk n k d

  pub takes : take_free n d ≡ after (suc k) d'
  unfolding take_on take_at
  takes =
      let e : at d.notes free_first ≡ suc k = M.free_first_lem ∙ first_is L refl in
      let b = start_is S k k_known in
      rw (e, take_on, ne_eqb (suc k) 0 (omega arith), sub-one (suc k), b)

  -- region j takes it
  module _ (j : ℕ) where
    abbrev own' : ℕ → Owner
    own' = upd own k (mine j)

    mine_now : (l i : ℕ) → own l ≡ mine i → own' l ≡ mine i
    mine_now l i o = upd_other own k (mine j) l (λ q. spare≢mine own_k (ap own (sym q) ∙ o)) ∙ o

    far : (l : ℕ) → l ≢ k → (l * P + 1 ≢ k * P) × (l * P + 1 ≢ k * P + 1)
    far l ne = let b = L.big in (second_none P k l (omega arith), λ q. starts_differ P l k (omega arith) ne (omega arith))

    words : (x : ℕ) → Plain s own' x → at d'.heap x ≡ at (T.taken n j k r).heap x
    unfolding T.taken
    words x plain =
        let ne : x ≢ k * P + 1 = plain k j (upd_same own k (mine j) k refl) in
        let a = k_in in
        let b = L.big in
        let c = M.heap_length in
        get_or-set_other (set d.heap (k * P) 0) (k * P + 1) x (at d.heap (k * P)) 0 ne
        ∙ set_alike d.heap r.heap (k * P) 0 x (omega arith) (omega arith) (λ q. M.words x (λ l i o. plain l i (mine_now l i o)))
        ∙ sym (get_or-set_other (set r.heap (k * P) 0) (k * P + 1) x (suc j) 0 ne)

    abbrev took' : List ℕ
    took' = M.took ++ k ∷ []

    owned_to : (l : ℕ) → Memᴰ l took' → (i : ℕ) × (own' l ≡ mine i)
    owned_to l m = go (in_snoc M.took m)
      where
        go : Memᴰ l M.took ⊎ (l ≡ k) → (i : ℕ) × (own' l ≡ mine i)
        go (inl q) = let t = (M.owned l).0 q in (t.0, mine_now l t.0 t.1)
        go (inr q) = (j, upd_same own k (mine j) l q)

    owned_from : (l : ℕ) → (i : ℕ) × (own' l ≡ mine i) → Memᴰ l took'
    owned_from l t = go (ℕ_discrete l k)
      where
        go : Dec (l ≡ k) → Memᴰ l took'
        go (yes q) = Memᴰ.append_right M.took (Memᴰ.head q)
        go (no ne) = Memᴰ.append_left (k ∷ []) ((M.owned l).1 (t.0, sym (upd_other own k (mine j) l ne) ∙ t.1))

    kept : (l : ℕ) → Memᴰ l took' → at d'.heap (l * P + 1) ≡ link n s.heap l
    kept l m = go (ℕ_discrete l k)
      where
        by : l ≢ k → Memᴰ l M.took ⊎ (l ≡ k) → at d'.heap (l * P + 1) ≡ link n s.heap l
        by ne (inl q) =
            let f = far l ne in
            get_or-set_other (set d.heap (k * P) 0) (k * P + 1) (l * P + 1) (at d.heap (k * P)) 0 f.1
            ∙ get_or-set_other d.heap (k * P) (l * P + 1) 0 0 f.0 ∙ M.kept_link l q
        by ne (inr q) = absurd (ne q)

        go : Dec (l ≡ k) → at d'.heap (l * P + 1) ≡ link n s.heap l
        go (yes q) =
            let a = k_in in
            let b = L.big in
            let c = M.heap_length in
            let e : l * P + 1 ≡ k * P + 1 = ap (λ x. x * P + 1) q in
            ap (at d'.heap) e
            ∙ get_or-set_same (set d.heap (k * P) 0) (k * P + 1) (at d.heap (k * P)) 0 (rw (length-set d.heap (k * P) 0) (omega arith))
            ∙ link_same M k ∙ link_was ∙ ap (link n s.heap) (sym q)
        go (no ne) = by ne (in_snoc M.took m)

    abbrev notes₁ : List ℕ
    notes₁ = set d.notes free_first (at d.heap (k * P))

    else_notes : (x : ℕ) → x ≢ free_first → x ≢ taken → at d'.notes x ≡ at d.notes x
    else_notes x a b =
        get_or-set_other notes₁ taken x (low (at d.notes taken + 1)) 0 b ∙ get_or-set_other d.notes free_first x (at d.heap (k * P)) 0 a

    notes_wide : length notes₁ ≡ 400
    notes_wide = length-set d.notes free_first (at d.heap (k * P)) ∙ M.notes_length_lem

    counted : low (at d.notes taken + 1) ≡ length took'
    counted =
        let a = few_pages S in
        let b = free_few S.laid in
        let c : length S.free ≡ length M.took + suc (length ks) = ap length M.front ∙ length-append M.took (k ∷ ks) in
        let t = M.taken_count in
        low_is (at d.notes taken + 1) (omega arith) ∙ ap (λ x. x + 1) t ∙ sym (length-append M.took (k ∷ []))

    pub took_matches : Alike s S own' ks (T.taken n j k r) d'
    unfolding T.taken
    took_matches =
        let regions = S.regions in
        let wide = M.notes_length_lem in
        record {
          heap_length =
              length-set (set d.heap (k * P) 0) (k * P + 1) (at d.heap (k * P)) ∙ length-set d.heap (k * P) 0 ∙ M.heap_length
              ∙ sym (T.taken_long n j k r);
          notes_length_lem = length-set notes₁ taken (low (at d.notes taken + 1)) ∙ notes_wide;
          words = words;
          took = took';
          front = M.front ∙ sym (append_assoc M.took (k ∷ []) ks);
          owned = λ l. (owned_to l, owned_from l);
          kept_link = kept;
          rows = λ i c i_r c4. else_notes (4 * i + c) (omega arith) (omega arith) ∙ M.rows i c i_r c4;
          free_first_lem =
              get_or-set_other notes₁ taken free_first (low (at d.notes taken + 1)) 0 (omega arith)
              ∙ get_or-set_same d.notes free_first (at d.heap (k * P)) 0 (omega arith) ∙ link_same M k;
          taken_count = get_or-set_same notes₁ taken (low (at d.notes taken + 1)) 0 (let w = notes_wide in omega arith) ∙ counted;
          free_last_lem = else_notes _ (omega arith) (omega arith) ∙ M.free_last_lem;
          given_none = else_notes _ (omega arith) (omega arith) ∙ M.given_none;
          shallow = M.shallow;
          deep = else_notes _ (omega arith) (omega arith) ∙ M.deep;
          noted = noted_same M.noted M.shallow (λ x p q. else_notes x (omega arith) (omega arith));
        }

-- no page can be taken
pub takes_none : {s : Store} {S : Sound s} {own : ℕ → Owner} {free : List ℕ} {r : Run} {d : Desk} → Alike s S own free r d → r.first ≡ 0 → take_free s.ctl.n d ≡ after 0 d
unfolding take_on
takes_none {d = d} M e = let q : at d.notes free_first ≡ 0 = M.free_first_lem ∙ e in rw (q, take_on)
