-- The old pages given back, by the notes and by the plain run: both clear the page and set it behind the last free one. The old chains are
-- still as they were, since a page's link is read before the page is given back. So both end with the same heap and free list.
use Prim.Native.Nat.{ℕ, suc, ◌+◌, ◌-◌, ◌*◌, ◌^◌, ◌≤◌, ◌<◌}
use native.Mathlib.Nat.{le_refl}
use native.Mathlib.Omega.{arith}
use mathlib.Core.Path.{◌≡◌, refl, sym, ap, ◌∙◌, subst}
use mathlib.Core.Logic.{◌≢◌}
use mathlib.Core.List.{List, [], ◌∷◌, ◌++◌, Memᴰ, cons≢nil}
use lib.ListN.{length, set, length-set, length-append}
use lib.Seq.{append_snoc, get_or-set_same, get_or-set_other, set_comm}
use borrow.Author.Tests.{le-leb, eq-eqb, ne_eqb}
use Rattle.laws.specs.Lists.{at, last_or}
use Rattle.laws.proofs.Once.{Once, once_tail, once_head, last_append}
use Rattle.rules.specs.Memory.{Store, page_count, link, pages_from}
use Rattle.rules.specs.Audit.{last_link}
use Rattle.rules.specs.Pages.{Run, with_free, clear_page, give_back, give_back_all}
use Rattle.rules.specs.Collection.{from_space}
use Rattle.facts.proofs.Laid.{upd, upd_other, old≢spare, old≢beyond, Owner, old, spare, Layout, page_in, free_known, free_few, first_none, first_is}
use Rattle.facts.proofs.Given.{last_link_lem, link_last, given as given_page, given_last, given_count, given_link, last_one_of}
use Rattle.facts.proofs.Passing.{pages_are, from_once}
use Rattle.facts.proofs.Sound.{Sound, descriptor_fits}
use Rattle.working.proofs.Log.{descriptor_kept}
use Rattle.working.proofs.Invariant.{Ghost, Inv, from_old}
use Rattle.motion.specs.Leaves.{Desk, desk, low, free_first, taken, free_last, given, page_start}
use Rattle.motion.specs.Whole.{give_on, give_back as give_desk, link_on, give_all}
use Rattle.agreement.proofs.Matching.{Matching}
use Rattle.agreement.proofs.Walked.{regions_keep}
use Rattle.agreement.proofs.Took.{low_is, few_pages}

-- ---- one page, both ways: it is the only free page, or it follows page z

module _ (n k : ℕ) where
  pub plain_first : (r : Run) → r.last ≡ 0 → give_back n k r ≡ with_free r (clear_page n r.heap k) (suc k) (suc k) (suc r.count)
  unfolding give_back
  plain_first r e = rw (give_back, e)

  pub plain_later : (r : Run) (z : ℕ) → r.last ≡ suc z
      → give_back n k r ≡ with_free r (set (clear_page n r.heap k) (z * 2 ^ n) (suc k)) r.first (suc k) (suc r.count)
  unfolding give_back
  plain_later r z e = rw (give_back, e)

  -- the notes with one page more given
  abbrev pub counted : List ℕ → List ℕ
  counted t = set t given (low (at t given + 1))

  pub desk_first : (d : Desk) → at d.notes free_first ≡ 0
      → give_desk n k d ≡ desk (clear_page n d.heap k) (set (set (counted d.notes) free_first (suc k)) free_last (suc k))
  unfolding give_desk give_on
  desk_first d e =
      rw (give_desk, give_on, eq-eqb (at d.notes free_first) 0 e)
      (ap (λ t. desk (clear_page n d.heap k) t)
      (set_comm (counted d.notes) free_last free_first (suc k) (suc k) (omega arith)))

  pub desk_later : (d : Desk) (z : ℕ) → at d.notes free_first ≢ 0 → at d.notes free_last ≡ suc z → z ≤ 65536
      → give_desk n k d ≡ desk (set (clear_page n d.heap k) (z * 2 ^ n) (suc k)) (set (counted d.notes) free_last (suc k))
  unfolding give_desk give_on page_start
  desk_later d z ne e b =
      let p : at d.notes free_last - 1 ≡ z = omega arith in
      rw (give_desk, give_on, ne_eqb (at d.notes free_first) 0 ne, page_start, p, le-leb z 65536 b)

module _ {s : Store} {S : Sound s} {g : Ghost} {r : Run} {d : Desk} (I : Inv s S g r) (M : Matching s S g r d) where
  abbrev n : ℕ
  n = s.ctl.n

  abbrev P : ℕ
  P = 2 ^ s.ctl.n

  abbrev N : ℕ
  N = page_count s.ctl.n s.heap

  abbrev R : ℕ
  R = s.ctl.regions

  -- what is given back so far: the pages `left` are still to be
  pub record Giving (left : List ℕ) (e : Desk) : Type 0 where
    pub run : Run
    pub own : ℕ → Owner
    pub free : List ℕ
    pub laid : Layout n N R own g.fin g.pages free run
    pub once : Once left
    pub olds : (k : ℕ) → Memᴰ k left → own k ≡ old
    pub links : (k : ℕ) → Memᴰ k left → link n run.heap k ≡ link n s.heap k
    pub heap : e.heap ≡ run.heap
    pub table : run.table ≡ r.table
    pub size : length e.notes ≡ 400
    pub first : at e.notes free_first ≡ run.first
    -- the notes keep free last where the last free page is taken
    pub last : (free ≡ [] → M.took ≡ []) → at e.notes free_last ≡ run.last
    pub same : (x : ℕ) → x < 256 → at e.notes x ≡ at d.notes x
    pub took : at e.notes taken ≡ at d.notes taken
    pub count : at e.notes given + length g.free ≡ run.count
    pub rows : free ++ left ≡ g.free ++ from_space s
    pub rest : give_back_all n left run ≡ give_back_all n (from_space s) r

  -- ---- one page

  module _ (k : ℕ) (ls : List ℕ) (e : Desk) (K : Giving (k ∷ ls) e) where
    own_k : K.own k ≡ old
    own_k = K.olds k (Memᴰ.head refl)

    k_in : k * P + P ≤ length K.run.heap
    k_in = page_in K.laid k (old≢beyond own_k)

    new : (l : ℕ) → Memᴰ l ls → l ≢ k
    new l m q = once_head K.once (subst (λ y. Memᴰ y ls) q m)

    L' : Layout n N R (upd K.own k spare) g.fin g.pages (K.free ++ k ∷ []) (give_back n k K.run)
    L' = (given_page K.laid k own_k).laid

    -- the count of pages given fits into a word
    more_given : low (at e.notes given + 1) ≡ at e.notes given + 1
    more_given =
        let a = K.count in
        let b = K.laid.free_count in
        let c = free_few L' in
        let f = length-append K.free (k ∷ []) in
        let f' = few_pages S in
        low_is (at e.notes given + 1) (omega arith)

    at_given : at (counted n k e.notes) given ≡ at e.notes given + 1
    at_given = let a = K.size in get_or-set_same e.notes given (low (at e.notes given + 1)) 0 (omega arith) ∙ more_given

    at_else : (x : ℕ) → x ≢ given → at (counted n k e.notes) x ≡ at e.notes x
    at_else x ne = get_or-set_other e.notes given x (low (at e.notes given + 1)) 0 ne

    counted_size : length (counted n k e.notes) ≡ 400
    counted_size = length-set e.notes given (low (at e.notes given + 1)) ∙ K.size

    -- a page that is left is not the last free one
    not_last : (l : ℕ) → Memᴰ l ls → K.run.last ≢ suc l
    not_last l m q = old≢spare (K.olds l (Memᴰ.tail m)) (K.laid.free_own l (last_one_of K.free l (sym K.laid.free_last_lem ∙ q)))

    -- what both ways have in common: the desk is then e'
    build : (e' : Desk) → give_desk n k e ≡ e' → e'.heap ≡ (give_back n k K.run).heap → length e'.notes ≡ 400
        → at e'.notes free_first ≡ (give_back n k K.run).first → at e'.notes free_last ≡ suc k
        → ((x : ℕ) → x ≢ free_first → x ≢ free_last → at e'.notes x ≡ at (counted n k e.notes) x) → Giving ls (give_desk n k e)
    unfolding give_back_all
    build e' A heap size first last notes =
        rw A
        (record {
          run = give_back n k K.run;
          own = upd K.own k spare;
          free = K.free ++ k ∷ [];
          laid = L';
          once = once_tail K.once;
          olds = λ l m. upd_other K.own k spare l (new l m) ∙ K.olds l (Memᴰ.tail m);
          links = λ l m. let b = S.laid.big in given_link n K.run k k_in (omega arith) l (new l m) (not_last l m) ∙ K.links l (Memᴰ.tail m);
          heap = heap;
          table = (given_page K.laid k own_k).table ∙ K.table;
          size = size;
          first = first;
          last = λ c. last ∙ sym (given_last n K.run k);
          same = λ x b. notes x (omega arith) (omega arith) ∙ at_else x (omega arith) ∙ K.same x b;
          took = notes taken (omega arith) (omega arith) ∙ at_else taken (omega arith) ∙ K.took;
          count =
              let a = K.count in
              let b = notes given (omega arith) (omega arith) in
              let c = at_given in
              let f = given_count n K.run k in
              omega arith;
          rows = append_snoc K.free k ls ∙ K.rows;
          rest = K.rest;
        })

    gives : Giving ls (give_desk n k e)
    unfolding last_link
    gives = go K.free refl
      where
        go : (fs : List ℕ) → K.free ≡ fs → Giving ls (give_desk n k e)
        go [] q =
            let B = plain_first n k K.run (K.laid.free_last_lem ∙ ap last_link q) in
            let f : K.run.first ≡ 0 = first_none K.laid q in
            let t = counted n k e.notes in
            let t₂ = set t free_first (suc k) in
            let z = counted_size in
            let z₂ = length-set t free_first (suc k) in
            build _ (desk_first n k e (K.first ∙ f)) (ap (λ h. clear_page n h k) K.heap ∙ sym (ap (λ (x : Run). x.heap) B)) (length-set t₂ free_last (suc k) ∙ z₂ ∙ z)
            (get_or-set_other t₂ free_last free_first (suc k) 0 (omega arith) ∙ get_or-set_same t free_first (suc k) 0 (omega arith) ∙ sym (ap (λ (x : Run). x.first) B))
            (get_or-set_same t₂ free_last (suc k) 0 (omega arith)) (λ x ne ne'. get_or-set_other t₂ free_last x (suc k) 0 ne' ∙ get_or-set_other t free_first x (suc k) 0 ne)
        go (f ∷ fs) q = later (last_or f fs) (K.laid.free_last_lem ∙ ap last_link q) (λ e. cons≢nil (sym q ∙ e)) (λ e. let z = first_is K.laid q in omega arith)
          where
            later : (z : ℕ) → K.run.last ≡ suc z → K.free ≢ [] → K.run.first ≢ 0 → Giving ls (give_desk n k e)
            later z l some_free not_none =
                let B = plain_later n k K.run z l in
                let a = K.first in
                let t = counted n k e.notes in
                let y = counted_size in
                let v = free_known K.laid z (last_one_of K.free z (sym K.laid.free_last_lem ∙ l)) in
                let u = few_pages S in
                build _ (desk_later n k e z (λ (w : at e.notes free_first ≡ 0). not_none (omega arith)) (K.last (λ q. absurd (some_free q)) ∙ l) (omega arith))
                (ap (λ h. set (clear_page n h k) (z * P) (suc k)) K.heap ∙ sym (ap (λ (x : Run). x.heap) B)) (length-set t free_last (suc k) ∙ y)
                (get_or-set_other t free_last free_first (suc k) 0 (omega arith) ∙ at_else free_first (omega arith) ∙ a ∙ sym (ap (λ (x : Run). x.first) B))
                (get_or-set_same t free_last (suc k) 0 (omega arith)) (λ x ne ne'. get_or-set_other t free_last x (suc k) 0 ne')

    pub give : (link_on n e k ≡ link n s.heap k) × Giving ls (give_desk n k e)
    give = (ap (λ h. link n h k) K.heap ∙ K.links k (Memᴰ.head refl), gives)

  -- ---- all pages

  -- the pages ks, and those of the regions from j on
  abbrev Good : List ℕ → ℕ → Desk → Type 0
  Good ks j e = Giving (ks ++ pages_from n s.heap s.table (R - j) j) e

  enter : (j : ℕ) (e : Desk) → j < R → Good [] j e → Good (S.pages j) (suc j) e
  unfolding pages_from
  enter j e j_r K =
      let q : R - j ≡ suc (R - suc j) = omega arith in
      subst (λ ks. Giving (ks ++ pages_from n s.heap s.table (R - suc j) (suc j)) e) (pages_are S j j_r) (subst (λ m. Giving (pages_from n s.heap s.table m j) e) q K)

  -- the link of an old page is as before
  old_link : (k : ℕ) → g.own k ≡ old → link n r.heap k ≡ link n s.heap k
  unfolding link
  old_link k o = descriptor_kept I.logged (descriptor_fits S) k (k * P) o (le_refl _) (omega arith)

  -- the free list's last, where a page is free or none was taken
  last_free : (g.free ≡ [] → M.took ≡ []) → s.ctl.last ≡ r.last
  unfolding last_link
  last_free c = S.laid.free_last_lem ∙ ap last_link M.front ∙ go g.free refl ∙ sym I.laid.free_last_lem
    where
      go : (fs : List ℕ) → g.free ≡ fs → last_link (M.took ++ g.free) ≡ last_link g.free
      go [] q = rw (c q)
      go (f ∷ fs) q = rw q (link_last (last_append M.took (last_link_lem f fs)) ∙ refl)

  begin : Giving (from_space s) (desk r.heap d.notes)
  begin =
      record {
        run = r;
        own = g.own;
        free = g.free;
        laid = I.laid;
        once = from_once S;
        olds = from_old I;
        links = λ k m. old_link k (from_old I k m);
        heap = refl;
        table = refl;
        size = M.notes_length_lem;
        first = M.free_first_lem;
        last = λ c. M.free_last_lem ∙ last_free c;
        same = λ x b. refl;
        took = refl;
        count = let a = M.given_none in let b = I.laid.free_count in omega arith;
        rows = refl;
        rest = refl;
      }

  pub given_back : Giving [] (give_all n N R s.table (desk r.heap d.notes))
  unfolding pages_from
  given_back =
      let all : R ≡ R - 0 = omega arith in
      let none : R - R ≡ 0 = omega arith in
      subst (λ m. Giving (pages_from n s.heap s.table m R) (give_all n N R s.table (desk r.heap d.notes))) none
      (regions_keep S.laid s.table (λ j j_r. refl) (link_on n) (λ j. give_desk n) Good enter (λ j k ks e j_r m K. give k (ks ++ pages_from n s.heap s.table (R - suc j) (suc j)) e K)
      (desk r.heap d.notes) (subst (λ m. Giving (pages_from n s.heap s.table m 0) (desk r.heap d.notes)) all begin))
