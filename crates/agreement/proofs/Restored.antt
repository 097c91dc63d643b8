-- The headers put back: stepping through each old page, a header that is a forward is replaced by the first word of its copy, which is the
-- header that was moved. So all old pages have their words of before, and no other word changes.
use Prim.Native.Nat.{ℕ, zero, suc, ◌+◌, ◌*◌, ◌/◌, ◌%◌, ◌^◌, ◌≤◌, ◌<◌, zero-le}
use native.Mathlib.Nat.{le_refl}
use native.Mathlib.Omega.{arith}
use native.Mathlib.Decide.{ℕ_discrete, dec_lt}
use native.Mathlib.Numerals.{sub-one}
use mathlib.Core.Path.{◌≡◌, refl, sym, ap, ◌∙◌, subst}
use mathlib.Core.Logic.{◌≢◌, ◌⊎◌, inl, inr}
use mathlib.Core.Bool.{true, false}
use mathlib.Core.List.{List, [], ◌∷◌, Memᴰ}
use lib.ListN.{length, set, length-set}
use lib.Seq.{get_or-set_same, get_or-set_other}
use lib.Dec.{leb, eqb}
use borrow.Author.Tests.{le-leb, lt-leb, eq-eqb, ne_eqb}
use Rattle.laws.specs.Lists.{at}
use Rattle.laws.specs.Each.{after}
use Rattle.laws.specs.Loop.{more, over}
use Rattle.laws.proofs.Loops.{loop_more, loop_over, loop_end}
use Rattle.rules.specs.Memory.{Store, page_count, link}
use Rattle.facts.proofs.Laid.{old≢mine, old≢beyond, old, Body, chain_body}
use Rattle.rules.proofs.Steps.{Steps, PageSteps, OnPage, here, over as passes, steps_le, steps_then, not_header, no_zero}
use Rattle.facts.proofs.Copied.{to}
use Rattle.facts.proofs.Sound.{Sound}
use Rattle.facts.proofs.Goods.{page_ends}
use Rattle.rules.specs.Pages.{Run}
use Rattle.rules.proofs.Chains.{page_of}
use Rattle.rules.proofs.Headers.{header_odd}
use Rattle.working.proofs.Invariant.{Ghost}
use Rattle.laws.proofs.Once.{member?}
use Rattle.working.proofs.Log.{olds, in_olds, copy_on}
use Rattle.motion.specs.Leaves.{Desk}
use Rattle.motion.specs.Whole.{undo_of, undo_turn, undo_vals, undo_page, undo_headers}
use Rattle.agreement.proofs.Matching.{Matching}
use Rattle.agreement.proofs.Frames.{set_as, value_plain, old_plain}
use Rattle.agreement.proofs.Stuck.{Stuck}
use Rattle.agreement.proofs.Walked.{regions_keep, Ahead, ahead_enter, ahead_tail, ahead_none}

module _ {s : Store} {S : Sound s} {d : Desk} (A : Stuck s S d) where
  abbrev g : Ghost
  g = A.ghost

  abbrev r : Run
  r = A.run

  abbrev M : Matching s S A.ghost A.run d
  M = A.matching

  abbrev n : ℕ
  n = s.ctl.n

  abbrev P : ℕ
  P = 2 ^ s.ctl.n

  abbrev N : ℕ
  N = page_count s.ctl.n s.heap

  abbrev R : ℕ
  R = s.ctl.regions

  abbrev In : ℕ → ℕ → Type 0
  In k x = (k * P ≤ x) × (x < k * P + P)

  -- the word at x is as before, or the forward that a copy left
  abbrev Either : List ℕ → ℕ → Type 0
  Either h x = (at h x ≡ at s.heap x) ⊎ ((b : ℕ) × Memᴰ (to x b) g.log × (at h x ≡ 4 * b))

  -- the old pages are as before, but for those left
  pub record Half (left : ℕ → Type 0) (h : List ℕ) : Type 0 where
    pub size : length h ≡ length s.heap
    pub others : (k x : ℕ) → g.own k ≢ old → In k x → at h x ≡ at d.heap x
    pub either : (k x : ℕ) → g.own k ≡ old → In k x → Either h x
    pub back : (k x : ℕ) → g.own k ≡ old → (left k → ⊥) → In k x → at h x ≡ at s.heap x

  half_more : {left left' : ℕ → Type 0} {h : List ℕ} → ((k : ℕ) → left k → left' k) → Half left h → Half left' h
  half_more f H = record { size = H.size; others = H.others; either = H.either; back = λ k x o ne p. H.back k x o (λ q. ne (f k q)) p }

  inside : (k x : ℕ) → g.own k ≡ old → In k x → x < length s.heap
  inside k x o p = let a = page_ends n s.heap S.within.paged k (A.known k (old≢beyond o)) in let hi = p.1 in omega arith

  -- where no value stands, the word is as before
  same_if : {left : ℕ → Type 0} {h : List ℕ} → Half left h → (k x : ℕ) → g.own k ≡ old → In k x
      → ((l : ℕ) → OnPage n s.heap k x l → ⊥) → at h x ≡ at s.heap x
  same_if {h = h} H k x o p none = go (H.either k x o p)
    where
      go : Either h x → at h x ≡ at s.heap x
      go (inl e) = e
      go (inr t) = let C = A.logged.copies t.1 in absurd (none C.len (copy_on C k p.0 p.1))

  -- one word put back
  put_back : {left : ℕ → Type 0} {h : List ℕ} → Half left h → (k x v : ℕ) → g.own k ≡ old → In k x → v ≡ at s.heap x → Half left (set h x v)
  put_back {h = h} H k x v o p e =
      record {
        size = length-set h x v ∙ H.size;
        others = λ l y ne q. get_or-set_other h x y v 0 (λ z. ne (other_page l y q z)) ∙ H.others l y ne q;
        either = λ l y w q. by l y q (H.either l y w q) (ℕ_discrete y x);
        back = λ l y w ne q. set_back y (λ z. H.back l y w ne q);
      }
    where
      set_back : (y : ℕ) → (y ≢ x → at h y ≡ at s.heap y) → at (set h x v) y ≡ at s.heap y
      set_back y same = let b = inside k x o p in let c = H.size in set_as s.heap h x v y (omega arith) e same

      other_page : (l y : ℕ) → In l y → y ≡ x → g.own l ≡ old
      other_page l y q z = ap g.own (sym (page_of n l y q.0 q.1) ∙ page_of n k y (rw z p.0) (rw z p.1)) ∙ o

      by : (l y : ℕ) → In l y → Either h y → Dec (y ≡ x) → Either (set h x v) y
      by l y q t (yes z) = inl (set_back y (λ ne. absurd (ne z)))
      by l y q (inl t) (no ne) = inl (set_back y (λ z. t))
      by l y q (inr t) (no ne) = inr (t.0, t.1, get_or-set_other h x y v 0 ne ∙ t.2)

  -- the copy still has the header
  copy_head : {left : ℕ → Type 0} {h : List ℕ} {x b : ℕ} → Half left h → Memᴰ (to x b) g.log → at h b ≡ at s.heap x
  copy_head {b = b} H m =
      let D = A.logged.copies m in
      let lo = steps_le D.now.steps in
      let hi = D.now.stands.ends in
      let p : In D.into b = (omega arith, omega arith) in
      H.others D.into b (λ o. old≢mine o D.into_mine) p
      ∙ M.words b (value_plain S g.own D.now)
      ∙ D.head

  -- ---- one page

  -- what stepping through page k has come to, from its third word on
  record PageBack (left : ℕ → Type 0) (k : ℕ) (h : List ℕ) : Type 0 where
    pub half : Half left h
    pub page : (y : ℕ) → In k y → at h y ≡ at s.heap y

  -- one value of l words at x: the next one's address, and the heap with its header back
  record Stepped (left : ℕ → Type 0) (k : ℕ) (h : List ℕ) (x l : ℕ) : Type 0 where
    pub heap : List ℕ
    pub turn : undo_turn (k * P + P) (after x h) ≡ more (after (x + suc l) heap)
    pub half : Half left heap
    pub below : (y : ℕ) → k * P ≤ y → y < x + suc l → at heap y ≡ at s.heap y

  module _ {left : ℕ → Type 0} {k j : ℕ} (own_k : g.own k ≡ old) (body : Body n s.heap k j (S.fin k)) where
    -- no value stands past the last
    past_end : {h : List ℕ} → Half left h → (y : ℕ) → S.fin k ≤ y → y < k * P + P → at h y ≡ at s.heap y
    past_end H y lo up =
        let q = steps_le body.filled in
        same_if H k y own_k (omega arith, up) (λ l v. no_zero v.stands (body.rest y lo up))

    -- inside a value no other stands
    between : {h : List ℕ} {x l : ℕ} → Half left h → OnPage n s.heap k x l → (y : ℕ) → x < y → y < x + suc l → at h y ≡ at s.heap y
    between H v y lo up =
        let q = steps_le v.steps in
        let e = v.stands.ends in
        same_if H k y own_k (omega arith, omega arith) (λ m u. not_header v.steps v.stands lo up u.steps refl)

    undo_step : {h : List ℕ} {x l : ℕ} → Half left h → OnPage n s.heap k x l
        → ((y : ℕ) → k * P ≤ y → y < x → at h y ≡ at s.heap y) → Stepped left k h x l
    unfolding undo_turn undo_of
    undo_step {h} {x} {l} H v below = go (H.either k x own_k p)
      where
        p : In k x
        p = let a = steps_le v.steps in let b = v.stands.ends in (omega arith, omega arith)

        odd : at s.heap x % 2 ≡ 1
        odd = (header_odd (at s.heap x) l v.stands.head).0

        len : at s.heap x / 8 ≡ l
        len = (header_odd (at s.heap x) l v.stands.head).1

        not_past : leb (k * P + P) x ≡ false
        not_past = let b = v.stands.ends in lt-leb (k * P + P) x (omega arith)

        below_by : {h' : List ℕ} → Half left h' → ((y : ℕ) → y ≢ x → at h' y ≡ at h y) → at h' x ≡ at s.heap x
            → (y : ℕ) → k * P ≤ y → y < x + suc l → at h' y ≡ at s.heap y
        below_by {h'} H' same e y lo up = by (ℕ_discrete y x)
          where
            by : Dec (y ≡ x) → at h' y ≡ at s.heap y
            by (yes z) = rw z e
            by (no ne) = at_other (dec_lt y x)
              where
                at_other : Dec (y < x) → at h' y ≡ at s.heap y
                at_other (yes q) = same y ne ∙ below y lo q
                at_other (no q) = between H' v y (omega arith) up

        go : Either h x → Stepped left k h x l
        go (inl e) =
            let nz : eqb (at h x) 0 ≡ false = ne_eqb (at h x) 0 (λ z. no_zero v.stands (sym e ∙ z)) in
            let o : eqb (at h x % 2) 1 ≡ true = eq-eqb (at h x % 2) 1 (ap (λ w. w % 2) e ∙ odd) in
            let n : x + (at h x / 8 + 1) ≡ x + suc l = (let a = len in let b : at h x / 8 ≡ at s.heap x / 8 = ap (λ w. w / 8) e in omega arith) in
            record {
              heap = h;
              turn = rw (undo_turn, not_past, nz, undo_of, o, n);
              half = H;
              below = below_by H (λ y ne. refl) e;
            }
        go (inr u) =
            let b = u.0 in
            let D = A.logged.copies u.1 in
            let w = u.2 in
            let lo = steps_le D.now.steps in
            let nz : eqb (at h x) 0 ≡ false = ne_eqb (at h x) 0 (λ (z : at h x ≡ 0). omega arith) in
            let o : eqb (at h x % 2) 1 ≡ false = ne_eqb (at h x % 2) 1 (λ (z : at h x % 2 ≡ 1). omega arith) in
            let to_b : at h x / 4 ≡ b = omega arith in
            let c : at h (at h x / 4) ≡ at s.heap x = ap (at h) to_b ∙ copy_head H u.1 in
            let m : x + (at h (at h x / 4) / 8 + 1) ≡ x + suc l = (let a = len in let q : at h (at h x / 4) / 8 ≡ at s.heap x / 8 = ap (λ v. v / 8) c in omega arith) in
            let H' = put_back H k x (at h (at h x / 4)) own_k p c in
            let z = inside k x own_k p in
            let z' = H.size in
            record {
              heap = set h x (at h (at h x / 4));
              turn = rw (undo_turn, not_past, nz, undo_of, o, m);
              half = H';
              below = below_by H' (λ y ne. get_or-set_other h x y (at h (at h x / 4)) 0 ne)
                  (get_or-set_same h x (at h (at h x / 4)) 0 (omega arith) ∙ c);
            }

    undo_from : {h : List ℕ} (f x : ℕ) → Half left h → Steps s.heap (k * P + P) x (S.fin k) → PageSteps n s.heap k x → S.fin k ≤ x + f
        → ((y : ℕ) → k * P ≤ y → y < x → at h y ≡ at s.heap y) → PageBack left k (undo_vals f (k * P + P) (after x h))
    unfolding undo_turn
    undo_from {h} f x H here t b below = ends f
      where
        page : (y : ℕ) → In k y → at h y ≡ at s.heap y
        page y p = go (dec_lt y x)
          where
            go : Dec (y < x) → at h y ≡ at s.heap y
            go (yes q) = below y p.0 q
            go (no q) = past_end H y (omega arith) p.1

        stays : PageBack left k h
        stays = record { half = H; page = page }

        -- the end of the page, or a 0
        over_is : undo_turn (k * P + P) (after x h) ≡ over h
        over_is = go (dec_lt x (k * P + P))
          where
            go : Dec (x < k * P + P) → undo_turn (k * P + P) (after x h) ≡ over h
            go (yes q) =
                let lo = steps_le t in
                let z : at h x ≡ 0 = page x (omega arith, q) ∙ body.rest x (le_refl x) q in
                rw (undo_turn, lt-leb (k * P + P) x q, eq-eqb (at h x) 0 z)
            go (no q) = rw (undo_turn, le-leb (k * P + P) x (omega arith))

        ends : (f : ℕ) → PageBack left k (undo_vals f (k * P + P) (after x h))
        ends zero = rw (loop_end 0 (undo_turn (k * P + P)) (λ o. o.state) (after x h) (le_refl 0)) stays
        ends (suc f) = rw (loop_over (suc f) (undo_turn (k * P + P)) (λ o. o.state) (after x h) h (omega arith) over_is) stays
    undo_from zero x H (passes {l = l} st rest) t b below = let q = steps_le rest in absurd (omega arith)
    undo_from {h} (suc f) x H (passes {l = l} st rest) t b below =
        let T = undo_step H (record { steps = t; stands = st }) below in
        let on = undo_from {h = T.heap} f (x + suc l) T.half rest (steps_then t (passes st here)) (omega arith) T.below in
        rw (loop_more (suc f) (undo_turn (k * P + P)) (λ o. o.state) (after x h) (after (x + suc l) T.heap) (omega arith) T.turn, sub-one (suc f)) on

    -- the page's descriptor is never a value
    descriptor : {h : List ℕ} → Half left h → (y : ℕ) → k * P ≤ y → y < k * P + 2 → at h y ≡ at s.heap y
    descriptor H y lo up =
        let c = S.laid.big in
        same_if H k y own_k (lo, omega arith) (λ l v. let q = steps_le v.steps in omega arith)

    undo_page_lem : {h : List ℕ} → Half left h → PageBack left k (undo_page n k h)
    unfolding undo_page
    undo_page_lem H =
        let a = body.inside in
        undo_from P (k * P + 2) H body.filled here (omega arith) (descriptor H)

  -- ---- all pages

  abbrev Good : List ℕ → ℕ → List ℕ → Type 0
  Good ks j h = Half (Ahead R S.pages ks j) h

  turn : (j k : ℕ) (ks : List ℕ) (h : List ℕ) → j < R → Memᴰ k (S.pages j) → Good (k ∷ ks) (suc j) h → (link n h k ≡ link n s.heap k) × Good ks (suc j) (undo_page n k h)
  unfolding link
  turn j k ks h j_r m H = (
    let c = S.laid.big in descriptor o B H (k * P) (le_refl _) (omega arith),
    record { size = U.half.size; others = U.half.others; either = U.half.either; back = λ l x w ne p. back l x w ne p (ℕ_discrete l k) },
  )
    where
      o : g.own k ≡ old
      o = (A.from_space_lem k).1 (j, j_r, m)

      B : Body n s.heap k j (S.fin k)
      B = chain_body S.laid j k j_r m

      U : PageBack (Ahead R S.pages (k ∷ ks) (suc j)) k (undo_page n k h)
      U = undo_page_lem o B H

      back : (l x : ℕ) → g.own l ≡ old → (Ahead R S.pages ks (suc j) l → ⊥) → In l x → Dec (l ≡ k) → at (undo_page n k h) x ≡ at s.heap x
      back l x w ne p (yes e) = U.page x (subst (λ y. In y x) e p)
      back l x w ne p (no f) = U.half.back l x w (λ q. ne (ahead_tail R S.pages f q)) p

  -- at the start every old page is left
  begin : Half (Ahead R S.pages [] 0) d.heap
  begin =
      record {
        size = M.heap_length ∙ A.size ∙ sym S.laid.size;
        others = λ k x ne p. refl;
        either = λ k x o p. rw (M.words x (old_plain S g.own k o p.0 p.1)) (either k x o p);
        back = λ k x o ne p. let t = (A.from_space_lem k).0 o in absurd (ne (inr (t.0, zero-le, t.1, t.2)));
      }
    where
      either : (k x : ℕ) → g.own k ≡ old → In k x → Either r.heap x
      either k x o p = go (member? x (olds g.log))
        where
          go : Dec (Memᴰ x (olds g.log)) → Either r.heap x
          go (yes m) = let t = in_olds g.log m in inr (t.0, t.1, (A.logged.copies t.1).forward)
          go (no new) = inl (A.logged.unmoved k x o p.0 p.1 new)

  pub headers_back : Half (Ahead R S.pages [] R) (undo_headers n N R s.table d.heap)
  headers_back = regions_keep S.laid s.table (λ j j_r. refl) (link n) (λ j. undo_page n) Good (λ j h j_r H. half_more (ahead_enter R S.pages j) H) turn d.heap begin

  -- the old pages are as before
  pub old_back : (k x : ℕ) → g.own k ≡ old → In k x → at (undo_headers n N R s.table d.heap) x ≡ at s.heap x
  old_back k x o p = headers_back.back k x o (ahead_none R S.pages k) p
