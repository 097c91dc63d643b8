-- What the collection leaves: the old pages are given back, so every page is in a region's chain or free; and what stands in the regions'
-- pages are the copies, whose fields were all scanned.
use Prim.Native.Nat.{ℕ, suc, ◌+◌, ◌*◌, ◌/◌, ◌^◌, ◌≤◌, ◌<◌, zero-le}
use native.Mathlib.Nat.{add-zero}
use native.Mathlib.Omega.{arith}
use mathlib.Core.Bool.{true}
use mathlib.Core.Path.{◌≡◌, refl, sym, ap, ◌∙◌, subst}
use mathlib.Core.Option.{none-ne-some}
use mathlib.Core.List.{List, [], ◌++◌, Memᴰ}
use lib.ListN.{length, length-append}
use Rattle.laws.specs.Lists.{at}
use Rattle.laws.specs.Sums.{sum_over}
use Rattle.rules.specs.Memory.{Store, lent, page_count, status_of}
use Rattle.rules.specs.Words.{rec, head_of, record_by, is_record}
use Rattle.rules.specs.Pages.{Run, begun, record_after, give_back_all}
use Rattle.rules.specs.Collection.{from_space}
use Rattle.rules.proofs.Steps.{OnPage, record_length, steps_le, on_same}
use Rattle.facts.proofs.Laid.{Owner, old, mine, Layout, page_in, old≢mine, mine≢beyond}
use Rattle.facts.proofs.Copied.{to, Rel, num, stay, went}
use Rattle.rules.proofs.Limits.{within_same}
use Rattle.rules.proofs.Pointers.{pointer, is_number_lem, record_head}
use Rattle.facts.proofs.Sound.{Within, InHeap, Good, a_number, to_heap, to_const, Chained, EachField, Sound}
use Rattle.facts.proofs.Passing.{from_once, of_from}
use Rattle.facts.proofs.Framed.{below_fin}
use Rattle.facts.proofs.Given.{spared, spared_out, GivenAll, given_all, given_chained}
use Rattle.working.proofs.Owned.{owned_chained}
use Rattle.working.proofs.Log.{pointers, Copy, of_each}
use Rattle.working.proofs.Aside.{stack_laid}
use Rattle.working.proofs.Invariant.{Ghost, Kept, filled_to, Inv, copy_known, from_old}
use Rattle.working.proofs.Work.{asleep, none_waits}
use Rattle.working.proofs.Running.{Ran}

module _ {s : Store} {S : Sound s} {roots : List ℕ} {r : Run} (A : Ran s S roots r) where
  abbrev n : ℕ
  n = s.ctl.n

  abbrev N : ℕ
  N = page_count n s.heap

  abbrev R : ℕ
  R = s.ctl.regions

  abbrev pub g : Ghost
  g = A.end.ghost

  abbrev pub I : Inv s S A.end.ghost r
  I = A.end.inv

  abbrev ks : List ℕ
  ks = from_space s

  abbrev pub back : Run
  back = give_back_all n ks r

  -- the store that the collection leaves
  abbrev pub left_store : Store
  left_store = lent back.heap back.table roots s.consts (record_after s R back)

  -- ---- the pages given back

  of_ks : (k : ℕ) → g.own k ≡ old → Memᴰ k ks
  of_ks k o = let t = (I.from_space_lem k).0 o in of_from S t.0 k t.1 t.2

  G : GivenAll n N R g.own g.fin g.pages g.free ks r back
  G = given_all (from_once S) I.laid (from_old I)

  abbrev own' : ℕ → Owner
  own' = spared g.own ks

  not_back : (k j : ℕ) → g.own k ≡ mine j → Memᴰ k ks → ⊥
  not_back k j o m = old≢mine (from_old I k m) o

  own_mine : (k j : ℕ) → g.own k ≡ mine j → own' k ≡ mine j
  own_mine k j o = spared_out g.own ks k (not_back k j o) ∙ o

  laid : Layout n N R own' g.fin g.pages (g.free ++ ks) (begun left_store)
  laid = stack_laid G.laid []

  same_size : length back.heap ≡ length s.heap
  same_size = let a = G.laid.size in let b = S.laid.size in omega arith

  pub same_count : page_count n back.heap ≡ N
  same_count = ap (λ x. x / 2 ^ n) same_size

  -- ---- the regions' pages

  -- behind the links they are as before the pages were given back
  word_same : (k j x : ℕ) → g.own k ≡ mine j → k * 2 ^ n < x → x < k * 2 ^ n + 2 ^ n → at r.heap x ≡ at back.heap x
  word_same k j x o p q = (G.like k (not_back k j o)).word x p q

  -- a logged copy, as it stands in the end
  module _ {a b : ℕ} (m : Memᴰ (to a b) g.log) where
    abbrev pub C : Copy n s (Kept s) g.own g.fin r.heap g.log g.count a b
    C = I.logged.copies m

    pub copy_word : (i : ℕ) → i ≤ C.len → at back.heap (b + i) ≡ at r.heap (b + i)
    copy_word i q = let p = steps_le C.now.steps in let t = C.now.stands.ends in sym (word_same C.into C.region (b + i) C.into_mine (omega arith) (omega arith))

    pub copy_head : at back.heap b ≡ at r.heap b
    copy_head = simp add-zero at (copy_word 0 zero-le)

    pub copy_value : OnPage n back.heap C.into b C.len
    copy_value = let t = C.now.stands.ends in on_same (λ x p q. word_same C.into C.region x C.into_mine (omega arith) (omega arith)) C.now

    pub copy_there : C.into < N
    copy_there = I.laid.known C.into (λ q. mine≢beyond C.into_mine q)

    pub copy_inside : C.into * 2 ^ n + 2 ^ n ≤ length back.heap
    copy_inside = page_in G.laid C.into (mine≢beyond (own_mine C.into C.region C.into_mine))

    pub copy_whose : at back.heap (C.into * 2 ^ n + 1) ≡ suc C.region
    copy_whose = (G.laid.mine_body C.region C.into (own_mine C.into C.region C.into_mine)).whose

    -- all fields of a record are scanned, so each stands for the old one
    pub copy_field : is_record (at s.heap a) ≡ true → (i : ℕ) → i < C.len → Rel (Kept s) (pointers g.log) (at s.heap (a + suc i)) (at back.heap (b + suc i))
    unfolding is_record
    copy_field kind i q =
        let e : head_of (at r.heap b) ≡ rec C.len
        = record_head (head_of (at r.heap b)) C.len C.now.stands.head (ap (λ w. record_by (head_of w)) C.head ∙ kind) in
        let full =
        I.pending.scanned m (λ j j_r q. let q' : Memᴰ b [] = subst (Memᴰ b) (none_waits A.end j j_r) q in elim q' [ ])
        (λ q. none-ne-some b (sym A.end.none_open ∙ q)) C.len e in
        rw (copy_word (suc i) q) (C.scanned i q (omega arith))

    abbrev pub copy_good : InHeap n R back.heap b
    copy_good =
        record {
          page = C.into;
          region = C.region;
          len = C.len;
          there = rw same_count copy_there;
          known = copy_known I m;
          whose = copy_whose;
          value = copy_value;
        }

  -- what stands for a word is good
  pub rel_good : {v w : ℕ} → Rel (Kept s) (pointers g.log) v w → Good n R back.heap s.consts w
  rel_good {v} (num e) = a_number (is_number_lem v e)
  rel_good (stay k) = to_const k.address k.word k.good
  rel_good (went m) = of_each (λ v w. Good n R back.heap s.consts w) g.log m (λ a b t. to_heap b (pointer b) (copy_good t))

  -- every value of a region's page is a copy
  pub is_copy : (j k b l : ℕ) → g.own k ≡ mine j → OnPage n back.heap k b l → (a : ℕ) × Memᴰ (to a b) g.log
  is_copy j k b l o v =
      let hi = v.stands.ends in
      let v' : OnPage n r.heap k b l = on_same (λ x p q. sym (word_same k j x o (omega arith) (omega arith))) v in
      let below = below_fin I.laid o v' in
      I.logged.every k j b o v'.steps (omega arith)

  fields_good : EachField n R back.heap g.pages (Good n R back.heap s.consts)
  unfolding is_record
  fields_good j k b l i j_r m v kind i_in =
      let c = is_copy j k b l (I.laid.mine_own j k j_r m) v in
      let q : at back.heap b ≡ at s.heap c.0 = copy_head c.1 ∙ (C c.1).head in
      let e : (C c.1).len ≡ l = record_length (copy_value c.1).stands (record_head (head_of (at back.heap b)) l v.stands.head kind) in
      rel_good (copy_field c.1 (ap is_record (sym q) ∙ kind) i (omega arith))

  chained : (k : ℕ) → k < N → Chained R own' g.pages (g.free ++ ks) k
  chained k b = given_chained ks k (λ ne. owned_chained I.owned k b (λ e. ne (of_ks k e)))

  -- ---- it passes

  within : Within left_store
  within = within_same same_size (ap length G.table ∙ I.width ∙ sym S.within.table) (sym A.count) refl S.within

  pub left_sound : Sound left_store
  left_sound =
      record {
        within = within;
        own = own';
        fin = g.fin;
        pages = g.pages;
        free = g.free ++ ks;
        regions = S.regions;
        past = λ x p q. ap (λ t. at t x) G.table ∙ I.past_rows x p ∙ S.past x p q;
        idle = λ j j_r. ap (λ t. status_of t j) G.table ∙ asleep A.end j j_r;
        laid = rw same_count laid;
        chained = λ k b. chained k (rw same_count at b);
        fields = fields_good;
        roots = λ i b. rel_good (A.rels i (rw A.count b));
        consts = S.consts;
      }

  -- the pages still free, and the old ones
  pub left_count : left_store.ctl.count ≡ length g.free + length (from_space s)
  left_count = G.laid.free_count ∙ length-append g.free (from_space s)

  -- its chains, and what they hold, are those of the run
  pub left_pages : (j : ℕ) → left_sound.pages j ≡ g.pages j
  unfolding left_sound
  left_pages j = refl

  pub left_filled : (j : ℕ) → sum_over (filled_to n left_sound.fin) (left_sound.pages j) ≡ sum_over (filled_to n g.fin) (g.pages j)
  unfolding left_sound
  left_filled j = refl
