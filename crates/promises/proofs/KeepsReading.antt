-- Popping a region leaves every path from a root as it was: no value moves, the words of the other regions stay, and no path leads into the
-- region, since it was not held. A refused pop changes nothing.
use Prim.Native.Nat.{ℕ, suc, ◌+◌, ◌*◌, ◌^◌, ◌≤◌, ◌<◌}
use native.Mathlib.Omega.{arith}
use mathlib.Core.Path.{◌≡◌, refl, sym, ap, ◌∙◌}
use mathlib.Core.Bool.{true, false}
use mathlib.Core.List.{List, Memᴰ}
use lib.ListN.{length, take, drop}
use Rattle.laws.specs.Lists.{at}
use Rattle.rules.specs.Memory.{Store}
use Rattle.rules.specs.Words.{in_heap, in_const, word_of, is_record}
use Rattle.rules.specs.Calls.{look_in, header_in, fields_in, is_number, Walked, ends, walk_says, walk, points_into, let_go, pop}
use Rattle.rules.specs.Seen.{home_in, seen, path, read_at}
use Rattle.rules.proofs.Pointers.{pointer_is}
use Rattle.facts.proofs.Goods.{page_ends}
use Rattle.facts.proofs.Looked.{heap_seen, heap_home, const_seen, const_fields, const_home, seen_plain, seen_at}
use Rattle.facts.proofs.Alike.{Same, AlikeWalks, both_end, both_stop, paths}
use Rattle.facts.proofs.Observing.{walk_is, reads_alike}
use Rattle.facts.proofs.Passing.{meaning}
use Rattle.rules.proofs.Judged.{Passes}
use Rattle.facts.proofs.Sound.{InHeap, InConst, Good, a_number, to_heap, to_const, GoodConst, number_there, const_there, Sound, good_page}
use Rattle.rules.specs.Left.{left_plain}
use Rattle.promises.proofs.KeepsGood.{words_there, in_kept}
use Rattle.promises.proofs.KeepsPop as Pop

-- ---- values that stay

module _ (s : Store) (S : Sound s) (j : ℕ) (top : s.ctl.regions ≡ suc j) (free : let_go s.ctl.n s.heap s.table s.roots j ≡ true) where
  abbrev n : ℕ
  n = s.ctl.n

  abbrev R : ℕ
  R = s.ctl.regions

  abbrev s' : Store
  s' = Pop.s' s S j top free

  abbrev h' : List ℕ
  h' = (Pop.r' s S j top free).heap

  S' : Sound s'
  S' = Pop.pop_sound s S j top free

  -- a word that is good and does not point into the region means after what it meant before
  pub record Stays (v w : ℕ) : Type 0 where
    pub same : v ≡ w
    pub good : Good n R s.heap s.consts v
    pub out : points_into n s.heap j v ≡ false

  -- so do the fields of the record that v names
  abbrev FieldsStay : ℕ → Type 0
  FieldsStay v = is_record (header_in (look_in s v)) ≡ true → (f : ℕ) → f < fields_in (look_in s v) → Stays (at (look_in s v) (suc f)) (at (look_in s' v) (suc f))

  stays : (v : ℕ) → Good n R s.heap s.consts v → points_into n s.heap j v ≡ false → Stays v v
  stays v g o = record { same = refl; good = g; out = o }

  -- the fields of a value that is seen as before, wherever it stands
  module _ (v a l : ℕ) (ws : List ℕ) (inside : a + suc l ≤ length ws) (is : look_in s v ≡ take (suc l) (drop a ws)) (same : look_in s v ≡ look_in s' v)
      (good : is_record (at ws a) ≡ true → (f : ℕ) → f < l → Stays (at ws (a + suc f)) (at ws (a + suc f))) where
    fields_stay : FieldsStay v
    fields_stay rec f b =
        let seen = seen_at inside is in
        let z = seen.long in
        rw (← same, seen.field f (omega arith)) (good (ap is_record (sym seen.head) ∙ rec) f (omega arith))

  -- ---- a value of another region

  module _ (v a : ℕ) (e : word_of v ≡ in_heap a) (p : InHeap n R s.heap a) (o : points_into n s.heap j v ≡ false) where
    abbrev k : ℕ
    k = p.page

    low : p.region < j
    low = Pop.lower_region s S j top free v a p e o

    mem : Memᴰ k (S.pages p.region)
    mem = good_page S p

    inside : k * 2 ^ n + 2 ^ n ≤ length s.heap
    inside = page_ends n s.heap S.within.paged k p.there

    v_is : v ≡ 4 * a
    v_is = pointer_is v a e

    seen_before : look_in s v ≡ take (suc p.len) (drop a s.heap)
    seen_before = ap (look_in s) v_is ∙ heap_seen s S.within.paged a p

    -- it is good still
    abbrev p' : InHeap n j h' a
    p' = in_kept (Pop.keeps s S j top free) a p low

    seen_after : look_in s' v ≡ take (suc p.len) (drop a h')
    seen_after = ap (look_in s') v_is ∙ heap_seen s' S'.within.paged a p'

    pub value_same : look_in s v ≡ look_in s' v
    value_same = seen_before ∙ words_there (Pop.keeps s S j top free) a p low ∙ sym seen_after

    pub home_same : home_in s v ≡ home_in s' v
    home_same =
        ap (home_in s) v_is ∙ heap_home s S.within.paged a p ∙ sym (heap_home s' S'.within.paged a p') ∙ ap (home_in s') (sym v_is)

    -- its fields stay too
    pub field_stays : FieldsStay v
    field_stays =
        let i = inside in
        let e = p.value.stands.ends in
        fields_stay v a p.len s.heap (omega arith) seen_before value_same
        (λ r f q.
        stays _ (S.fields p.region k a p.len f p.known mem p.value r q)
        (Pop.field_out s S j top free p.region k a p.len f low mem p.value r q))

  -- ---- a constant

  module _ (v a : ℕ) (e : word_of v ≡ in_const a) (p : InConst s.consts a) where
    const_same : look_in s v ≡ look_in s' v
    const_same = const_seen s v a e p ∙ sym (const_seen s' v a e p)

    const_stays : (w : ℕ) → GoodConst s.consts w → Stays w w
    unfolding points_into
    const_stays w (number_there q) = stays w (a_number q) (rw (points_into, q))
    const_stays w (const_there b q g) = stays w (to_const b q g) (rw (points_into, q))

    const_field_lem : FieldsStay v
    const_field_lem r f b = rw (← const_same) (const_stays _ (const_fields s v a e S.consts p r f b))

  -- ---- the two views

  view_same : (v : ℕ) → Good n R s.heap s.consts v → points_into n s.heap j v ≡ false
      → (look_in s v ≡ look_in s' v) × (home_in s v ≡ home_in s' v) × FieldsStay v
  view_same v (a_number e) o = (
    (seen_plain s).no_value v (ap is_number e) ∙ sym ((seen_plain s').no_value v (ap is_number e)),
    (seen_plain s).no_home v (ap is_number e) ∙ sym ((seen_plain s').no_home v (ap is_number e)),
    λ r f b. let z = ap length ((seen_plain s).no_value v (ap is_number e)) in absurd (omega arith),
  )
  view_same v (to_heap a e p) o = (value_same v a e p o, home_same v a e p o, field_stays v a e p o)
  view_same v (to_const a e p) o = (const_same v a e p, const_home s v a e ∙ sym (const_home s' v a e), const_field_lem v a e p)

  same_views : Same (seen s) (seen s') Stays
  same_views =
      record {
        numbers = λ v w r. ap (λ x. is_number (word_of x)) r.same;
        value_of = λ v w r e. r.same;
        values = λ v w r.
            let t = view_same v r.good r.out in
            rw (← r.same) (record { header = ap header_in t.0; size = ap length t.0; fields = t.2; text = λ r. t.0 });
        homes = λ v w r. (view_same v r.good r.out).1 ∙ ap (home_in s') r.same;
        once = λ v w v' w' r r'. (λ e. sym r.same ∙ e ∙ r'.same, λ e. r.same ∙ e ∙ sym r'.same);
      }

  roots_stay : (i : ℕ) → i < length s.roots → Stays (at s.roots i) (at s.roots i)
  roots_stay i b = stays (at s.roots i) (S.roots i b) (Pop.root_out s S j top free i b)

  -- every path ends alike, on the same word
  ended : {x y : Walked} → AlikeWalks Stays x y → x ≡ y
  ended (both_end r) = ap ends r.same
  ended both_stop = refl

  pub paths_same : (i : ℕ) (fs : List ℕ) → path (seen s) s.roots i fs ≡ path (seen s') s.roots i fs
  paths_same i fs = ended (paths (seen s) (seen s') Stays same_views s.roots s.roots refl roots_stay i fs)

  pub reads_same : (i : ℕ) (fs : List ℕ) → read_at s (walk s i fs) ≡ read_at s' (walk s' i fs)
  reads_same i fs = reads_alike s s' ((meaning s).1 S) ((meaning s').1 S') Stays same_views refl roots_stay i fs

-- ---- the call

-- the same word, or the same refusal, from both
pub record SameWalk (s s' : Store) (i : ℕ) (fs : List ℕ) : Type 0 where
  pub walked : Walked
  pub before : walk s i fs ≡ walk_says s.ctl walked
  pub after : walk s' i fs ≡ walk_says s'.ctl walked
  -- and what is read there is the same: a number, or a value's region, kind, length, numbers and raw words
  pub reads : read_at s (walk s i fs) ≡ read_at s' (walk s' i fs)

pub pop_reads : (s : Store) → Passes s → (i : ℕ) (fs : List ℕ) → SameWalk s (left_plain (pop s)) i fs
pop_reads s P i fs = Pop.pop_leaves (λ t. SameWalk s t i fs) s S stayed popped
  where
    S : Sound s
    S = (meaning s).0 P

    stayed : SameWalk s s i fs
    stayed = record { walked = path (seen s) s.roots i fs; before = walk_is s P i fs; after = walk_is s P i fs; reads = refl }

    popped : (j : ℕ) (top : s.ctl.regions ≡ suc j) (free : let_go s.ctl.n s.heap s.table s.roots j ≡ true) → SameWalk s (Pop.s' s S j top free) i fs
    popped j top free =
        record {
          walked = path (seen s) s.roots i fs;
          before = walk_is s P i fs;
          after = walk_is (Pop.s' s S j top free) ((meaning _).1 (Pop.pop_sound s S j top free)) i fs ∙ ap (walk_says _) (sym (paths_same s S j top free i fs));
          reads = reads_same s S j top free i fs;
        }
