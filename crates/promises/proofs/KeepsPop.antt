-- Popping the top region keeps a heap sound: its pages go back, cleared, and no pointer that is left names one of them, since the region was
-- not held.
use Prim.Native.Nat.{ℕ, suc, ◌+◌, ◌-◌, ◌*◌, ◌/◌, ◌^◌, ◌≤◌, ◌<◌}
use native.Mathlib.Nat.{le_refl}
use native.Mathlib.Omega.{arith}
use native.Mathlib.Decide.{ℕ_discrete}
use mathlib.Core.Path.{◌≡◌, refl, sym, ap, ◌∙◌, subst}
use mathlib.Core.Logic.{◌⊎◌, inl, inr}
use mathlib.Core.Bool.{Bool, true, false, not}
use mathlib.Core.List.{List, [], ◌++◌, Memᴰ}
use lib.ListN.{length}
use lib.Dec.{eqb}
use borrow.Author.Tests.{not-true, not-false, eqb-false}
use Rattle.laws.specs.Lists.{at, all}
use Rattle.laws.proofs.Tests.{both, all_in, below_in}
use Rattle.laws.proofs.Facts.{all_at}
use Rattle.rules.specs.Memory.{Store, lent, page_count, origin, set_row, region_pages}
use Rattle.rules.specs.Words.{in_heap, word_of, page_vals, fields_pass}
use Rattle.rules.specs.Pages.{Run, begun, record_after, give_back_all}
use Rattle.rules.specs.Calls.{points_into, let_go, pop_on, pop_top, pop}
use Rattle.rules.proofs.Limits.{within_same}
use Rattle.facts.proofs.Laid.{Owner, old, Layout, chain_body, chain_known, rows_laid}
use Rattle.facts.proofs.Aged.{aged, aged_below, aged_from, aged_laid}
use Rattle.facts.proofs.Given.{spared, GivenAll, given_all, given_chained}
use Rattle.facts.proofs.Filled.{fields_in}
use Rattle.facts.proofs.Framed.{chain_below}
use Rattle.facts.proofs.Goods.{body_listed}
use Rattle.facts.proofs.Inside.{page_at}
use Rattle.facts.proofs.Passing.{meaning, pages_are}
use Rattle.facts.proofs.Sound.{InHeap, Good, Chained, in_free, in_region, EachField, Sound, one_region}
use Rattle.rules.proofs.Rows.{row_width, row_else, row_end, row_first, row_top, row_status}
use Rattle.rules.specs.Left.{left_plain}
use Rattle.promises.proofs.Ordered.{lawful_keeps}
use Rattle.promises.proofs.Outcomes.{pop_lawful}
use Rattle.promises.proofs.KeepsGood.{KeepsWords, good_kept, field_kept}

-- ---- a region that is not held

module _ (s : Store) (S : Sound s) (j : ℕ) (top : s.ctl.regions ≡ suc j) (free : let_go s.ctl.n s.heap s.table s.roots j ≡ true) where
  abbrev n : ℕ
  n = s.ctl.n

  abbrev N : ℕ
  N = page_count s.ctl.n s.heap

  abbrev R : ℕ
  R = s.ctl.regions

  abbrev P : ℕ
  P = 2 ^ s.ctl.n

  abbrev ks : List ℕ
  ks = S.pages j

  abbrev own° : ℕ → Owner
  own° k = aged j (S.own k)

  j_r : j < R
  j_r = omega arith

  below_r : (i : ℕ) → i < j → i < R
  below_r i b = omega arith

  -- without the top region
  L° : Layout n N j own° S.fin S.pages S.free (begun s)
  L° = aged_laid j S.laid (omega arith) S.pages (λ i b. refl)

  its : (k : ℕ) → Memᴰ k ks → own° k ≡ old
  its k m = ap (aged j) (S.laid.mine_own j k j_r m) ∙ aged_from j j (le_refl j)

  abbrev pub r' : Run
  r' = give_back_all n (S.pages j) (begun s)

  G : GivenAll n N j own° S.fin S.pages S.free (S.pages j) (begun s) r'
  G = given_all (S.laid.mine_once j j_r) L° its

  abbrev own' : ℕ → Owner
  own' = spared own° (S.pages j)

  abbrev pub table' : List ℕ
  table' = set_row r'.table j 0 0 0 0

  else : (x : ℕ) → (x < 4 * j) ⊎ (4 * j + 3 < x) → at table' x ≡ at s.table x
  else x c = row_else r'.table j 0 0 0 0 x c ∙ ap (λ t. at t x) G.table

  width : length table' ≡ length s.table
  width = row_width r'.table j 0 0 0 0 ∙ ap length G.table

  abbrev pub s' : Store
  s' = lent r'.heap table' s.roots s.consts (record_after s j r')

  laid : Layout n N j own' S.fin S.pages (S.free ++ S.pages j) (begun s')
  laid =
      rows_laid G.laid j (le_refl j) table' [] (let a = width in let b = S.regions in let w = S.within.table in omega arith)
      (λ i x b lo hi. row_else r'.table j 0 0 0 0 x (inl (omega arith)))

  -- the pages of the other regions are not given back
  not_its : (i k : ℕ) → i < j → Memᴰ k (S.pages i) → Memᴰ k ks → ⊥
  not_its i k b m m' = let e = one_region S i j k (below_r i b) j_r m m' in omega arith

  pub keeps : KeepsWords s S j r'.heap
  keeps =
      record {
        long = G.laid.size ∙ sym S.laid.size;
        words = λ i k x b c m p q. let hi = (chain_body S.laid i k b m).inside in (G.like k (not_its i k c m)).word x p (omega arith);
      }

  -- a good pointer that does not point into region j names one below it
  pub lower_region : (w a : ℕ) (p : InHeap n R s.heap a) → word_of w ≡ in_heap a → points_into n s.heap j w ≡ false → p.region < j
  unfolding points_into origin
  lower_region w a p e t =
      let o : eqb (at s.heap (a / P * P + 1)) (suc j) ≡ false = rw (points_into, e) at t in
      let f = eqb-false (at s.heap (a / P * P + 1)) (suc j) o in
      let w : at s.heap (a / P * P + 1) ≡ suc p.region = ap (λ m. at s.heap (m * P + 1)) (page_at p.value) ∙ p.whose in
      let b = p.known in
      omega arith

  -- a good word that does not point into region j stays good
  pub good' : (w : ℕ) → points_into n s.heap j w ≡ false → Good n R s.heap s.consts w → Good n j r'.heap s.consts w
  good' w t g = good_kept keeps w (λ a p e. lower_region w a p e t) g

  abbrev out : ℕ → Bool
  out w = not (points_into n s.heap j w)

  -- no root does
  pub root_out : (i : ℕ) → i < length s.roots → points_into n s.heap j (at s.roots i) ≡ false
  unfolding let_go
  root_out i b = not-true _ (all_at out s.roots (both {a = all out s.roots} free).0 i b)

  -- nor does a field of another region's record
  pub field_out : EachField n j s.heap S.pages (λ w. points_into n s.heap j w ≡ false)
  unfolding let_go
  field_out i k a l t b m v rec q =
      let there = chain_known S.laid i (below_r i b) k m in
      let (_, z) = both {a = all out s.roots} free in
      let u = below_in (λ i. all (λ k. all (fields_pass out) (page_vals n s.heap k)) (region_pages n s.heap s.table i)) j z i b in
      let w = all_in (λ k. all (fields_pass out) (page_vals n s.heap k)) (region_pages n s.heap s.table i) u k (rw (pages_are S i (below_r i b)) m) in
      not-true (points_into n s.heap j (at s.heap (a + suc t)))
      (fields_in out s.heap (k * P + P) v.steps (body_listed n s.heap S.within.paged k there) v.stands rec w t q)

  fields' : EachField n j r'.heap S.pages (Good n j r'.heap s.consts)
  fields' i k a l t b m v rec q =
      field_kept keeps i k a l t (below_r i b) b m v rec q
      (λ e. let u = chain_below G.laid i b m v in absurd (omega arith))
      (λ v₀ rec₀ g. good' _ (field_out i k a l t b m v₀ rec₀ q) g)

  -- ---- whose each page is now

  chained' : (k : ℕ) → k < N → Chained j own' S.pages (S.free ++ S.pages j) k
  chained' k b = given_chained ks k (λ f. left f (S.chained k b))
    where
      left : (Memᴰ k ks → ⊥) → Chained R S.own S.pages S.free k → Chained j own° S.pages S.free k
      left f (in_free o m) = in_free (ap (aged j) o) m
      left f (in_region i i_r o m) = other (ℕ_discrete i j)
        where
          other : Dec (i ≡ j) → Chained j own° S.pages S.free k
          other (yes e) = absurd (f (subst (λ x. Memᴰ k (S.pages x)) e m))
          other (no ne) = let c : i < j = omega arith in in_region i c (ap (aged j) o ∙ aged_below j i c) m

  -- the region's table words are 0
  past' : (x : ℕ) → 4 * j ≤ x → x < 256 → at table' x ≡ 0
  past' x p q = go (ℕ_discrete x (4 * j)) (ℕ_discrete x (4 * j + 1)) (ℕ_discrete x (4 * j + 2)) (ℕ_discrete x (4 * j + 3))
    where
      inside : 4 * j + 3 < length r'.table
      inside = let a = ap length G.table in let b = S.within.table in let c = S.regions in omega arith

      go : Dec (x ≡ 4 * j) → Dec (x ≡ 4 * j + 1) → Dec (x ≡ 4 * j + 2) → Dec (x ≡ 4 * j + 3) → at table' x ≡ 0
      go (yes e) b c d = ap (at table') e ∙ row_end r'.table j 0 0 0 0 inside
      go (no a) (yes e) c d = ap (at table') e ∙ row_first r'.table j 0 0 0 0 inside
      go (no a) (no b) (yes e) d = ap (at table') e ∙ row_top r'.table j 0 0 0 0 inside
      go (no a) (no b) (no c) (yes e) = ap (at table') e ∙ row_status r'.table j 0 0 0 0 inside
      go (no a) (no b) (no c) (no d) = else x (inr (omega arith)) ∙ S.past x (omega arith) q

  pub pop_sound : Sound s'
  pop_sound =
      record {
        within = within_same keeps.long width refl refl S.within;
        own = own';
        fin = S.fin;
        pages = S.pages;
        free = S.free ++ S.pages j;
        regions = let a = S.regions in omega arith;
        past = past';
        idle = λ i b. else (4 * i + 3) (inl (omega arith)) ∙ S.idle i (below_r i b);
        laid = rw keeps.long laid;
        chained = rw keeps.long chained';
        fields = fields';
        roots = λ i b. good' _ (root_out i b) (S.roots i b);
        consts = S.consts;
      }

-- what holds of the store, and of the store without its top region where that is not held, holds of what pop leaves
pub pop_leaves : (Q : Store → Type 0) (s : Store) (S : Sound s) → Q s
    → ((j : ℕ) (top : s.ctl.regions ≡ suc j) (free : let_go s.ctl.n s.heap s.table s.roots j ≡ true) → Q (s' s S j top free)) → Q (left_plain (pop s))
unfolding pop pop_top pop_on
pop_leaves Q s S stays popped =
    lawful_keeps (λ o. Q (left_plain o)) (pop_lawful s) (λ r. stays)
    (λ l c b e₁ e₂.
    let j : ℕ = s.ctl.regions - 1 in
    let ne = eqb-false s.ctl.regions 0 e₁ in
    let top : s.ctl.regions ≡ suc j = omega arith in
    rw (l, c, ((meaning s).1 S).unbroken, e₁, e₂, pages_are S j (omega arith)) (popped j top (not-false _ e₂)))

pub pop_keeps : (s : Store) → Sound s → Sound (left_plain (pop s))
pop_keeps s S = pop_leaves Sound s S S (pop_sound s S)
