-- A collection that is done ends as the plain one: the taken pages have their origins, the old pages are given back, and table, roots and
-- record are written by the notes and the forwards, which hold what the run holds.
use Prim.Native.Nat.{ℕ, ◌+◌, ◌-◌, ◌*◌, ◌/◌, ◌%◌, ◌≤◌, ◌<◌}
use native.Mathlib.Omega.{arith}
use native.Mathlib.Decide.{dec_lt}
use mathlib.Core.Path.{◌≡◌, refl, sym, ap, ◌∙◌, subst}
use mathlib.Core.List.Memᴰ
use mathlib.Core.List.{List, [], ◌∷◌, ◌++◌, append-nil, append-eq-nil_iff, Memᴰ}
use lib.ListN.{length, take, length-append}
use lib.Seq.{length-take-le, get_or-take, ext_get_or}
use Rattle.laws.specs.Lists.{at}
use Rattle.laws.proofs.Lists.{length_put, at_put_in, at_put_above}
use Rattle.laws.proofs.Once.{last_in}
use Rattle.rules.specs.Memory.{Store, page_count}
use Rattle.rules.specs.Pages.{Run, give_back_all}
use Rattle.rules.specs.Collection.{finished, from_space, leaves, ending}
use Rattle.facts.proofs.Laid.{free_few}
use Rattle.facts.proofs.Passing.{of_from}
use Rattle.facts.proofs.Sound.{Sound}
use Rattle.working.proofs.Owned.{owned_mine}
use Rattle.working.proofs.Invariant.{Ghost, Inv}
use Rattle.motion.specs.Leaves.{Desk, desk, low, free_first, taken, free_last, given}
use Rattle.motion.specs.Whole.{give_all, written_roots, written_table, done_as, done}
use Rattle.agreement.proofs.Matching.{Matching}
use Rattle.agreement.proofs.Origins.{origins_set}
use Rattle.agreement.proofs.GivenBack.{Giving, given_back}
use Rattle.agreement.proofs.Took.{low_is, few_pages}

-- table, roots and record by the notes
pub as_leaves : (s : Store) (roots : List ℕ) (d d' : Desk) (r : Run) → at d'.notes free_first ≡ r.first → at d'.notes free_last ≡ r.last
    → low (s.ctl.count - at d'.notes taken + at d'.notes given) ≡ r.count → d'.heap ≡ r.heap
    → written_table s.ctl.regions d'.notes s.table ≡ r.table → written_roots d.heap s.roots ≡ roots → done_as s d d' ≡ leaves s roots r
unfolding done_as leaves
as_leaves s roots d d' r first last count heap table words = rw (done_as, leaves, first, last, count, heap, table, words)

module _ {s : Store} {S : Sound s} {g : Ghost} {r : Run} {d : Desk} (I : Inv s S g r) (M : Matching s S g r d) where
  abbrev n : ℕ
  n = s.ctl.n

  abbrev N : ℕ
  N = page_count s.ctl.n s.heap

  abbrev R : ℕ
  R = s.ctl.regions

  abbrev d' : Desk
  d' = give_all n N R s.table (desk r.heap d.notes)

  abbrev K : Giving I M [] d'
  K = given_back I M

  -- ---- the table

  table_is : written_table R d'.notes s.table ≡ r.table
  table_is =
      ext_get_or 0 _ _ (long ∙ sym I.width) (λ x b. go x (let a = long in omega arith) (dec_lt x (4 * R)))
    where
      size : length (take (4 * R) d'.notes) ≡ 4 * R
      size = let a = K.size in let b = S.regions in length-take-le (4 * R) d'.notes (omega arith)

      fits : 0 + length (take (4 * R) d'.notes) ≤ length s.table
      fits = let a = size in let b = S.regions in let c = S.within.table in omega arith

      long : length (written_table R d'.notes s.table) ≡ 256
      long = length_put s.table 0 (take (4 * R) d'.notes) fits ∙ S.within.table

      go : (x : ℕ) → x < 256 → Dec (x < 4 * R) → at (written_table R d'.notes s.table) x ≡ at r.table x
      go x b (yes q) =
          let e : 0 + x ≡ x = omega arith in
          let z = size in
          let w : 4 * (x / 4) + x % 4 ≡ x = omega arith in
          ap (at (written_table R d'.notes s.table)) (sym e)
          ∙ at_put_in s.table 0 (take (4 * R) d'.notes) x fits (omega arith)
          ∙ get_or-take (4 * R) d'.notes x 0 q
          ∙ K.same x b
          ∙ ap (at d.notes) (sym w)
          ∙ M.rows (x / 4) (x % 4) (omega arith) (omega arith)
          ∙ ap (at r.table) w
      go x b (no q) =
          let z = size in
          at_put_above s.table 0 (take (4 * R) d'.notes) x fits (omega arith) ∙ sym (I.past_rows x (omega arith))

  -- ---- the record

  -- without regions no page is taken, and with one there are old pages
  no_regions : from_space s ≡ [] → R ≡ 0
  no_regions e = go (dec_lt 0 R)
    where
      go : Dec (0 < R) → R ≡ 0
      go (no q) = omega arith
      go (yes q) =
          let t = S.laid.mine_top 0 q in
          absurd (Memᴰ.not-nil (subst (Memᴰ t.page) e (of_from S 0 t.page q (last_in t.last))))

  none_taken : R ≡ 0 → M.took ≡ []
  none_taken e = go M.took refl
    where
      go : (ks : List ℕ) → M.took ≡ ks → M.took ≡ []
      go [] q = q
      go (k ∷ ks) q =
          let o = (M.owned k).0 (subst (Memᴰ k) (sym q) (Memᴰ.head refl)) in
          let b = (owned_mine I.laid I.owned o.1).0 in
          absurd (omega arith)

  none_free : K.free ≡ [] → M.took ≡ []
  none_free e =
      let a : g.free ++ from_space s ≡ [] = sym K.rows ∙ append-nil K.free ∙ e in
      none_taken (no_regions ((append-eq-nil_iff {p = g.free}).0 a).1)

  count_is : low (s.ctl.count - at d'.notes taken + at d'.notes given) ≡ K.run.count
  count_is =
      let a : at d'.notes taken ≡ length M.took = K.took ∙ M.taken_count in
      let b = K.count in
      let c : s.ctl.count ≡ length (M.took ++ g.free) = S.laid.free_count ∙ ap length M.front in
      let f = length-append M.took g.free in
      let e : s.ctl.count - at d'.notes taken + at d'.notes given ≡ K.run.count = omega arith in
      let u = K.laid.free_count in
      let v = free_few K.laid in
      let w = few_pages S in
      low_is (s.ctl.count - at d'.notes taken + at d'.notes given) (omega arith) ∙ e

  pub done_is : {roots : List ℕ} → written_roots d.heap s.roots ≡ roots → done s N d ≡ ending s roots (finished r)
  unfolding done ending give_back_all
  done_is {roots} written =
      ap (λ h. done_as s d (give_all n N R s.table (desk h d.notes))) (origins_set I M)
      ∙ as_leaves s roots d d' K.run K.first (K.last none_free) count_is K.heap (table_is ∙ sym K.table) written
      ∙ ap (leaves s roots) K.rest
