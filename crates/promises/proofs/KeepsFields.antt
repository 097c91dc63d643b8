-- Setting a root and assigning a field keep a heap sound: the word offered is good, and a field is no part of the layout.
use Prim.Native.Nat.{ℕ, suc, ◌+◌, ◌*◌, ◌/◌, ◌^◌, ◌<◌}
use native.Mathlib.Omega.{arith}
use mathlib.Core.Path.{◌≡◌, refl, sym, ap, ◌∙◌}
use mathlib.Core.Logic.{◌≢◌}
use mathlib.Core.Bool.{false, not, true≢false}
use mathlib.Core.List.{List}
use lib.ListN.{length, set, length-set}
use lib.Seq.{get_or-set_other}
use lib.Dec.{leb}
use borrow.Author.Tests.{leb-false, not-false}
use Rattle.laws.specs.Lists.{at}
use Rattle.laws.proofs.Lists.{set_keeps}
use Rattle.rules.specs.Memory.{Store, lent, page_count}
use Rattle.rules.specs.Words.{Word, number, in_heap, in_const, word_of, is_record, good_heap, good_in}
use Rattle.rules.specs.Pages.{begun}
use Rattle.rules.specs.Calls.{assign_at, assign_by, assign, set_root}
use Rattle.rules.proofs.Headers.{header_odd}
use Rattle.rules.proofs.Limits.{within_same}
use Rattle.rules.proofs.Steps.{OnPage}
use Rattle.facts.proofs.Inside.{no_descriptor, no_header, value_still}
use Rattle.facts.proofs.Laid.{Layout}
use Rattle.facts.proofs.Framed.{good_in_lem, good_below}
use Rattle.facts.proofs.Goods.{page_ends, good_of, in_heap_lem}
use Rattle.facts.proofs.Sound.{InHeap, Good, EachField, Sound, descriptor_fits, good_page}
use Rattle.working.proofs.Fielded.{field_laid}
use Rattle.rules.specs.Left.{left_plain}
use Rattle.rules.specs.Order.{assign_tests}
use Rattle.promises.proofs.Ordered.{Unless, lawful_keeps}
use Rattle.promises.proofs.Outcomes.{heap_address, set_root_lawful, assign_lawful}
use Rattle.promises.proofs.KeepsGood.{good_after}

-- ---- a root

root_sound : (s : Store) (S : Sound s) (i w : ℕ) → i < length s.roots → Good s.ctl.n s.ctl.regions s.heap s.consts w
    → Sound (lent s.heap s.table (set s.roots i w) s.consts s.ctl)
root_sound s S i w there good =
    let len = length-set s.roots i w in
    record {
      within = within_same refl refl len refl S.within;
      own = S.own;
      fin = S.fin;
      pages = S.pages;
      free = S.free;
      regions = S.regions;
      past = S.past;
      idle = S.idle;
      laid = S.laid;
      chained = S.chained;
      fields = S.fields;
      roots = λ j b. set_keeps (Good s.ctl.n s.ctl.regions s.heap s.consts) s.roots i w j there (λ e. good) (λ ne. S.roots j (omega arith));
      consts = S.consts;
    }

pub set_root_keeps : (s : Store) (i w : ℕ) → Sound s → Sound (left_plain (set_root s i w))
unfolding set_root
set_root_keeps s i w S =
    lawful_keeps (λ o. Sound (left_plain o)) (set_root_lawful s i w) (λ r. S)
    (λ l c e₁ e₂. rw (l, c, e₁, e₂) (root_sound s S i w (leb-false _ _ e₁) (good_of S.within.paged (not-false _ e₂))))

-- ---- a field

-- field i of the record of l words at address d
module _ (s : Store) (S : Sound s) (d i x : ℕ) (p : InHeap s.ctl.n s.ctl.regions s.heap d) (i_in : i < p.len)
    (good : Good s.ctl.n s.ctl.regions s.heap s.consts x) where
  abbrev n : ℕ
  n = s.ctl.n

  abbrev R : ℕ
  R = s.ctl.regions

  abbrev k : ℕ
  k = p.page

  abbrev h' : List ℕ
  h' = set s.heap (d + suc i) x

  laid : Layout n (page_count n s.heap) R S.own S.fin S.pages S.free (begun (lent h' s.table s.roots s.consts s.ctl))
  laid = field_laid S.laid (S.laid.mine_own p.region k p.known (good_page S p)) p.value (good_below S p) i i_in x

  keep : (y : ℕ) → y ≢ d + suc i → at s.heap y ≡ at h' y
  keep y ne = sym (get_or-set_other s.heap (d + suc i) y x 0 ne)

  there : {m a l : ℕ} → OnPage n s.heap m a l → OnPage n h' m a l
  there = value_still p.value i i_in h' keep

  back : {m a l : ℕ} → OnPage n h' m a l → OnPage n s.heap m a l
  back = value_still (there p.value) i i_in s.heap (λ y ne. sym (keep y ne))

  -- an origin is no such word
  origin_kept : (m : ℕ) → at s.heap (m * 2 ^ n + 1) ≡ at h' (m * 2 ^ n + 1)
  origin_kept m =
      keep (m * 2 ^ n + 1)
      (no_descriptor p.value i i_in m (m * 2 ^ n + 1) (descriptor_fits S) (omega arith) (omega arith))

  good_still : (w : ℕ) → Good n R s.heap s.consts w → Good n R h' s.consts w
  good_still w g =
      good_after
      (λ a e q. good_in_lem n R R s.heap h' a q (length-set s.heap (d + suc i) x) q.known (origin_kept q.page) (there q.value)) g

  fields' : EachField n R h' S.pages (Good n R h' s.consts)
  fields' j m a l t b mem v rec q =
      let hi = page_ends n s.heap S.within.paged k p.there in
      let end = p.value.stands.ends in
      set_keeps (Good n R h' s.consts) s.heap (d + suc i) x (a + suc t) (omega arith) (λ e. good_still x good)
      (λ ne.
      good_still _
      (S.fields j m a l t b mem (back v) (ap is_record (keep a (no_header p.value i i_in (back v))) ∙ rec) q))

  pub field_sound : Sound (lent h' s.table s.roots s.consts s.ctl)
  field_sound =
      let len = length-set s.heap (d + suc i) x in
      record {
        within = within_same len refl refl refl S.within;
        own = S.own;
        fin = S.fin;
        pages = S.pages;
        free = S.free;
        regions = S.regions;
        past = S.past;
        idle = S.idle;
        laid = rw len laid;
        chained = rw len S.chained;
        fields = fields';
        roots = λ j b. good_still _ (S.roots j b);
        consts = S.consts;
      }

pub assign_keeps : (s : Store) (w i x : ℕ) → Sound s → Sound (left_plain (assign s w i x))
unfolding assign assign_by assign_at good_in
assign_keeps s w i x S = lawful_keeps (λ o. Sound (left_plain o)) (assign_lawful s w i x) (λ r. S) (go (word_of w) refl)
  where
    go : (v : Word) → word_of w ≡ v → Unless (assign_tests s w i x) (Sound (left_plain (assign s w i x)))
    go number q l c e₁ e₂ e₃ e₄ e₅ = absurd (true≢false (rw q at e₃))
    go (in_const a) q l c e₁ e₂ e₃ e₄ e₅ = absurd (true≢false (rw q at e₂))
    go (in_heap a) q l c e₁ e₂ e₃ e₄ e₅ =
        let z = heap_address w a q in
        let f₁ : not (good_heap s.ctl.n s.ctl.regions s.heap a) ≡ false = rw (q, good_in) at e₁ in
        let f₃ : not (is_record (at s.heap a)) ≡ false = rw (q, ← z) at e₃ in
        let f₄ : leb (at s.heap a / 8) i ≡ false = rw (← z) at e₄ in
        let p = in_heap_lem s.ctl.n s.ctl.regions s.heap S.within.paged a (not-false _ f₁) in
        let h = (header_odd (at s.heap a) p.len p.value.stands.head).1 in
        let b = leb-false (at s.heap a / 8) i f₄ in
        let t : suc (a + i) ≡ a + suc i = omega arith in
        rw (l, c, q, f₁, f₃, f₄, e₅, t) (field_sound s S a i x p (omega arith) (good_of S.within.paged (not-false _ e₅)))
