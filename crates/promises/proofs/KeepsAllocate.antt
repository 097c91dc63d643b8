-- Allocating keeps a heap sound: the region has room, in its last page or in a page taken and linked; the value stands behind the others, and
-- its words were judged before.
use Prim.Native.Nat.{ℕ, suc, ◌+◌, ◌*◌, ◌/◌, ◌%◌, ◌^◌, ◌≤◌, ◌<◌}
use native.Mathlib.Nat.{add-zero}
use native.Mathlib.Omega.{arith}
use native.Mathlib.Decide.{ℕ_discrete}
use mathlib.Core.Path.{◌≡◌, refl, sym, ap, ◌∙◌}
use mathlib.Core.Logic.{◌≢◌, ◌⊎◌, inl, inr}
use mathlib.Core.Bool.{true}
use mathlib.Core.Option.{some}
use mathlib.Core.List.{List, [], ◌∷◌, Memᴰ}
use lib.ListN.{length, length-set}
use lib.Seq.{get_or-set_other}
use lib.Dec.{leb}
use borrow.Author.Tests.{eqb-true, leb-false, ltb-false, not-false}
use Rattle.laws.specs.Lists.{at}
use Rattle.laws.proofs.Choices.{choice_keeps}
use Rattle.laws.proofs.Facts.{all_at}
use Rattle.rules.specs.declared.Kind.{Kind}
use Rattle.rules.specs.Memory.{Store, lent, page_count, end_of, top_of}
use Rattle.rules.specs.Words.{head_of, length_by, is_record}
use Rattle.rules.specs.Audit.{good_word}
use Rattle.rules.specs.Pages.{Run, begun, record_after, store, place}
use Rattle.rules.specs.Calls.{header_for, words_fit, allocate_on, allocate_in, allocate}
use Rattle.rules.proofs.Headers.{record_by_lem}
use Rattle.rules.proofs.Limits.{within_same}
use Rattle.rules.proofs.Steps.{PageStands, steps_le, same_length, apart}
use Rattle.facts.proofs.Laid.{spare≢mine, mine≢beyond, upd, upd_same, upd_other, mine, Layout, Value}
use Rattle.facts.proofs.Framed.{chain_below}
use Rattle.facts.proofs.Goods.{good_of}
use Rattle.facts.proofs.Sound.{Good, EachField, Sound}
use Rattle.working.proofs.Aside.{stack_laid}
use Rattle.working.proofs.Stored.{StoredAt, store_laid, stored}
use Rattle.working.proofs.Placed.{Roomed}
use Rattle.rules.specs.Left.{left_valued}
use Rattle.working.proofs.Owned.{sound_owned, owned_chained, owned_mine}
use Rattle.working.proofs.Log.{Into, last_page_lem, free_page}
use Rattle.promises.proofs.Ordered.{lawful_keeps}
use Rattle.promises.proofs.Outcomes.{allocate_lawful}
use Rattle.promises.proofs.KeepsGood.{KeepsWords, good_kept, field_kept, not_old}
use Rattle.rules.specs.Order.{no_page, bad_link}
use Rattle.working.proofs.Wanting.{wants_page_lem, goes_on}
use Rattle.working.proofs.Evacuating.{room_or}

-- ---- the header of a value

header_length : (kind : Kind) (l : ℕ) → length_by (head_of (header_for kind l)) ≡ some l
unfolding head_of
header_length Kind.Record l =
    let a : (8 * l + 1) % 8 ≡ 1 = omega arith in
    let b : (8 * l + 1) / 8 ≡ l = omega arith in
    rw (a, b)
header_length Kind.Raw l =
    let a : (8 * l + 3) % 8 ≡ 3 = omega arith in
    let b : (8 * l + 3) / 8 ≡ l = omega arith in
    rw (a, b)

-- a record's words are good
words_good : (s : Store) (S : Sound s) (kind : Kind) (ws : List ℕ) → words_fit s kind ws ≡ true → is_record (header_for kind (length ws)) ≡ true
    → (i : ℕ) → i < length ws → Good s.ctl.n s.ctl.regions s.heap s.consts (at ws i)
words_good s S Kind.Record ws t r i b = good_of S.within.paged (all_at (good_word s) ws t i b)
words_good s S Kind.Raw ws t r i b = let e = eqb-true ((8 * length ws + 3) % 8) 1 (sym (record_by_lem (8 * length ws + 3)) ∙ r) in absurd (omega arith)

-- ---- the value placed

-- after region j was given room for it
module _ (s : Store) (S : Sound s) (j : ℕ) (j_r : j < s.ctl.regions) (kind : Kind) (ws : List ℕ) (good : words_fit s kind ws ≡ true) (r₁ : Run)
    (rm : Roomed s.ctl.n (page_count s.ctl.n s.heap) s.ctl.regions S.own S.fin S.pages S.free (begun s) j (suc (length ws)) r₁) where
  abbrev n : ℕ
  n = s.ctl.n

  abbrev N : ℕ
  N = page_count s.ctl.n s.heap

  abbrev R : ℕ
  R = s.ctl.regions

  abbrev P : ℕ
  P = 2 ^ s.ctl.n

  abbrev value : List ℕ
  value = header_for kind (length ws) ∷ ws

  -- the region's last page, and its a
  abbrev z : ℕ
  z = (rm.laid.mine_top j j_r).page

  abbrev top : ℕ
  top = top_of r₁.table j

  top_is : top ≡ rm.fin₁ z
  top_is = (rm.laid.mine_top j j_r).top

  val : Value value (length ws)
  val = record { head = header_length kind (length ws); size = refl }

  abbrev r₂ : Run
  r₂ = store n j value r₁

  abbrev fin' : ℕ → ℕ
  fin' = upd rm.fin₁ z (rm.fin₁ z + length value)

  L₂ : Layout n N R rm.own₁ fin' rm.pages₁ rm.free₁ r₂
  L₂ = store_laid rm.laid j j_r value rm.fits (length ws) val

  abbrev s' : Store
  s' = lent r₂.heap r₂.table s.roots s.consts (record_after s R r₂)

  T : StoredAt n rm.own₁ rm.fin₁ r₁.heap r₂.heap z top (length ws) value
  T = stored rm.laid j j_r value rm.fits (length ws) val

  -- the regions' pages keep what they held
  own_kept : (i k : ℕ) → i < R → Memᴰ k (S.pages i) → (rm.own₁ k ≡ mine i) × (rm.fin₁ k ≡ S.fin k)
  own_kept i k b m = rm.mine_kept k i (S.laid.mine_own i k b m)

  keeps : KeepsWords s S R r₂.heap
  keeps =
      record {
        long = L₂.size ∙ sym S.laid.size;
        words = λ i k x b c m p q.
            let o = S.laid.mine_own i k b m in
            let hi = (S.laid.mine_body i k o).inside in
            let t = own_kept i k b m in
            let f = t.1 in
            sym (rm.words k x (λ e. spare≢mine e o) (λ e. mine≢beyond o e) p (omega arith)) ∙ T.keeps k i x t.0 p (omega arith);
      }

  good' : (w : ℕ) → Good n R s.heap s.consts w → Good n R r₂.heap s.consts w
  good' w g = good_kept keeps w (λ a p e. p.known) g

  head_word : at r₂.heap top ≡ header_for kind (length ws)
  head_word = ap (at r₂.heap) (sym (add-zero top)) ∙ T.word 0 (omega arith)

  fields' : EachField n R r₂.heap rm.pages₁ (Good n R r₂.heap s.consts)
  fields' i k a l t b m v rec q = go (ℕ_discrete k z)
    where
      Fine : Type 0
      Fine = Good n R r₂.heap s.consts (at r₂.heap (a + suc t))

      below : a + suc l ≤ fin' k
      below = chain_below L₂ i b m v

      -- what lies behind the values of before is in the last page, and is the value stored
      new : rm.fin₁ k ≤ a → Fine
      new lo = by (ℕ_discrete k z)
        where
          stored_there : k ≡ z → (a ≤ top) ⊎ (top + suc (length ws) ≤ a) → Fine
          stored_there e (inr u) =
              let x = below in
              let y : fin' k ≡ rm.fin₁ z + length value = upd_same rm.fin₁ z (rm.fin₁ z + length value) k e in
              let top_fin = top_is in
              absurd (omega arith)
          stored_there e (inl u) =
              let top_fin = top_is in
              let f : rm.fin₁ k ≡ rm.fin₁ z = ap rm.fin₁ e in
              let at_top : a ≡ top = omega arith in
              let st' : PageStands n r₂.heap z top l = rw (← e, ← at_top) v.stands in
              let len : l ≡ length ws = same_length st' T.value.stands in
              let rec' : is_record (header_for kind (length ws)) ≡ true = ap is_record (sym head_word ∙ ap (at r₂.heap) (sym at_top)) ∙ rec in
              rw (at_top, T.word (suc t) (omega arith)) (good' _ (words_good s S kind ws good rec' t (omega arith)))

          by : Dec (k ≡ z) → Fine
          by (yes e) = stored_there e (apart T.value.steps T.value.stands (rw e at v.steps))
          by (no ne) = let x = below in let y : fin' k ≡ rm.fin₁ k = upd_other rm.fin₁ z (rm.fin₁ z + length value) k ne in absurd (omega arith)

      -- a page that was the region's
      was : S.own k ≡ mine i → Fine
      was o =
          let old_page = (owned_mine S.laid (sound_owned S) o).1 in
          field_kept keeps i k a l t b b old_page v rec q (λ u. let f = (own_kept i k b old_page).1 in new (omega arith)) (λ v₀ rec₀ g. good' _ g)

      own₁_k : rm.own₁ k ≡ mine i
      own₁_k = rm.laid.mine_own i k b m

      last_was : k ≡ z → Into n S.own S.fin S.pages rm.pages₁ j top z → Fine
      last_was e (last_page_lem o u same f) = was (ap S.own e ∙ o ∙ sym (rm.mine_kept z j o).0 ∙ ap rm.own₁ (sym e) ∙ own₁_k)
      last_was e (free_page o longer f) =
          let w : k * P ≡ z * P = ap (λ y. y * P) e in
          let x : rm.fin₁ k ≡ rm.fin₁ z = ap rm.fin₁ e in
          let top_fin = top_is in
          let lo = steps_le v.steps in
          new (omega arith)

      go : Dec (k ≡ z) → Fine
      go (yes e) = last_was e (rm.place j_r)
      go (no ne) = was (rm.mine_from j_r k i own₁_k ne)

  table_is : (x : ℕ) → x ≢ 4 * j → x ≢ 4 * j + 2 → at r₂.table x ≡ at s.table x
  unfolding store
  table_is x p q = get_or-set_other r₁.table (4 * j + 2) x (top_of r₁.table j + length value) 0 q ∙ rm.row_kept x p q

  width : length r₂.table ≡ length s.table
  unfolding store
  width = length-set r₁.table (4 * j + 2) (top_of r₁.table j + length value) ∙ rm.width

  pub value_sound : Sound s'
  value_sound =
      record {
        within = within_same keeps.long width refl refl S.within;
        own = rm.own₁;
        fin = fin';
        pages = rm.pages₁;
        free = rm.free₁;
        regions = S.regions;
        past = λ x p q. table_is x (omega arith) (omega arith) ∙ S.past x p q;
        idle = λ i b. table_is (4 * i + 3) (omega arith) (omega arith) ∙ S.idle i b;
        laid = rw keeps.long (stack_laid L₂ []);
        chained = rw keeps.long (λ k b. owned_chained (rm.owned (sound_owned S)) k b (λ e. not_old s S k ((rm.old_kept k).1 e)));
        fields = fields';
        roots = λ i b. good' _ (S.roots i b);
        consts = S.consts;
      }

pub allocate_keeps : (s : Store) (j : ℕ) (kind : Kind) (ws : List ℕ) → Sound s → Sound (left_valued (allocate s j kind ws))
unfolding allocate allocate_in allocate_on place
allocate_keeps s j kind ws S =
    lawful_keeps (λ o. Sound (left_valued o)) (allocate_lawful s j kind ws) (λ r. S)
    (λ l c e₁ e₂ e₃ e₄ e₅ e₆.
    rw (l, c, e₁, e₂, e₃, e₄) (placed (leb-false s.ctl.regions j e₁) (ltb-false (2 ^ s.ctl.n) (length ws + 3) e₃) (not-false _ e₄)))
  where
    placed : j < s.ctl.regions → length ws + 3 ≤ 2 ^ s.ctl.n → words_fit s kind ws ≡ true → Sound (left_valued (allocate_in s j (header_for kind (length ws) ∷ ws)))
    placed j_r small good =
        let f : Sound (left_valued (allocate_on s (place s.ctl.n j (header_for kind (length ws) ∷ ws) (begun s)))) =
        elim (room_or S.laid j (suc (length ws)) j_r (omega arith)) [
          | wants_page_lem e t ↦ rw (place, e, allocate_on) S
          | goes_on r₁ e rm ↦ rw (place, e, allocate_on) (value_sound s S j j_r kind ws good r₁ rm)
        ] in
        choice_keeps (λ o. Sound (left_valued o)) (leb (top_of s.table j + suc (length ws)) (end_of s.table j)) _ _ (λ e. f)
        (λ e.
        choice_keeps (λ o. Sound (left_valued o)) (no_page s) _ _ (λ q. S) (λ q. choice_keeps (λ o. Sound (left_valued o)) (bad_link s) _ _ (λ q. S) (λ q. f)))
