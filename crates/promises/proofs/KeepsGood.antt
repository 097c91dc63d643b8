-- What a change of the heap leaves of good pointers and of records, where every page of a region keeps its words up to the end of its
-- values. Good pointers name values before that end.
use Prim.Native.Nat.{ℕ, suc, ◌+◌, ◌*◌, ◌^◌, ◌≤◌, ◌<◌}
use native.Mathlib.Omega.{arith}
use mathlib.Core.Path.{◌≡◌, sym, ap, ◌∙◌}
use mathlib.Core.Logic.{◌≢◌, ◌⊎◌, inl, inr}
use mathlib.Core.Bool.{true}
use mathlib.Core.List.{List, Memᴰ}
use lib.ListN.{length, take, drop}
use Rattle.laws.specs.Lists.{at}
use Rattle.laws.proofs.Lists.{part_same}
use Rattle.rules.specs.Memory.{Store}
use Rattle.rules.specs.Words.{in_heap, word_of, is_record}
use Rattle.rules.proofs.Steps.{OnPage, steps_le}
use Rattle.facts.proofs.Laid.{Body, old≢spare, old≢mine, old≢beyond, old, chain_body}
use Rattle.facts.proofs.Framed.{value_kept, value_was, good_below, good_in_lem}
use Rattle.facts.proofs.Goods.{page_ends}
use Rattle.facts.proofs.Sound.{InHeap, Good, a_number, to_heap, to_const, Chained, in_free, in_region, Sound, good_page}

-- ---- good words

-- a good word is good after a change of the heap, if what it points to in the heap is
pub good_after : {n R R' : ℕ} {g h consts : List ℕ} {w : ℕ} → ((a : ℕ) → word_of w ≡ in_heap a → InHeap n R g a → InHeap n R' h a) → Good n R g consts w → Good n R' h consts w
good_after f (a_number e) = a_number e
good_after f (to_heap a e p) = to_heap a e (f a e p)
good_after f (to_const a e p) = to_const a e p

-- ---- pages of regions

-- the heap h is as long, and has the words of the regions below R', up to the end of the values of each page
pub record KeepsWords (s : Store) (S : Sound s) (R' : ℕ) (h : List ℕ) : Type 0 where
  pub long : length h ≡ length s.heap
  pub words : (j k x : ℕ) → j < s.ctl.regions → j < R' → Memᴰ k (S.pages j) → k * 2 ^ s.ctl.n < x → x < S.fin k → at s.heap x ≡ at h x

-- nobody's page is from-space
pub not_old : (s : Store) (S : Sound s) (k : ℕ) → S.own k ≢ old
not_old s S k e = go (S.chained k (S.laid.known k (old≢beyond e)))
  where
    go : Chained s.ctl.regions S.own S.pages S.free k → ⊥
    go (in_free o m) = old≢spare e o
    go (in_region j b o m) = old≢mine e o

module _ {s : Store} {S : Sound s} {R' : ℕ} {h : List ℕ} (K : KeepsWords s S R' h) where
  abbrev n : ℕ
  n = s.ctl.n

  abbrev R : ℕ
  R = s.ctl.regions

  -- a value of such a region stands there still, and its page is still the region's
  module _ (a : ℕ) (p : InHeap n R s.heap a) (b : p.region < R') where
    body : Body n s.heap p.page p.region (S.fin p.page)
    body = chain_body S.laid p.region p.page p.known (good_page S p)

    keep : (x : ℕ) → p.page * 2 ^ n < x → x < S.fin p.page → at s.heap x ≡ at h x
    keep x = K.words p.region p.page x p.known b (good_page S p)

    pub value_there : OnPage n h p.page a p.len
    value_there = value_kept body h (λ y u v. keep y (omega arith) v) p.value

    pub origin_there : at s.heap (p.page * 2 ^ n + 1) ≡ at h (p.page * 2 ^ n + 1)
    origin_there = let lo = steps_le body.filled in keep (p.page * 2 ^ n + 1) (omega arith) (omega arith)

    pub words_there : take (suc p.len) (drop a s.heap) ≡ take (suc p.len) (drop a h)
    words_there =
        let lo = steps_le p.value.steps in
        let hi = good_below S p in
        let end = body.inside in
        let i = page_ends n s.heap S.within.paged p.page p.there in
        part_same s.heap h a (suc p.len) (sym K.long) (λ x u v. keep x (omega arith) (omega arith)) (omega arith)

    abbrev pub in_kept : InHeap n R' h a
    in_kept = good_in_lem n R R' s.heap h a p K.long b origin_there value_there

  -- a good word is good still, if its region is still there
  pub good_kept : (w : ℕ) → ((a : ℕ) (p : InHeap n R s.heap a) → word_of w ≡ in_heap a → p.region < R')
      → Good n R s.heap s.consts w → Good n R' h s.consts w
  good_kept w f g = good_after (λ a e p. in_kept a p (f a p e)) g

  -- a record that stands in h lies behind what was filled of its page, or stood there before, with the same fields
  pub field_kept : (j k a l i : ℕ) → j < R → j < R' → Memᴰ k (S.pages j) → OnPage n h k a l → is_record (at h a) ≡ true → i < l
      → (S.fin k ≤ a → Good n R' h s.consts (at h (a + suc i)))
      → (OnPage n s.heap k a l → is_record (at s.heap a) ≡ true → Good n R s.heap s.consts (at s.heap (a + suc i)) → Good n R' h s.consts (at s.heap (a + suc i)))
      → Good n R' h s.consts (at h (a + suc i))
  field_kept j k a l i b b' m v rec q behind before =
      go (value_was (chain_body S.laid j k b m) h (λ y u w. K.words j k y b b' m (omega arith) w) v)
    where
      go : (S.fin k ≤ a) ⊎ (OnPage n s.heap k a l × (a + suc l ≤ S.fin k)) → Good n R' h s.consts (at h (a + suc i))
      go (inl e) = behind e
      go (inr (u, e)) =
          let lo = steps_le u.steps in
          let rec₀ = ap is_record (K.words j k a b b' m (omega arith) (omega arith)) ∙ rec in
          rw (← K.words j k (a + suc i) b b' m (omega arith) (omega arith)) (before u rec₀ (S.fields j k a l i b m u rec₀ q))
