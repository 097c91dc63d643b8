-- A value copied: what changes, as far as the invariant asks. The copy is the last value of its region's last page, be it the page that was
-- last or one taken for it, and its old header is the forward to it.
use Prim.Native.Nat.{ℕ, suc, ◌+◌, ◌*◌, ◌<◌}
use native.Mathlib.Omega.{arith}
use mathlib.Core.Path.{◌≡◌, sym, ap, ◌∙◌}
use mathlib.Core.Logic.{◌≢◌}
use mathlib.Core.Option.{some}
use mathlib.Core.List.{List, ◌∷◌, Memᴰ}
use lib.ListN.{length, set, take, drop, length-set}
use lib.Seq.{get_or-set_other}
use Rattle.laws.specs.Lists.{at, put}
use Rattle.rules.specs.Memory.{Store, page_count, top_of, status_of}
use Rattle.rules.specs.Pages.{Run, with_heap, store, room}
use Rattle.rules.specs.Collection.{wake, move_to}
use Rattle.rules.specs.Seen.{seen, Reached}
use Rattle.rules.proofs.Steps.{steps_le}
use Rattle.facts.proofs.Laid.{Owner, old, mine, Layout, upd, upd_other, words_in, old≢beyond}
use Rattle.facts.proofs.Sound.{InHeap, Sound}
use Rattle.working.proofs.Owned.{Owned, total}
use Rattle.working.proofs.Log.{olds, Evacuated}
use Rattle.working.proofs.Placed.{Roomed}
use Rattle.working.proofs.Aside.{wake_laid, forward_laid}
use Rattle.working.proofs.Moving.{val, fits, evacuated}
use Rattle.working.proofs.Stored.{store_laid}
use Rattle.working.proofs.Wanting.{has_room}
use Rattle.working.proofs.Invariant.{Ghost, Inv}
use Rattle.working.proofs.Waking.{entry, Stacked, slept, was_awake, Woken, wakes}

-- a value of an old page that is not copied yet
pub record Uncopied (s : Store) (g : Ghost) : Type 0 where
  pub address : ℕ
  pub good : InHeap s.ctl.n s.ctl.regions s.heap address
  pub from_old : g.own good.page ≡ old
  pub reached : Reached (seen s) s.roots (4 * address)
  pub new : Memᴰ address (olds g.log) → ⊥

-- it is copied to b, in page p, and the pages are then these
pub record Made (s : Store) (g : Ghost) (r : Run) (x : Uncopied s g) (b p : ℕ) (own : ℕ → Owner) (fin : ℕ → ℕ) (pages : ℕ → List ℕ) (free : List ℕ) (r' : Run) : Type 0 where
  pub laid : Layout s.ctl.n (page_count s.ctl.n s.heap) s.ctl.regions own fin pages free r'
  pub moved : Evacuated s.ctl.n s g.own own g.fin fin g.pages pages r.heap r'.heap x.good.region x.good.len x.address b x.good.page p
  pub fin_other : (k i : ℕ) → g.own k ≡ mine i → k ≢ p → g.fin k ≡ fin k
  pub pages_other : (i : ℕ) → i ≢ x.good.region → pages i ≡ g.pages i
  pub owned : Owned (page_count s.ctl.n s.heap) s.ctl.regions g.own g.pages g.free → Owned (page_count s.ctl.n s.heap) s.ctl.regions own pages free
  pub spent : length free + total pages s.ctl.regions ≡ length g.free + total g.pages s.ctl.regions
  -- of the table only the region's e, a and status change
  pub width : length r'.table ≡ length r.table
  pub row : (y : ℕ) → y ≢ 4 * x.good.region → y ≢ 4 * x.good.region + 2 → y ≢ 4 * x.good.region + 3 → at r'.table y ≡ at r.table y
  pub awake : status_of r'.table x.good.region ≢ 0
  pub how : Stacked x.good.region b r r'

-- its words, as the heap has them now
pub value_length : {s : Store} {S : Sound s} {g : Ghost} {r : Run} → Inv s S g r → (x : Uncopied s g) → length (take (suc x.good.len) (drop x.address r.heap)) ≡ suc x.good.len
value_length I x = words_in I.laid (old≢beyond x.from_old) x.good.value

module _ {s : Store} {S : Sound s} {g : Ghost} {r : Run} (I : Inv s S g r) (x : Uncopied s g) {r₁ : Run}
    (K : Roomed s.ctl.n (page_count s.ctl.n s.heap) s.ctl.regions g.own g.fin g.pages g.free r x.good.region (suc x.good.len) r₁) where
  abbrev n : ℕ
  n = s.ctl.n

  abbrev N : ℕ
  N = page_count n s.heap

  abbrev R : ℕ
  R = s.ctl.regions

  abbrev j : ℕ
  j = x.good.region

  abbrev f : ℕ
  f = x.good.page

  abbrev a : ℕ
  a = x.address

  abbrev l : ℕ
  l = x.good.len

  abbrev ws : List ℕ
  ws = take (suc l) (drop a r.heap)

  -- the copy's address
  abbrev pub b : ℕ
  b = top_of r₁.table j

  -- the region's last page
  abbrev pub p : ℕ
  p = (K.laid.mine_top j x.good.known).page

  abbrev r₂ : Run
  r₂ = wake n j b (store n j ws r₁)

  abbrev pub after : Run
  after = with_heap r₂ (set r₂.heap a (4 * b))

  abbrev pub fin₂ : ℕ → ℕ
  fin₂ = upd K.fin₁ p (K.fin₁ p + length ws)

  -- ---- layout and log

  laid₂ : Layout n N R K.own₁ fin₂ K.pages₁ K.free₁ r₂
  laid₂ =
      wake_laid
      (store_laid K.laid j x.good.known ws
      (fits I.laid I.logged x.good.known x.from_old x.good.whose x.good.value x.new K) l
      (val I.laid I.logged x.good.known x.from_old x.good.whose x.good.value x.new K))
      j b

  laid : Layout n N R K.own₁ fin₂ K.pages₁ K.free₁ after
  laid =
      let lo = steps_le x.good.value.steps in
      let hi = x.good.value.stands.ends in
      forward_laid laid₂ f a (4 * b) ((K.old_kept f).0 x.from_old) (omega arith) (omega arith)

  abbrev h' : List ℕ
  h' = set (put r₁.heap b ws) a (4 * b)

  E : Evacuated n s g.own K.own₁ g.fin fin₂ g.pages K.pages₁ r.heap h' j l a b f p
  E = evacuated I.laid I.logged x.good.known x.from_old x.good.whose x.good.value x.new K

  -- ---- the table and the stack

  wide : 4 * j + 3 < length (store n j ws r₁).table
  unfolding store
  wide = let q = x.good.known in let t = I.laid.rows in let y = K.width in rw (length-set r₁.table (4 * j + 2) (b + length ws)) (omega arith)

  W : Woken j b (store n j ws r₁) r₂
  W = wakes n j b (store n j ws r₁) wide

  heap_is : after.heap ≡ h'
  unfolding store
  heap_is = ap (λ h. set h a (4 * b)) W.heap

  stored_row : (y : ℕ) → y ≢ 4 * j → y ≢ 4 * j + 2 → at (store n j ws r₁).table y ≡ at r.table y
  unfolding store
  stored_row y q t = get_or-set_other r₁.table (4 * j + 2) y (b + length ws) 0 t ∙ K.row_kept y q t

  same_width : length after.table ≡ length r.table
  unfolding store
  same_width = W.width ∙ length-set r₁.table (4 * j + 2) (b + length ws) ∙ K.width

  pub same_status : status_of (store n j ws r₁).table j ≡ status_of r.table j
  same_status = stored_row (4 * j + 3) (omega arith) (omega arith)

  same_stack : (store n j ws r₁).stack ≡ r.stack
  unfolding store
  same_stack = K.stack_kept

  how : Stacked j b r after
  how = go W.how
    where
      go : Stacked j b (store n j ws r₁) r₂ → Stacked j b r after
      go (slept e q) = slept (sym same_status ∙ e) (q ∙ ap (λ t. entry j b ∷ t) same_stack)
      go (was_awake e q) = was_awake (λ t. e (same_status ∙ t)) (q ∙ same_stack)

  pub made : Made s g r x b p K.own₁ fin₂ K.pages₁ K.free₁ after
  made =
      record {
        laid = laid;
        moved = rw heap_is E;
        fin_other = λ k i q ne. sym (K.mine_kept k i q).1 ∙ sym (upd_other K.fin₁ p (K.fin₁ p + length ws) k ne);
        pages_other = K.pages_other;
        owned = K.owned;
        spent = K.spent;
        width = same_width;
        row = λ y q t u. W.row y u ∙ stored_row y q t;
        awake = W.awake;
        how = how;
      }

  pub made_moves : room n j (suc l) r ≡ some r₁ → move_to n j a l r ≡ some (4 * b, after)
  made_moves e = has_room n j a l r r₁ (ap (λ y. room n j y r) (value_length I x) ∙ e)
