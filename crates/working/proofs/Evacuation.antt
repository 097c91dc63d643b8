-- One evacuation of any good word keeps the invariant, or wants a page that is not there: a number or a constant pointer stays, a forwarded
-- value gives its forward, any other value is copied.
use Prim.Native.Nat.{ℕ, suc, ◌+◌, ◌*◌, ◌^◌, ◌<◌, zero-le}
use native.Mathlib.Nat.{add-zero}
use native.Mathlib.Omega.{arith}
use mathlib.Core.Path.{◌≡◌, refl, ap, ◌∙◌}
use mathlib.Core.Bool.{false}
use mathlib.Core.Option.{none, some}
use mathlib.Core.List.{List, [], Memᴰ}
use lib.ListN.{length, take, drop}
use Rattle.laws.specs.Lists.{at}
use borrow.Author.Tests.{lt-leb}
use lib.Dec.{leb}
use Rattle.rules.specs.Memory.{Store, page_count, origin, end_of, top_of}
use Rattle.rules.specs.Words.{head_of, length_by}
use Rattle.rules.specs.Pages.{Run, room}
use Rattle.rules.specs.Collection.{move_to, region_at, evacuate_at, evacuate}
use Rattle.rules.specs.Seen.{seen, Reached}
use Rattle.laws.proofs.Once.{member?}
use Rattle.rules.proofs.Steps.{steps_le}
use Rattle.facts.proofs.Laid.{old}
use Rattle.facts.proofs.Copied.{to, Rel, num, stay, went}
use Rattle.rules.proofs.Pointers.{pointer, pointer_is, Heads, a_record, raw_words, head_is, forward_head}
use Rattle.facts.proofs.Inside.{page_at}
use Rattle.facts.proofs.Sound.{InHeap, Good, a_number, to_heap, to_const, Sound, good_page}
use Rattle.working.proofs.Log.{pointers, olds, in_olds, in_pointers}
use Rattle.working.proofs.Placed.{Roomed}
use Rattle.working.proofs.Moving.{still, still_whose}
use Rattle.rules.specs.Wanted.{any_page, room_for, move_for, evacuate_at_for, evacuate_for}
use Rattle.working.proofs.Wanting.{lacks_as, wants_page_lem, goes_on, lacks_room}
use Rattle.working.proofs.Dry.{Dry, Overdrawn, laid_dry, page_dry, join_dry, forward_dry}
use Rattle.working.proofs.Invariant.{Ghost, Kept, Inv, later_refl, Became, Evacuates}
use Rattle.working.proofs.Evacuating.{RoomOr, room_or}
use Rattle.working.proofs.Copying.{Uncopied, value_length, after, fin₂, made, made_moves}
use Rattle.working.proofs.CopyPending.{copied, copied_later, copied_count}
use Rattle.working.proofs.CopyInv.{copied_inv}

-- a pointer to the heap
pub evacuate_pointer : (n a : ℕ) (r : Run) → evacuate n (4 * a) r ≡ evacuate_at n a r
unfolding evacuate
evacuate_pointer n a r = rw (pointer a, evacuate)

module _ {s : Store} {S : Sound s} {g : Ghost} {r : Run} (I : Inv s S g r) where
  abbrev n : ℕ
  n = s.ctl.n

  abbrev N : ℕ
  N = page_count n s.heap

  abbrev R : ℕ
  R = s.ctl.regions

  -- nothing changes
  unfoldable pub stays : (w v : ℕ) → Rel (Kept s) (pointers g.log) w v → Became s S g r w v r
  stays w v rel = record { ghost = g; inv = I; later = later_refl R g r; rel = rel; count = λ q. refl }

  -- the page of a good pointer is an old one
  pub old_page : (a : ℕ) (x : InHeap n R s.heap a) → g.own x.page ≡ old
  old_page a x = (I.from_space_lem x.page).1 (x.region, x.known, good_page S x)

  module _ (a : ℕ) (x : InHeap n R s.heap a) (reached : Reached (seen s) s.roots (4 * a)) where
    abbrev f : ℕ
    f = x.page

    abbrev j : ℕ
    j = x.region

    abbrev l : ℕ
    l = x.len

    -- it was moved before
    pub again : (b : ℕ) → Memᴰ (to a b) g.log → (evacuate_at n a r ≡ some (4 * b, r)) × Became s S g r (4 * a) (4 * b) r
    again b m = (unfold evacuate_at in (rw ((I.logged.copies m).forward, evacuate_at, forward_head b)), stays (4 * a) (4 * b) (went (in_pointers g.log m)))

    module _ (new : Memᴰ a (olds g.log) → ⊥) where
      abbrev pub value : Uncopied s g
      value =
          record {
            address = a;
            good = x;
            from_old = old_page a x;
            reached = reached;
            new = new;
          }

      -- the value's header and its region, as the heap has them now
      pub header : at r.heap a ≡ at s.heap a
      header =
          simp add-zero at (still I.logged (old_page a x) x.value new 0 zero-le)

      pub region : region_at n r.heap a ≡ j
      unfolding region_at origin
      region =
          let e : at r.heap (f * 2 ^ n + 1) ≡ suc j
          = still_whose I.logged (old_page a x) x.value new ∙ x.whose in
          rw (page_at x.value) (omega arith)

      -- so it moves, and so goes the working with as many pages as it wants
      pub moves : (evacuate_at n a r ≡ move_to n j a l r) × (evacuate_at_for n a r ≡ move_for n j a l r)
      unfolding evacuate_at evacuate_at_for
      moves = go (head_is (head_of (at r.heap a)) l (ap (λ w. length_by (head_of w)) header ∙ x.value.stands.head))
        where
          go : Heads (head_of (at r.heap a)) l → (evacuate_at n a r ≡ move_to n j a l r) × (evacuate_at_for n a r ≡ move_for n j a l r)
          go (a_record e) = (rw (e, evacuate_at, region), rw (e, evacuate_at_for, region))
          go (raw_words e) = (rw (e, evacuate_at, region), rw (e, evacuate_at_for, region))

      over : g.free ≡ [] → end_of r.table j < top_of r.table j + suc l → Overdrawn s (evacuate_at_for n a r).1
      unfolding move_for room_for
      over e b =
          let dry : Dry (length s.heap) r = laid_dry I.laid e S.laid.size in
          let ws : List ℕ = take (suc l) (drop a r.heap) in
          let test : leb (top_of r.table j + length ws) (end_of r.table j) ≡ false = lt-leb (top_of r.table j + length ws) (end_of r.table j) (rw (value_length I value) b) in
          rw (moves.1, test, room_for)
          (forward_dry n j a ws (join_dry n j (any_page n j r) (page_dry n j dry)))

      pub no_room : room n j (suc l) r ≡ none → move_to n j a l r ≡ none
      no_room e = lacks_room n j a l r (ap (λ y. room n j y r) (value_length I value) ∙ e)

      -- there is room
      unfoldable pub copied_became : (r₁ : Run) (K : Roomed n N R g.own g.fin g.pages g.free r j (suc l) r₁)
          → Became s S g r (4 * a) (4 * top_of r₁.table j) (after I value K)
      copied_became r₁ K =
          let M = made I value K in
          record {
            ghost = copied g j a (top_of r₁.table j) K.own₁ (fin₂ I value K) K.pages₁ K.free₁;
            inv = copied_inv I M;
            later = copied_later I M;
            rel = went (Memᴰ.head refl);
            count = copied_count I M;
          }

      now : Evacuates s S g r (4 * a) (evacuate_at n a r) (evacuate_at_for n a r).1
      now = go (room_or I.laid j (suc l) x.known (let lo = steps_le x.value.steps in let hi = x.value.stands.ends in omega arith))
        where
          go : RoomOr n N R g.own g.fin g.pages g.free r j (suc l) → Evacuates s S g r (4 * a) (evacuate_at n a r) (evacuate_at_for n a r).1
          go (wants_page_lem e (f, w)) = wants_page_lem (moves.0 ∙ no_room e) (over f w)
          go (goes_on r₁ e K) = goes_on _ (moves.0 ∙ made_moves I value K e) (copied_became r₁ K)

    pub evacuates_at : Evacuates s S g r (4 * a) (evacuate_at n a r) (evacuate_at_for n a r).1
    evacuates_at = go (member? a (olds g.log))
      where
        go : Dec (Memᴰ a (olds g.log)) → Evacuates s S g r (4 * a) (evacuate_at n a r) (evacuate_at_for n a r).1
        go (yes m) = let u = in_olds g.log m in let t = again u.0 u.1 in goes_on (4 * u.0, r) t.0 t.1
        go (no new) = now new

  -- any word
  pub evacuates : (w : ℕ) → Good n R s.heap s.consts w → Reached (seen s) s.roots w
      → Evacuates s S g r w (evacuate n w r) (evacuate_for n w r).1
  unfolding evacuate evacuate_for
  evacuates w (a_number e) q = goes_on (w, r) (rw (e, evacuate)) (stays w w (num (rw e)))
  evacuates w (to_const a e k) q = goes_on (w, r) (rw (e, evacuate)) (stays w w (stay (record { address = a; word = e; good = k })))
  evacuates w (to_heap a e x) q =
      let p : w ≡ 4 * a = pointer_is w a e in
      let f : evacuate_for n (4 * a) r ≡ evacuate_at_for n a r = rw (pointer a, evacuate_for) in
      rw p (lacks_as (evacuate_pointer n a r) (ap (λ (t : ℕ × Run). t.1) f) (λ t B. B) (evacuates_at a x (rw p at q)))
