-- A value moved at work and in the plain run: a forward is met by both, or both lack a page, or both copy the same words to the same place and leave
-- the forward. The value stands in an old page and its copy in a new one, so the two ranges lie apart, and no origin of a taken page is in either.
use Prim.Native.Nat.{ℕ, suc, ◌+◌, ◌-◌, ◌*◌, ◌/◌, ◌%◌, ◌^◌, ◌≤◌, ◌<◌}
use native.Mathlib.Omega.{arith}
use native.Mathlib.Decide.{ℕ_discrete, dec_lt}
use mathlib.Core.Path.{◌≡◌, sym, ap, ◌∙◌}
use mathlib.Core.Logic.{◌⊎◌, inl, inr}
use mathlib.Core.Bool.{true, false, ◌||◌}
use mathlib.Core.Option.{none, some}
use mathlib.Core.List.{List, Memᴰ}
use lib.ListN.{length, take, drop, set, length-set}
use lib.Dec.{leb}
use borrow.Author.Tests.{le-leb, eq-eqb, ne_eqb}
use Rattle.laws.specs.Lists.{at, put}
use Rattle.laws.specs.Each.{after}
use Rattle.laws.proofs.Facts.{and_of, or_left, or_right}
use Rattle.laws.proofs.Lists.{apart as pages_apart, put_elsewhere, part_same, length_put, at_put_below, at_put_in, at_put_above}
use Rattle.rules.specs.Memory.{Store, page_count, origin, top_of, status_of, set_top}
use Rattle.rules.specs.Pages.{Run, with_heap, store}
use Rattle.rules.specs.Pages as Q
use Rattle.rules.specs.Collection.{region_at, evacuate_at, wake}
use Rattle.facts.proofs.Inside.{page_at}
use Rattle.rules.proofs.Headers.{header_odd}
use Rattle.rules.specs.Seen.{seen, Reached}
use Rattle.rules.proofs.Steps.{steps_le}
use Rattle.facts.proofs.Laid.{old, old≢spare, old≢beyond, mine≢beyond, page_in, old_mine_apart}
use Rattle.facts.proofs.Copied.{to, went}
use Rattle.facts.proofs.Sound.{InHeap, Sound}
use Rattle.working.proofs.Placed.{Roomed}
use Rattle.working.proofs.Wanting.{wants_page_lem, goes_on}
use Rattle.working.proofs.Invariant.{Ghost, Inv, Became}
use Rattle.working.proofs.Evacuating.{RoomOr, room_or}
use Rattle.working.proofs.Evacuation as E
use Rattle.working.proofs.Evacuation.{value}
use Rattle.working.proofs.Copying.{Uncopied, Made, fin₂, made, made_moves}
use Rattle.working.proofs.Copying as C
use Rattle.working.proofs.CopyPending as G
use Rattle.working.proofs.Waking.{Stacked, slept, was_awake}
use Rattle.laws.proofs.Once.{member?}
use Rattle.working.proofs.Log.{olds, in_olds, in_pointers}
use Rattle.motion.specs.Leaves as W
use Rattle.motion.specs.Leaves.{Desk, desk, low, region_on, apart, copied, forwarded}
use Rattle.motion.specs.Run as X
use Rattle.motion.specs.Run.{room, move, move_of, move_on}
use Rattle.agreement.proofs.Matching.{Alike, Matching}
use Rattle.agreement.proofs.Frames.{heap_on, word_on, row_on, top_same, old_plain}
use Rattle.agreement.proofs.Stuck.{stuck_moving}
use Rattle.agreement.proofs.Together.{Together, both_lack, both_go}
use Rattle.agreement.proofs.Took.{low_is, heap_small, start_is}
use Rattle.agreement.proofs.Rooms.{no_room, Room, rooms}
use Rattle.agreement.proofs.Wakes.{stack_few, wakes}

-- the same words put into two lists
put_alike : (g h : List ℕ) (b : ℕ) (ws : List ℕ) (x : ℕ) → b + length ws ≤ length g → b + length ws ≤ length h → at g x ≡ at h x → at (put g b ws) x ≡ at (put h b ws) x
put_alike g h b ws x p q e = go (dec_lt x b) (dec_lt x (b + length ws))
  where
    go : Dec (x < b) → Dec (x < b + length ws) → at (put g b ws) x ≡ at (put h b ws) x
    go (yes t) u = at_put_below g b ws x p t ∙ e ∙ sym (at_put_below h b ws x q t)
    go (no t) (yes u) =
        let i : ℕ = x - b in
        let z : b + i ≡ x = omega arith in
        let c : i < length ws = omega arith in
        ap (at (put g b ws)) (sym z) ∙ at_put_in g b ws i p c ∙ sym (at_put_in h b ws i q c) ∙ ap (at (put h b ws)) z
    go (no t) (no u) = at_put_above g b ws x p (omega arith) ∙ e ∙ sym (at_put_above h b ws x q (omega arith))

module _ {s : Store} {S : Sound s} {g : Ghost} {r : Run} {d : Desk} (I : Inv s S g r) (M : Matching s S g r d) where
  abbrev n : ℕ
  n = s.ctl.n

  abbrev N : ℕ
  N = page_count n s.heap

  abbrev R : ℕ
  R = s.ctl.regions

  -- the header of a moved value is its forward
  pub forward_here : {a b : ℕ} → Memᴰ (to a b) g.log → at d.heap a ≡ 4 * b
  forward_here {a} m =
      let C = I.logged.copies m in
      let lo = steps_le C.was.steps in
      let hi = C.was.stands.ends in
      M.words a (old_plain S g.own C.from C.from_old (omega arith) (omega arith)) ∙ C.forward

  -- how a value's moving ends
  abbrev pub Moves : ℕ → Type 0
  Moves a =
      Together s S none some false true (λ x d'. (B : Became s S g r (4 * a) x.0 x.1) × Matching s S B.ghost x.1 d') (evacuate_at n a r) (move n a d)

  module _ (a : ℕ) (x : InHeap n R s.heap a) (reached : Reached (seen s) s.roots (4 * a)) where
    abbrev f : ℕ
    f = x.page

    abbrev j : ℕ
    j = x.region

    abbrev l : ℕ
    l = x.len

    own_f : g.own f ≡ old
    own_f = E.old_page I a x

    f_in : f * 2 ^ n + 2 ^ n ≤ length r.heap
    f_in = page_in I.laid f (λ q. old≢beyond own_f q)

    f_known : f < N
    f_known = I.laid.known f (λ q. old≢beyond own_f q)

    in_a : (y : ℕ) → f * 2 ^ n ≤ y → y < f * 2 ^ n + 2 ^ n → at d.heap y ≡ at r.heap y
    in_a y p q = M.words y (old_plain S g.own f own_f p q)

    head_here : at d.heap a ≡ at r.heap a
    head_here = let p = steps_le x.value.steps in let q = x.value.stands.ends in in_a a (omega arith) (omega arith)

    region_here : region_on n a d.heap ≡ region_at n r.heap a
    unfolding region_at origin
    region_here =
        let p = steps_le x.value.steps in
        let q = x.value.stands.ends in
        rw (page_at x.value, start_is S f f_known, in_a (f * 2 ^ n + 1) (omega arith) (omega arith))

    -- it was moved before
    again : (b : ℕ) → Memᴰ (to a b) g.log → Moves a
    unfolding move_of E.stays
    again b m =
        let e = forward_here m in
        let even : (4 * b) % 2 ≡ 0 = omega arith in
        both_go (4 * b, r) (E.again I a x reached b m).0 d (rw (e, eq-eqb ((4 * b) % 2) 0 even)) (E.stays I (4 * a) (4 * b) (went (in_pointers g.log m)), M)

    module _ (new : Memᴰ a (olds g.log) → ⊥) where
      abbrev u : Uncopied s g
      u = value I a x reached new

      head_is : at d.heap a ≡ at s.heap a
      head_is = head_here ∙ E.header I a x reached new

      moves_is : move n a d ≡ move_on a (suc l) j (room n j (suc l) d)
      unfolding move_of
      moves_is =
          let w : ((at d.heap a) % 2 ≡ 1) × ((at d.heap a) / 8 ≡ l) = rw head_is (header_odd (at s.heap a) l x.value.stands.head) in
          let o = w.0 in
          let e : (at d.heap a) / 8 + 1 ≡ suc l = ap (λ y. y + 1) w.1 ∙ omega arith in
          let q : region_on n a d.heap ≡ j = region_here ∙ E.region I a x reached new in
          rw (ne_eqb ((at d.heap a) % 2) 0 (omega arith), e, q)

      -- ---- there is room
      module _ (r₁ : Run) (K : Roomed n N R g.own g.fin g.pages g.free r j (suc l) r₁) (q : Q.room n j (suc l) r ≡ some r₁) where
        abbrev Z : Room M I.laid j (suc l) x.known r₁ K
        Z = rooms M I.laid j (suc l) x.known r₁ K

        abbrev d₁ : Desk
        d₁ = Z.desk

        abbrev M₁ : Alike s S K.own₁ K.free₁ r₁ d₁
        M₁ = Z.matches

        abbrev b : ℕ
        b = top_of r₁.table j

        abbrev p : ℕ
        p = (K.laid.mine_top j x.known).page

        abbrev ws : List ℕ
        ws = take (suc l) (drop a r.heap)

        mk : Made s g r u b p K.own₁ (fin₂ I u K) K.pages₁ K.free₁ (C.after I u K)
        mk = made I u K

        same_size : length r₁.heap ≡ length r.heap
        same_size = K.laid.size ∙ sym I.laid.size

        own₁_f : K.own₁ f ≡ old
        own₁_f = (K.old_kept f).0 own_f

        clear : (a + suc l ≤ b) ⊎ (b + suc l ≤ a)
        clear = go (pages_apart (2 ^ n) f p (old_mine_apart K.own₁ own₁_f mk.moved.b_mine))
          where
            go : (f * 2 ^ n + 2 ^ n ≤ p * 2 ^ n) ⊎ (p * 2 ^ n + 2 ^ n ≤ f * 2 ^ n) → (a + suc l ≤ b) ⊎ (b + suc l ≤ a)
            go (inl t) = let y = x.value.stands.ends in let z = steps_le mk.moved.now.steps in inl (omega arith)
            go (inr t) = let y = steps_le x.value.steps in let z = mk.moved.now.stands.ends in inr (omega arith)

        small : length r.heap ≤ 65536
        small = let z = I.laid.size in let y = heap_small S in omega arith

        -- the value and its copy lie in the heap
        value_in : a + suc l ≤ length d₁.heap
        value_in = let z = M₁.heap_length in let y = same_size in let t = f_in in let v = x.value.stands.ends in omega arith

        copy_in : b + suc l ≤ length r₁.heap
        copy_in = let w = page_in K.laid p (mine≢beyond mk.moved.b_mine) in let o = mk.moved.now.stands.ends in omega arith

        apart_is : apart (suc l) a b (length d₁.heap) ≡ true
        apart_is =
            and_of (and_of (le-leb (a + suc l) (length d₁.heap) value_in) (le-leb (b + suc l) (length d₁.heap) (let z = M₁.heap_length in let c = copy_in in omega arith))) (go clear)
          where
            go : (a + suc l ≤ b) ⊎ (b + suc l ≤ a) → (leb (a + suc l) b || leb (b + suc l) a) ≡ true
            go (inl t) = or_left _ _ (le-leb (a + suc l) b t)
            go (inr t) = or_right (leb (a + suc l) b) _ (le-leb (b + suc l) a t)

        -- the words to copy are the same
        part : take (suc l) (drop a d₁.heap) ≡ ws
        part =
            let z = M₁.heap_length in
            let y = same_size in
            let t = f_in in
            let v = x.value.stands.ends in
            let w = steps_le x.value.steps in
            part_same d₁.heap r.heap a (suc l) (omega arith)
            (λ i lo hi.
            M₁.words i (old_plain S K.own₁ f own₁_f (omega arith) (omega arith))
            ∙ K.words f i (λ c. old≢spare own_f c) (λ c. old≢beyond own_f c) (omega arith) (omega arith))
            (omega arith)

        copied_is : copied (suc l) a b d₁.heap ≡ put d₁.heap b ws
        unfolding copied
        copied_is = rw (apart_is, part)

        fits : b + length ws ≤ length d₁.heap
        fits = let z = M₁.heap_length in let y = C.value_length I u in let c = copy_in in omega arith

        abbrev r₂ : Run
        r₂ = with_heap r₁ (put r₁.heap b ws)

        abbrev d₂ : Desk
        d₂ = desk (put d₁.heap b ws) d₁.notes

        M₂ : Alike s S K.own₁ K.free₁ r₂ d₂
        M₂ =
            let z = M₁.heap_length in
            let f = fits in
            heap_on M₁ (put r₁.heap b ws) (put d₁.heap b ws)
            (length_put d₁.heap b ws fits ∙ z ∙ sym (length_put r₁.heap b ws (omega arith)))
            (λ i pl. put_alike d₁.heap r₁.heap b ws i fits (omega arith) (M₁.words i pl))
            (λ k m. kept k)
          where
            kept : (k : ℕ) → at (put d₁.heap b ws) (k * 2 ^ n + 1) ≡ at d₁.heap (k * 2 ^ n + 1)
            kept k = go (ℕ_discrete k p)
              where
                go : Dec (k ≡ p) → at (put d₁.heap b ws) (k * 2 ^ n + 1) ≡ at d₁.heap (k * 2 ^ n + 1)
                go (yes e) =
                    let c = steps_le mk.moved.now.steps in
                    let t : k * 2 ^ n ≡ p * 2 ^ n = ap (λ y. y * 2 ^ n) e in
                    at_put_below d₁.heap b ws (k * 2 ^ n + 1) fits (omega arith)
                go (no ne) =
                    let c = steps_le mk.moved.now.steps in
                    let d = mk.moved.now.stands.ends in
                    let y = C.value_length I u in
                    let g = I.laid.big in
                    put_elsewhere (2 ^ n) d₁.heap p b ws k (k * 2 ^ n + 1) fits (omega arith) (omega arith) ne (omega arith) (omega arith)

        wide : 4 * R ≤ length r₁.table
        wide = K.laid.rows

        abbrev d₃ : Desk
        d₃ = desk d₂.heap (set_top d₁.notes j (b + length ws))

        M₃ : Alike s S K.own₁ K.free₁ (store n j ws r₁) d₃
        unfolding store
        M₃ = let w = wide in let k = x.known in row_on M₂ (4 * j + 2) (b + length ws) (omega arith) (omega arith)

        stored_wide : 4 * R ≤ length (store n j ws r₁).table
        unfolding store
        stored_wide = rw (length-set r₁.table (4 * j + 2) (b + length ws)) wide

        abbrev end : Ghost
        end = G.copied g j a b K.own₁ (fin₂ I u K) K.pages₁ K.free₁

        abbrev r' : Run
        r' = C.after I u K

        B : Became s S g r (4 * a) (4 * b) r'
        B = E.copied_became I a x reached new r₁ K

        -- the region is woken: there is room on the stack
        deep : status_of (store n j ws r₁).table j ≡ 0 → length (store n j ws r₁).stack < 64
        unfolding store B E.copied_became
        deep e = go mk.how
          where
            go : Stacked j b r r' → length r₁.stack < 64
            go (slept f t) =
                let c = stack_few B.inv in
                let z : length r'.stack ≡ suc (length r.stack) = ap length t in
                let y : length r₁.stack ≡ length r.stack = ap length K.stack_kept in
                omega arith
            go (was_awake f t) = absurd (f (sym (C.same_status I u K) ∙ e))

        abbrev d₄ : Desk
        d₄ = desk d₂.heap (W.wake j b d₃.notes)

        abbrev r₄ : Run
        r₄ = wake n j b (store n j ws r₁)

        M₄ : Alike s S K.own₁ K.free₁ r₄ d₄
        M₄ = wakes M₃ j b x.known stored_wide deep

        a_in : a < length d₄.heap
        a_in = let v = value_in in rw (length_put d₁.heap b ws fits) (omega arith)

        abbrev d₅ : Desk
        d₅ = desk (set d₄.heap a (4 * b)) d₄.notes

        M₅ : Matching s S end r' d₅
        M₅ =
            let z = M₄.heap_length in
            let y = a_in in
            let lo = steps_le x.value.steps in
            let hi = x.value.stands.ends in
            word_on M₄ a (4 * b) (omega arith) (old_plain S K.own₁ f own₁_f (omega arith) (omega arith))

        goes : move n a d ≡ after true d₅
        unfolding move_on X.move_to forwarded
        goes =
            let w = copy_in in
            let y = same_size in
            let c = small in
            let t : top_of d₁.notes j ≡ b = top_same M₁ j x.known in
            let e : low (b + suc l) ≡ b + length ws = low_is (b + suc l) (omega arith) ∙ ap (λ i. b + i) (sym (C.value_length I u)) in
            moves_is ∙ rw (Z.goes, t, copied_is, le-leb b 65536 (omega arith), e)

        copies : Moves a
        unfolding B E.copied_became
        copies = both_go (4 * b, r') ((E.moves I a x reached new).0 ∙ made_moves I u K q) d₅ goes (B, M₅)

      stops : room n j (suc l) d ≡ after false d → move_on a (suc l) j (room n j (suc l) d) ≡ after false d
      unfolding move_on
      stops e = rw e

      now : Moves a
      now = go (room_or I.laid j (suc l) x.known (let lo = steps_le x.value.steps in let hi = x.value.stands.ends in omega arith))
        where
          go : RoomOr n N R g.own g.fin g.pages g.free r j (suc l) → Moves a
          go (wants_page_lem e (f, w)) =
              both_lack ((E.moves I a x reached new).0 ∙ E.no_room I a x reached new e) d
              (moves_is ∙ stops (no_room M I.laid j (suc l) x.known f w)) (stuck_moving I M f)
          go (goes_on r₁ e K) = copies r₁ K e

    pub moves : Moves a
    moves = go (member? a (olds g.log))
      where
        go : Dec (Memᴰ a (olds g.log)) → Moves a
        go (yes m) = let t = in_olds g.log m in again t.0 t.1
        go (no new) = now new
