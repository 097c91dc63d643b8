-- The working with as many pages as it wants goes the working's way as long as there are free pages; once there are none it takes pages behind
-- the heap, and the free list stays empty. The two differ only in what they do when no page is free.
use Prim.Native.Nat.{ℕ, zero, suc, ◌+◌, ◌*◌}
use mathlib.Core.Path.{◌≡◌, refl, sym, ap, ◌∙◌}
use mathlib.Core.Bool.{Bool, true, false, false≢true}
use mathlib.Core.Option.{Option, none, some, none-ne-some}
use mathlib.Core.List.{List, [], ◌∷◌}
use lib.ListN.{length, take, drop}
use lib.Dec.{leb, eqb}
use Rattle.laws.specs.Lists.{at}
use Rattle.rules.specs.Memory.{end_of, top_of, set_status}
use Rattle.rules.specs.Words.{Word, number, in_heap, in_const, word_of, Head, rec, raw, moved, wrong, head_of}
use Rattle.rules.specs.Pages.{Scan, Run, with_table, with_stack, take_page, room, place}
use Rattle.rules.specs.Collection.{Ended, finished, lacks_page, unfinished, freshen, move_on, move_to, region_at, evacuate_at, evacuate, evacuate_all, scan_fields, scan_value, next_scan, work, work_stack}
use Rattle.working.proofs.Dry.{Dry, StaysDry, aside_dry, set_dry, any_dry, join_dry, forward_dry}
use Rattle.rules.specs.Wanted.{page_or, any_page, fresh_row, freshen_for, room_for, stored, forwarded, move_for, evacuate_at_for, evacuate_for, roots_for, field_set, fields_for, value_for, work_for, stack_for}

-- ---- how a step ends

-- a step e of the working: it wants a page and there is none, of which L tells, or it is done with a, of which D tells
pub data Goes {E A : Type 0} (none_left : E) (done_with : A → E) (e : E) (L : Type 0) (D : A → Type 0) : Type 0 where
  wants_page_lem : e ≡ none_left → L → Goes none_left done_with e L D
  goes_on : (a : A) → e ≡ done_with a → D a → Goes none_left done_with e L D

-- it ends as another that it is
pub goes_as : {E A : Type 0} {none_left : E} {done_with : A → E} {e e' : E} {L L' : Type 0} {D D' : A → Type 0} → e ≡ e' → (L' → L) → ((a : A) → D' a → D a)
    → Goes none_left done_with e' L' D' → Goes none_left done_with e L D
goes_as q f g (wants_page_lem t l) = wants_page_lem (q ∙ t) (f l)
goes_as q f g (goes_on a t d) = goes_on a (q ∙ t) (g a d)

-- a step that is another, which with as many pages as it wants comes to the same
pub lacks_as : {m : ℕ} {E A : Type 0} {none_left : E} {done_with : A → E} {e e' : E} {x x' : Run} {D D' : A → Type 0} → e ≡ e' → x ≡ x' → ((a : A) → D' a → D a)
    → Goes none_left done_with e' (Dry m x') D' → Goes none_left done_with e (Dry m x) D
lacks_as q t = goes_as q (λ d. rw t d)

-- ---- as long as there are pages

-- the working lacks a page, or gives x
pub data Follows {A : Type 0} (o : Option A) (x : A) : Type 0 where
  lacks : o ≡ none → Follows o x
  gives : o ≡ some x → Follows o x

pub follows_some : {A : Type 0} {o : Option A} {x y : A} → Follows o x → o ≡ some y → x ≡ y
follows_some {y = y} (lacks e) q = absurd (none-ne-some y (sym e ∙ q))
follows_some {y = y} (gives e) q = let z : some _ ≡ some y = sym e ∙ q in cc

-- a working from r, and the same with as many pages as it wants, which comes to r': what the first gives, the second gives too, and no page becomes free
abbrev pub Beside : {A : Type 0} → Option A → A → Run → Run → Type 0
Beside o x r r' = Follows o x × StaysDry r r'

-- a working that changes nothing
beside_same : {A : Type 0} {o : Option A} {x : A} {r : Run} → o ≡ some x → Beside o x r r
beside_same e = (gives e, λ m d. d)

-- a working that begins with another lacks a page with it, and goes on from what it gives
beside_then : {A B : Type 0} {o : Option A} {x : A} {p q : Option B} {y : B} {r r₁ r₂ r₃ : Run} → Beside o x r r₁ → (o ≡ none → p ≡ none) → (o ≡ some x → p ≡ q) → StaysDry r₁ r₂
    → Beside q y r₂ r₃ → Beside p y r r₃
beside_then {o = o} {x} {p} {q} {y} s stops goes step t = (go s.0 t.0, λ m d. t.1 m (step m (s.1 m d)))
  where
    go : Follows o x → Follows q y → Follows p y
    go (lacks e) f = lacks (stops e)
    go (gives e) (lacks f) = lacks (goes e ∙ f)
    go (gives e) (gives f) = gives (goes e ∙ f)

pub data Ends (e : Ended) (x : Run) : Type 0 where
  lacks_page_lem : e ≡ lacks_page → Ends e x
  no_fuel : e ≡ unfinished → Ends e x
  done : e ≡ finished x → Ends e x

pub ends_finished : {e : Ended} {x y : Run} → Ends e x → e ≡ finished y → x ≡ y
ends_finished {y = y} (lacks_page_lem e) q = let z : lacks_page ≡ finished y = sym e ∙ q in absurd (false≢true cc)
ends_finished {y = y} (no_fuel e) q = let z : unfinished ≡ finished y = sym e ∙ q in absurd (false≢true cc)
ends_finished {x = x} {y} (done e) q = let z : finished x ≡ finished y = sym e ∙ q in cc

second : {p q : List ℕ × Run} → some p ≡ some q → p.1 ≡ q.1
second {p} {q} e = let z : p ≡ q = cc in ap (λ (x : List ℕ × Run). x.1) z

module _ (n : ℕ) where
  pub page_beside : (j : ℕ) (r : Run) → Beside (take_page n j r) (any_page n j r) r (any_page n j r).1
  unfolding any_page
  page_beside j r = (go (take_page n j r) refl, any_dry n j r)
    where
      go : (o : Option (ℕ × Run)) → take_page n j r ≡ o → Follows (take_page n j r) (any_page n j r)
      go none e = lacks e
      go (some p) e = gives (e ∙ ap some (sym (ap (page_or n j r) e)))

  pub fresh_beside : (m j : ℕ) (r : Run) → Beside (freshen n m j r) (freshen_for n m j r) r (freshen_for n m j r)
  unfolding freshen freshen_for
  fresh_beside zero j r = beside_same refl
  fresh_beside (suc m) j r =
      beside_then (page_beside j r) (λ e. rw (e, freshen)) (λ e. rw (e, freshen)) (λ x d. aside_dry d) (fresh_beside m (suc j) (fresh_row n j (any_page n j r)))

  room_beside : (j m : ℕ) (r : Run) → Beside (room n j m r) (room_for n j m r) r (room_for n j m r)
  unfolding room room_for
  room_beside j m r = go (leb (top_of r.table j + m) (end_of r.table j)) refl
    where
      go : (b : Bool) → leb (top_of r.table j + m) (end_of r.table j) ≡ b → Beside (room n j m r) (room_for n j m r) r (room_for n j m r)
      go true e = rw (e, room, room_for) (beside_same refl)
      go false e = rw (e, room, room_for) (beside_then (page_beside j r) (λ q. rw q) (λ q. rw q) (λ x d. join_dry n j (any_page n j r) d) (beside_same refl))

  -- a value moves when there is room for its words
  pub lacks_room : (j a l : ℕ) (r : Run) → room n j (length (take (suc l) (drop a r.heap))) r ≡ none → move_to n j a l r ≡ none
  unfolding move_to place move_on
  lacks_room j a l r e = let q : place n j (take (suc l) (drop a r.heap)) r ≡ none = rw (e, place) in ap (move_on n j a) q

  pub has_room : (j a l : ℕ) (r r₁ : Run) → room n j (length (take (suc l) (drop a r.heap))) r ≡ some r₁ → move_to n j a l r ≡ some (forwarded n j a (stored n j (take (suc l) (drop a r.heap)) r₁))
  unfolding move_to place move_on
  has_room j a l r r₁ e = let q : place n j (take (suc l) (drop a r.heap)) r ≡ some (stored n j (take (suc l) (drop a r.heap)) r₁) = rw (e, place) in ap (move_on n j a) q

  move_beside : (j a l : ℕ) (r : Run) → Beside (move_to n j a l r) (move_for n j a l r) r (move_for n j a l r).1
  unfolding move_for
  move_beside j a l r =
      beside_then (room_beside j (length (take (suc l) (drop a r.heap))) r) (lacks_room j a l r) (has_room j a l r _) (λ x d. forward_dry n j a (take (suc l) (drop a r.heap)) d) (beside_same refl)

  evacuate_at_beside : (a : ℕ) (r : Run) → Beside (evacuate_at n a r) (evacuate_at_for n a r) r (evacuate_at_for n a r).1
  unfolding evacuate_at evacuate_at_for
  evacuate_at_beside a r = go (head_of (at r.heap a)) refl
    where
      go : (h : Head) → head_of (at r.heap a) ≡ h → Beside (evacuate_at n a r) (evacuate_at_for n a r) r (evacuate_at_for n a r).1
      go (rec l) e = rw (e, evacuate_at, evacuate_at_for) (move_beside (region_at n r.heap a) a l r)
      go (raw l) e = rw (e, evacuate_at, evacuate_at_for) (move_beside (region_at n r.heap a) a l r)
      go (moved b) e = rw (e, evacuate_at, evacuate_at_for) (beside_same refl)
      go wrong e = rw (e, evacuate_at, evacuate_at_for) (beside_same refl)

  pub evacuate_beside : (w : ℕ) (r : Run) → Beside (evacuate n w r) (evacuate_for n w r) r (evacuate_for n w r).1
  unfolding evacuate evacuate_for
  evacuate_beside w r = go (word_of w) refl
    where
      go : (x : Word) → word_of w ≡ x → Beside (evacuate n w r) (evacuate_for n w r) r (evacuate_for n w r).1
      go number e = rw (e, evacuate, evacuate_for) (beside_same refl)
      go (in_heap a) e = rw (e, evacuate, evacuate_for) (evacuate_at_beside a r)
      go (in_const a) e = rw (e, evacuate, evacuate_for) (beside_same refl)

  pub fields_beside : (m x : ℕ) (r : Run) → Beside (scan_fields n m x r) (fields_for n m x r) r (fields_for n m x r)
  unfolding scan_fields fields_for
  fields_beside zero x r = beside_same refl
  fields_beside (suc m) x r =
      beside_then (evacuate_beside (at r.heap x) r) (λ e. rw (e, scan_fields)) (λ e. rw (e, scan_fields)) (λ k d. set_dry x (evacuate_for n (at r.heap x) r).0 d)
      (fields_beside m (suc x) (field_set n x (evacuate_for n (at r.heap x) r)))

  pub value_beside : (s : ℕ) (r : Run) → Beside (scan_value n s r) (value_for n s r) r (value_for n s r)
  unfolding scan_value value_for
  value_beside s r = go (head_of (at r.heap s)) refl
    where
      go : (h : Head) → head_of (at r.heap s) ≡ h → Beside (scan_value n s r) (value_for n s r) r (value_for n s r)
      go (rec l) e = rw (e, scan_value, value_for) (fields_beside l (suc s) r)
      go (raw l) e = rw (e, scan_value, value_for) (beside_same refl)
      go (moved b) e = rw (e, scan_value, value_for) (beside_same refl)
      go wrong e = rw (e, scan_value, value_for) (beside_same refl)

  pub roots_follow : {vs : List ℕ} {r' : Run} (ws : List ℕ) (r : Run) → evacuate_all n ws r ≡ some (vs, r') → roots_for n ws r ≡ r'
  unfolding evacuate_all roots_for
  roots_follow [] r q = second q
  roots_follow {vs} {r'} (w ∷ ws) r q = go (evacuate_beside w r).0 (evacuate_all n ws (evacuate_for n w r).1) refl (λ us t. roots_follow ws (evacuate_for n w r).1 t)
    where
      go : Follows (evacuate n w r) (evacuate_for n w r) → (o : Option (List ℕ × Run)) → evacuate_all n ws (evacuate_for n w r).1 ≡ o
          → ((us : List ℕ) → evacuate_all n ws (evacuate_for n w r).1 ≡ some (us, r') → roots_for n ws (evacuate_for n w r).1 ≡ r') → roots_for n (w ∷ ws) r ≡ r'
      go (lacks e) o t rest = absurd (none-ne-some (vs, r') (sym (rw (e, evacuate_all)) ∙ q))
      go (gives e) none t rest = absurd (none-ne-some (vs, r') (sym (rw (e, evacuate_all, t)) ∙ q))
      go (gives e) (some p) t rest =
          let z : ◌≡◌ {A = Option (List ℕ × Run)} (some ((evacuate_for n w r).0 ∷ p.0, p.1)) (some (vs, r')) = sym (rw (e, evacuate_all, t)) ∙ q in
          rest p.0 (t ∙ ap (λ x. some (p.0, x)) (second z))

  pub roots_dry : {m : ℕ} {r : Run} (ws : List ℕ) → Dry m r → Dry m (roots_for n ws r)
  unfolding roots_for
  roots_dry [] d = d
  roots_dry {m} {r} (w ∷ ws) d = roots_dry {r = (evacuate_for n w r).1} ws ((evacuate_beside w r).1 m d)

  pub work_beside : (f j s : ℕ) (r : Run) → Ends (work n f j s r) (work_for n f j s r) × StaysDry r (work_for n f j s r)
  unfolding work work_for
  work_beside zero j s r = (no_fuel refl, λ m d. d)
  work_beside (suc f) j s r = go (eqb s (top_of r.table j)) refl (work_beside f)
    where
      Rest : Type 0
      Rest = (i a : ℕ) (q : Run) → Ends (work n f i a q) (work_for n f i a q) × StaysDry q (work_for n f i a q)

      Goal : Type 0
      Goal = Ends (work n (suc f) j s r) (work_for n (suc f) j s r) × StaysDry r (work_for n (suc f) j s r)

      scan : eqb s (top_of r.table j) ≡ false → Rest → Beside (scan_value n s r) (value_for n s r) r (value_for n s r) → Goal
      scan e rest (lacks q, dry) = (lacks_page_lem (rw (e, work, q)), λ m d. rw (e, work_for) ((rest j (next_scan n j s (value_for n s r)) (value_for n s r)).1 m (dry m d)))
      scan e rest (gives q, dry) =
          let t = rest j (next_scan n j s (value_for n s r)) (value_for n s r) in
          rw (e, work, work_for, q) (t.0, λ m d. t.1 m (dry m d))

      pop : eqb s (top_of r.table j) ≡ true → Rest → (st : List Scan) → r.stack ≡ st → Goal
      pop e rest [] q = rw (e, work, work_for, q) (done refl, λ m d. aside_dry d)
      pop e rest (t ∷ ts) q =
          let u = rest t.region t.address (with_stack (with_table r (set_status r.table j 0)) ts) in
          rw (e, work, work_for, q) (u.0, λ m d. u.1 m (aside_dry d))

      go : (b : Bool) → eqb s (top_of r.table j) ≡ b → Rest → Goal
      go false e rest = scan e rest (value_beside s r)
      go true e rest = pop e rest r.stack refl

  pub stack_beside : (r : Run) → Ends (work_stack n r) (stack_for n r) × StaysDry r (stack_for n r)
  unfolding work_stack stack_for
  stack_beside r = go r.stack refl
    where
      go : (st : List Scan) → r.stack ≡ st → Ends (work_stack n r) (stack_for n r) × StaysDry r (stack_for n r)
      go [] e = rw (e, work_stack, stack_for) (done refl, λ m d. aside_dry d)
      go (t ∷ ts) e =
          let u = work_beside (2 * length r.heap) t.region t.address (with_stack r ts) in
          rw (e, work_stack, stack_for) (u.0, λ m d. u.1 m (aside_dry d))
