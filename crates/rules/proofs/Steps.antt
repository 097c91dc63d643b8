-- Stepping by headers, as a relation on addresses, and what it has to do with the list of values: at each address either a value stands and the
-- list goes on with it, or none does and the list ends.
use Prim.Native.Nat.{ℕ, zero, suc, ◌+◌, ◌-◌, ◌*◌, ◌^◌, ◌≤◌, ◌<◌, zero-le, suc-le-suc}
use native.Mathlib.Nat.{le_refl, add-zero, add-suc, suc-add}
use native.Mathlib.Omega.{arith}
use mathlib.Core.Path.{◌≡◌, refl, sym, ap, ◌∙◌}
use mathlib.Core.Logic.{◌≢◌, ◌⊎◌, inl, inr}
use mathlib.Core.Bool.{Bool, true, false, false≢true}
use mathlib.Core.Option.{Option, none, some, none-ne-some}
use mathlib.Core.List.{List, [], ◌∷◌}
use lib.ListN.{length, take}
use lib.Seq.{slice, length-slice, get_or-take, get_or-drop, length-take-le}
use lib.Dec.{eqb}
use borrow.Author.Tests.{eqb-true, eq-eqb}
use Rattle.rules.proofs.Headers.{fit_some, fit_is}
use Rattle.rules.specs.Words.{rec, head_of, length_by, fit, fits, is_record, Val, vals, vals_in, used_of, stands_at}
use Rattle.laws.specs.Lists.{at}

-- a header of l words stands at a, and the value ends by hi
pub record Stands (h : List ℕ) (hi a l : ℕ) : Type 0 where
  pub head : length_by (head_of (at h a)) ≡ some l
  pub ends : a + suc l ≤ hi

-- a record is as long as its header says
pub record_length : {h : List ℕ} {hi a l m : ℕ} → Stands h hi a l → head_of (at h a) ≡ rec m → l ≡ m
record_length {h} {hi} {a} {l} {m} st e = let p = st.head in let q : length_by (head_of (at h a)) ≡ some m = ap length_by e in cc

-- stepping from a comes to b; each value passed ends by hi
pub data Steps (h : List ℕ) (hi : ℕ) : ℕ → ℕ → Type 0 where
  here : {a : ℕ} → Steps h hi a a
  over : {a b l : ℕ} → Stands h hi a l → Steps h hi (a + suc l) b → Steps h hi a b

-- the same in page k, of 2 ^ n words: from its third word on, and each value ends inside the page
abbrev pub PageStands : ℕ → List ℕ → ℕ → ℕ → ℕ → Type 0
PageStands n h k a l = Stands h (k * 2 ^ n + 2 ^ n) a l

abbrev pub PageSteps : ℕ → List ℕ → ℕ → ℕ → Type 0
PageSteps n h k a = Steps h (k * 2 ^ n + 2 ^ n) (k * 2 ^ n + 2) a

-- stepping through page k comes to a, and a value of l words stands there
pub record OnPage (n : ℕ) (h : List ℕ) (k a l : ℕ) : Type 0 where
  pub steps : PageSteps n h k a
  pub stands : PageStands n h k a l

pub steps_le : {h : List ℕ} {hi a b : ℕ} → Steps h hi a b → a ≤ b
steps_le (here {a}) = le_refl a
steps_le (over {a} {l = l} st r) = let k = steps_le r in omega arith

pub steps_then : {h : List ℕ} {hi a b c : ℕ} → Steps h hi a b → Steps h hi b c → Steps h hi a c
steps_then here q = q
steps_then (over st r) q = over st (steps_then r q)

-- only the words passed matter
pub stands_same : {g h : List ℕ} {hi a l : ℕ} → at g a ≡ at h a → Stands g hi a l → Stands h hi a l
stands_same {hi = hi} {a} {l} e st = record { head = ap (λ w. length_by (head_of w)) (sym e) ∙ st.head; ends = st.ends }

pub steps_same : {g h : List ℕ} {hi a b : ℕ} → ((x : ℕ) → a ≤ x → x < b → at g x ≡ at h x) → Steps g hi a b → Steps h hi a b
steps_same agree here = here
steps_same agree (over {a} {b} {l} st r) =
    let k = steps_le r in
    over (stands_same (agree a (le_refl a) (omega arith)) st) (steps_same (λ x lo hi. agree x (omega arith) hi) r)

pub on_same : {n : ℕ} {g h : List ℕ} {k a l : ℕ} → ((x : ℕ) → k * 2 ^ n + 2 ≤ x → x ≤ a → at g x ≡ at h x) → OnPage n g k a l → OnPage n h k a l
on_same {a = a} agree v =
    record {
      steps = steps_same (λ x lo hi. agree x lo (omega arith)) v.steps;
      stands = stands_same (agree a (steps_le v.steps) (le_refl a)) v.stands;
    }

pub same_length : {h : List ℕ} {hi a l m : ℕ} → Stands h hi a l → Stands h hi a m → l ≡ m
same_length p q = let e = p.head in let e' = q.head in cc

-- two values of a page are one, or lie apart
pub apart : {h : List ℕ} {hi a b c l : ℕ} → Steps h hi a b → Stands h hi b l → Steps h hi a c → (c ≤ b) ⊎ (b + suc l ≤ c)
apart {b = b} here st here = inl (le_refl b)
apart here st (over st' r) = let e = same_length st st' in let k = steps_le r in inr (omega arith)
apart (over st' r) st here = let k = steps_le r in inl (omega arith)
apart {h} {hi} (over {a} st' r) st (over {b = c} st'' r') = apart r st (rw (same_length st'' st') at r')

-- inside a value no header stands
pub not_header : {h : List ℕ} {hi a b c l x : ℕ} → Steps h hi a b → Stands h hi b l → b < x → x < b + suc l → Steps h hi a c → c ≢ x
not_header {b = b} {c} {l} at_b st lo up r e = go (apart at_b st r)
  where
    go : (c ≤ b) ⊎ (b + suc l ≤ c) → ⊥
    go (inl q) = omega arith
    go (inr q) = omega arith

-- a word inside a value may change: every address that stepping comes to is still come to
module _ (g h : List ℕ) (hi a b l x : ℕ) (at_b : Steps g hi a b) (st : Stands g hi b l) (lo : b < x) (up : x < b + suc l)
    (agree : (y : ℕ) → y ≢ x → at g y ≡ at h y) where
  pub steps_inside : {c d : ℕ} → Steps g hi a c → Steps g hi c d → Steps h hi c d
  steps_inside r here = here
  steps_inside r (over st' t) = over (stands_same (agree _ (not_header at_b st lo up r)) st') (steps_inside (steps_then r (over st' here)) t)

-- a header is not 0
zero_head : length_by (head_of 0) ≡ none
unfolding head_of
zero_head = refl

pub no_zero : {h : List ℕ} {hi a l : ℕ} → Stands h hi a l → at h a ≢ 0
no_zero {l = l} st e = none-ne-some l (sym (ap (λ w. length_by (head_of w)) e ∙ zero_head) ∙ st.head)

pub steps_at : {h : List ℕ} {hi a b a' b' : ℕ} → a ≡ a' → b ≡ b' → Steps h hi a b → Steps h hi a' b'
steps_at p q t = rw (← p, ← q) t

pub steps_end : {h : List ℕ} {hi a b : ℕ} → Steps h hi a b → a ≤ hi → b ≤ hi
steps_end here p = p
steps_end (over st r) p = steps_end r st.ends

-- ---- words that stand in a heap

-- the words ws stand in h from address a on
pub record Holds (h : List ℕ) (a : ℕ) (ws : List ℕ) : Type 0 where
  pub word : (i : ℕ) → i < length ws → at h (a + i) ≡ at ws i

holds_tail : {h : List ℕ} {a w : ℕ} {ws : List ℕ} → Holds h a (w ∷ ws) → Holds h (suc a) ws
holds_tail agree = record { word = λ i q. rw suc-add (rw (← add-suc) (agree.word (suc i) (suc-le-suc q))) }

holds_head : {h : List ℕ} {a w : ℕ} {ws : List ℕ} → Holds h a (w ∷ ws) → at h a ≡ w
holds_head agree = rw add-zero at (agree.word 0 (suc-le-suc zero-le))

holds_take : {h : List ℕ} {a : ℕ} {ws : List ℕ} (l : ℕ) → l ≤ length ws → Holds h a ws → Holds h a (take l ws)
holds_take {ws = ws} l le agree =
    let len : length (take l ws) ≡ l = length-take-le l ws le in
    record { word = λ i q. agree.word i (omega arith) ∙ sym (get_or-take l ws i 0 (omega arith)) }

-- a list stands in itself
pub holds_all : (ws : List ℕ) → Holds ws 0 ws
holds_all ws = record { word = λ i q. ap (at ws) (omega arith) }

-- ---- the list of values

-- v is the value of l words that stands at a
pub record IsValue (h : List ℕ) (hi a l : ℕ) (v : Val) : Type 0 where
  pub stands : Stands h hi a l
  pub place : v.at ≡ a
  pub kind : v.is_rec ≡ is_record (at h a)
  pub size : length v.words ≡ l
  pub holds : Holds h (suc a) v.words

-- the values from a on, one behind the other, until none stands there
pub data Listed (h : List ℕ) (hi : ℕ) : ℕ → List Val → Type 0 where
  listed_none : {a : ℕ} → ((l : ℕ) → Stands h hi a l → ⊥) → Listed h hi a []
  listed_more : {a l : ℕ} {v : Val} {vs : List Val} → IsValue h hi a l v → Listed h hi (a + suc l) vs → Listed h hi a (v ∷ vs)

module _ (h : List ℕ) (hi : ℕ) where
  from_skip : (ws : List ℕ) (a k : ℕ) → Holds h a ws → a + length ws ≡ hi → Listed h hi (a + k) (vals a k ws)
  unfolding vals
  from_skip [] a k agree e = listed_none (λ l (st : Stands h hi (a + k) l). let n = st.ends in omega arith)
  from_skip (w ∷ ws) a (suc k) agree e =
      let q : suc a + k ≡ a + suc k = omega arith in
      rw q at (from_skip ws (suc a) k (holds_tail agree) (omega arith))
  from_skip (w ∷ ws) a zero agree e = rw add-zero (go (fit w (length ws)) refl (λ l. from_skip ws (suc a) l (holds_tail agree) (omega arith)))
    where
      go : (o : Option ℕ) → fit w (length ws) ≡ o → ((l : ℕ) → Listed h hi (suc a + l) (vals (suc a) l ws)) → Listed h hi a (vals a 0 (w ∷ ws))
      go none q rest =
          rw (q, vals)
          (listed_none
          (λ l st. let n = st.ends in none-ne-some l (sym q ∙ fit_is w (length ws) l (ap (λ v. length_by (head_of v)) (sym (holds_head agree)) ∙ st.head) (omega arith))))
      go (some l) q rest =
          let f = fit_some w (length ws) l q in
          let le = f.1 in
          let next : suc a + l ≡ a + suc l = omega arith in
          let v : IsValue h hi a l (record { at = a; is_rec = is_record w; words = take l ws })
          = record {
            stands = record { head = ap (λ v. length_by (head_of v)) (holds_head agree) ∙ f.0; ends = omega arith };
            place = refl;
            kind = ap is_record (sym (holds_head agree));
            size = length-take-le l ws le;
            holds = holds_take l le (holds_tail agree);
          } in
          rw (q, vals) (listed_more v (rw next at (rest l)))

  -- the list of values lists them
  pub vals_listed : (a : ℕ) (ws : List ℕ) → Holds h a ws → a + length ws ≡ hi → Listed h hi a (vals a 0 ws)
  vals_listed a ws agree e = rw add-zero at (from_skip ws a 0 agree e)

  -- stepping goes over them all
  pub listed_steps : {a : ℕ} {vs : List Val} → Listed h hi a vs → Steps h hi a (a + used_of vs)
  unfolding used_of
  listed_steps (listed_none {a} f) = steps_at refl (sym (add-zero a)) here
  listed_steps (listed_more {a} {l} {v} {vs} x t) =
      let s = x.size in
      let e : a + suc l + used_of vs ≡ a + used_of (v ∷ vs) = omega arith in
      over x.stands (steps_at refl e (listed_steps t))

  -- where only zeros follow what was stepped over, it went over them all
  pub listed_used : {a f : ℕ} {vs : List Val} → Steps h hi a f → Listed h hi a vs → ((x : ℕ) → f ≤ x → x < hi → at h x ≡ 0) → a + used_of vs ≡ f
  unfolding used_of
  listed_used (here {a}) (listed_none f) z = add-zero a
  listed_used (here {a}) (listed_more x t) z = let e = x.stands.ends in absurd (no_zero x.stands (z a (le_refl a) (omega arith)))
  listed_used (over st r) (listed_none f) z = absurd (f _ st)
  listed_used (over st r) (listed_more x t) z =
      let s = x.size in
      let m = same_length x.stands st in
      let u = listed_used r (rw m at t) z in
      omega arith

  -- an address that the list has is one that stepping comes to
  pub stands_from : {a : ℕ} {vs : List Val} (b : ℕ) → Listed h hi a vs → stands_at b vs ≡ true → (l : ℕ) × Steps h hi a b × Stands h hi b l
  unfolding stands_at
  stands_from b (listed_none f) q = absurd (false≢true cc)
  stands_from b (listed_more {a} {l} {v} {vs} x t) q = go (eqb b v.at) refl (λ u. stands_from b t u)
    where
      go : (p : Bool) → eqb b v.at ≡ p → (stands_at b vs ≡ true → (m : ℕ) × Steps h hi (a + suc l) b × Stands h hi b m) → (m : ℕ) × Steps h hi a b × Stands h hi b m
      go true e rest = let p : b ≡ a = eqb-true b v.at e ∙ x.place in (l, rw p here, rw p x.stands)
      go false e rest = let r = rest (rw (e, stands_at) at q) in (r.0, over x.stands r.1, r.2)

  -- and the other way round
  pub stands_to : {a b l : ℕ} {vs : List Val} → Steps h hi a b → Listed h hi a vs → Stands h hi b l → stands_at b vs ≡ true
  unfolding stands_at
  stands_to here (listed_none f) st = absurd (f _ st)
  stands_to (here {a}) (listed_more {v = v} x t) st = rw (eq-eqb a v.at (sym x.place), stands_at)
  stands_to (over st' r) (listed_none f) st = absurd (f _ st')
  stands_to {b = b} (over st' r) (listed_more {v = v} {vs} x t) st = go (eqb b v.at) refl (stands_to r (rw (same_length x.stands st') at t) st)
    where
      go : (p : Bool) → eqb b v.at ≡ p → stands_at b vs ≡ true → stands_at b (v ∷ vs) ≡ true
      go true e u = rw (e, stands_at)
      go false e u = rw (e, stands_at) u

-- the list of a list's values
pub all_listed : (ws : List ℕ) → Listed ws (length ws) 0 (vals 0 0 ws)
all_listed ws = vals_listed ws (length ws) 0 ws (holds_all ws) (omega arith)

-- ---- the values between two addresses

pub slice_holds : (h : List ℕ) (a e : ℕ) → e ≤ length h → Holds h a (slice a e h)
slice_holds h a e c =
    let z = length-slice a e h c in
    record { word = λ i b. sym (get_or-drop a (take e h) i 0 ∙ get_or-take e h (a + i) 0 (omega arith)) }

pub values_listed : (h : List ℕ) (a e : ℕ) → a ≤ e → e ≤ length h → Listed h e a (vals_in h a e)
unfolding vals_in
values_listed h a e b c = let z = length-slice a e h c in vals_listed h e a (slice a e h) (slice_holds h a e c) (omega arith)

-- the value landed on fits before the end
pub stands_fits : (x : ℕ) (h : List ℕ) (a e : ℕ) → a ≤ e → e ≤ length h → stands_at x (vals_in h a e) ≡ true → (x < e) × (fits (at h x) (e - (x + 1)) ≡ true)
unfolding fits
stands_fits x h a e b c t =
    let (l, s, st) = stands_from h e x (values_listed h a e b c) t in
    let z = st.ends in
    (omega arith, rw (fits, fit_is (at h x) (e - (x + 1)) l st.head (omega arith)))
