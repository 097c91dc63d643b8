-- A word evacuated at work and in the plain run. At work a field gets the forward that the old header then has, which is the plain run's new word; a
-- number or a constant pointer stays in both.
use Prim.Native.Nat.{ℕ, ◌*◌, ◌/◌, ◌%◌, ◌<◌}
use native.Mathlib.Decide.{ℕ_discrete}
use mathlib.Core.Path.{◌≡◌, sym, ap, ◌∙◌}
use mathlib.Core.Logic.{◌≢◌}
use mathlib.Core.Bool.{Bool, true, false, false≢true}
use mathlib.Core.Option.{none, some}
use mathlib.Core.List.{List}
use lib.ListN.{length, set}
use borrow.Author.Tests.{eq-eqb, ne_eqb}
use Rattle.laws.specs.Lists.{at}
use Rattle.laws.specs.Each.{After, after}
use Rattle.rules.specs.Memory.{Store}
use Rattle.rules.specs.Pages.{Run, with_heap}
use Rattle.rules.specs.Collection.{evacuate}
use Rattle.rules.proofs.Pointers.{pointer_is, is_number_lem}
use Rattle.rules.specs.Seen.{seen, Reached}
use Rattle.facts.proofs.Copied.{Rel, num, stay, went}
use Rattle.facts.proofs.Laid.{Owner}
use Rattle.facts.proofs.Sound.{Good, a_number, to_heap, to_const, Sound}
use Rattle.working.proofs.Log.{pointers, of_pointers}
use Rattle.working.proofs.Invariant.{Ghost, Kept, Inv, Became}
use Rattle.working.proofs.Evacuation.{evacuate_pointer, stays}
use Rattle.motion.specs.Leaves.{Desk, desk}
use Rattle.motion.specs.Run as X
use Rattle.motion.specs.Run.{move, evacuated, evacuate_of}
use Rattle.motion.specs.Whole.{move_root, root_word}
use Rattle.agreement.proofs.Matching.{Plain, Alike, Matching}
use Rattle.agreement.proofs.Frames.{word_on, word_has}
use Rattle.agreement.proofs.Together.{Together, both_go, come_to}
use Rattle.agreement.proofs.Heads.{pointer_rest, other_rest}
use Rattle.agreement.proofs.Moves.{forward_here, moves}

-- ---- what the work makes of a word, as of a root

-- a pointer to the heap has its value moved, and becomes the forward
pub root_moves : (n a : ℕ) (d : Desk) → move_root n (4 * a) d ≡ move n a d
unfolding move_root
root_moves n a d = rw (eq-eqb ((4 * a) % 4) 0 (pointer_rest a).0, (pointer_rest a).1)

pub word_forward : (a : ℕ) (h : List ℕ) → root_word h (4 * a) ≡ at h a
unfolding root_word
word_forward a h = rw (eq-eqb ((4 * a) % 4) 0 (pointer_rest a).0, (pointer_rest a).1)

-- any other word stays
pub root_stays : (n w : ℕ) (d : Desk) → w % 4 ≢ 0 → move_root n w d ≡ after true d
unfolding move_root
root_stays n w d ne = rw (ne_eqb (w % 4) 0 ne)

pub word_stays : (w : ℕ) (h : List ℕ) → w % 4 ≢ 0 → root_word h w ≡ w
unfolding root_word
word_stays w h ne = rw (ne_eqb (w % 4) 0 ne)

-- ---- any good word

module _ {s : Store} {S : Sound s} {g : Ghost} {r : Run} {d : Desk} (I : Inv s S g r) (M : Matching s S g r d) where
  abbrev n : ℕ
  n = s.ctl.n

  -- what the plain run made of a word is what the work reads for it
  pub root_is : {w v : ℕ} → Rel (Kept s) (pointers g.log) w v → root_word d.heap w ≡ v
  root_is {w} (num e) = let q = is_number_lem w e in word_stays w d.heap (other_rest w (λ a t. false≢true cc))
  root_is {w} (stay k) = let q = k.word in word_stays w d.heap (other_rest w (λ a t. false≢true cc))
  root_is (went m) = let t = of_pointers g.log m in ap (root_word d.heap) t.2 ∙ word_forward t.0 d.heap ∙ forward_here I M t.4 ∙ sym t.3

  -- how a word's evacuation ends
  abbrev pub Evacuates : ℕ → Type 0
  Evacuates w =
      Together s S none some false true (λ x d'. (B : Became s S g r w x.0 x.1) × Matching s S B.ghost x.1 d') (evacuate n w r) (move_root n w d)

  pub evacuates : (w : ℕ) → Good n s.ctl.regions s.heap s.consts w → Reached (seen s) s.roots w → Evacuates w
  unfolding evacuate stays
  evacuates w (a_number e) q = let ne = other_rest w (λ a t. false≢true cc) in both_go (w, r) (rw (e, evacuate)) d (root_stays n w d ne) (stays I w w (num (rw e)), M)
  evacuates w (to_const a e k) q =
      let ne = other_rest w (λ b t. false≢true cc) in
      both_go (w, r) (rw (e, evacuate)) d (root_stays n w d ne) (stays I w w (stay (record { address = a; word = e; good = k })), M)
  evacuates w (to_heap a e x) q =
      let p : w ≡ 4 * a = pointer_is w a e in
      rw p (come_to (evacuate_pointer n a r) (root_moves n a d) (λ y d' G. G) (moves I M a x (rw p at q)))

  -- ---- the field at x
  module _ (x : ℕ) {w : ℕ} (here : at d.heap x ≡ w) where
    pub field_stops : {d' : Desk} → move_root n w d ≡ after false d' → X.evacuate n x d ≡ after false d'
    unfolding X.evacuate evacuate_of evacuated move_root
    field_stops {d'} q = go (ℕ_discrete (w % 4) 0)
      where
        go : Dec (w % 4 ≡ 0) → X.evacuate n x d ≡ after false d'
        go (yes e) = let t : move n (w / 4) d ≡ after false d' = rw (eq-eqb (w % 4) 0 e) at q in rw (here, eq-eqb (w % 4) 0 e, t)
        go (no ne) = absurd (false≢true (sym (ap (λ (o : After Bool Desk). o.answer) (sym (root_stays n w d ne) ∙ q))))

    pub field_goes : {own : ℕ → Owner} {free : List ℕ} {r' : Run} {d' : Desk} {v : ℕ} → Alike s S own free r' d' → x < length r'.heap → Plain s own x
        → move_root n w d ≡ after true d' → root_word d'.heap w ≡ v → (d'' : Desk) × (X.evacuate n x d ≡ after true d'') × Alike s S own free (with_heap r' (set r'.heap x v)) d''
    unfolding X.evacuate evacuate_of evacuated move_root root_word
    field_goes {own} {free} {r'} {d'} {v} M' inside plain q f = go (ℕ_discrete (w % 4) 0)
      where
        go : Dec (w % 4 ≡ 0) → (d'' : Desk) × (X.evacuate n x d ≡ after true d'') × Alike s S own free (with_heap r' (set r'.heap x v)) d''
        go (yes e) =
            let t : move n (w / 4) d ≡ after true d' = rw (eq-eqb (w % 4) 0 e) at q in
            let u : at d'.heap (w / 4) ≡ v = rw (eq-eqb (w % 4) 0 e) at f in
            (desk (set d'.heap x v) d'.notes, rw (here, eq-eqb (w % 4) 0 e, t, u), word_on M' x v inside plain)
        go (no ne) =
            let t : d ≡ d' = ap (λ (o : After Bool Desk). o.state) (sym (root_stays n w d ne) ∙ q) in
            (d', rw (here, ne_eqb (w % 4) 0 ne, t), word_has M' x v inside (ap (λ y. at y.heap x) (sym t) ∙ here ∙ sym (word_stays w d'.heap ne) ∙ f))
