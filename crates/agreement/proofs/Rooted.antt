-- The roots evacuated in order, at work and in the plain run. At work only their values are moved; each root's new word is the forward in its value's
-- old header, which stays there to the end.
use Prim.Native.Nat.{ℕ, suc, ◌<◌, zero-le, suc-le-suc}
use native.Mathlib.Omega.{arith}
use mathlib.Core.Path.{◌≡◌, refl, ◌∙◌}
use mathlib.Core.Bool.{true, false}
use mathlib.Core.Option.{none, some}
use mathlib.Core.List.{List, [], ◌∷◌, map}
use lib.ListN.{length, length-map}
use lib.Seq.{ext_get_or}
use Rattle.laws.specs.Lists.{at}
use Rattle.laws.specs.Each.{after, each_of}
use Rattle.laws.proofs.Copies.{at_map}
use Rattle.rules.specs.Memory.{Store}
use Rattle.rules.specs.Pages.{Run}
use Rattle.rules.specs.Collection.{evacuate, evacuate_all}
use Rattle.rules.specs.Seen.{seen, Reached}
use Rattle.facts.proofs.Copied.{Rel}
use Rattle.facts.proofs.Sound.{Good, Sound}
use Rattle.working.proofs.Log.{pointers}
use Rattle.working.proofs.Invariant.{Ghost, Kept, Inv, Became}
use Rattle.working.proofs.Roots.{all_none, all_more, AllBecame}
use Rattle.motion.specs.Leaves.{Desk}
use Rattle.motion.specs.Whole.{move_root, root_word, written_roots}
use Rattle.agreement.proofs.Matching.{Matching}
use Rattle.agreement.proofs.Together.{Together, both_lack, both_go}
use Rattle.agreement.proofs.Words.{root_is, Evacuates, evacuates}

-- ---- the words at the end

pub roots_written : {s : Store} {S : Sound s} {g : Ghost} {r : Run} {d : Desk} → Inv s S g r → Matching s S g r d → (ws vs : List ℕ) → length ws ≡ length vs
    → ((i : ℕ) → i < length ws → Rel (Kept s) (pointers g.log) (at ws i) (at vs i)) → written_roots d.heap ws ≡ vs
roots_written {d = d} I M ws vs len rels =
    let l : length (map (root_word d.heap) ws) ≡ length ws = length-map ws (root_word d.heap) in
    ext_get_or 0 (map (root_word d.heap) ws) vs (l ∙ len) (λ i b. let c : i < length ws = omega arith in at_map (root_word d.heap) ws i c ∙ root_is I M (rels i c))

-- ---- all of them

abbrev pub Rooted : (s : Store) → Sound s → Ghost → Run → Desk → List ℕ → Type 0
Rooted s S g r d ws =
    Together s S none some false true (λ x d'. (A : AllBecame s S g r ws x.0 x.1) × Matching s S A.ghost x.1 d') (evacuate_all s.ctl.n ws r)
    (each_of (move_root s.ctl.n) ws d)

pub moves_all : {s : Store} {S : Sound s} {g : Ghost} {r : Run} {d : Desk} (ws : List ℕ) → Inv s S g r
    → ((i : ℕ) → i < length ws → Good s.ctl.n s.ctl.regions s.heap s.consts (at ws i)) → ((i : ℕ) → i < length ws → Reached (seen s) s.roots (at ws i))
    → Matching s S g r d → Rooted s S g r d ws
unfolding evacuate_all each_of all_none all_more
moves_all {r = r} {d} [] I good reached M = both_go ([], r) refl d refl (all_none I, M)
moves_all {s} {S} {g} {r} {d} (w ∷ ws) I good reached M =
    go (λ g' r' I' d' M'. moves_all ws I' (λ i b. good (suc i) (suc-le-suc b)) (λ i b. reached (suc i) (suc-le-suc b)) M')
    (evacuates I M w (good 0 (suc-le-suc zero-le)) (reached 0 (suc-le-suc zero-le)))
  where
    then : (v : ℕ) (r₁ : Run) → evacuate s.ctl.n w r ≡ some (v, r₁) → (B : Became s S g r w v r₁) (d₁ : Desk) → move_root s.ctl.n w d ≡ after true d₁ → Rooted s S B.ghost r₁ d₁ ws
        → Rooted s S g r d (w ∷ ws)
    then v r₁ e B d₁ t (both_lack q d' u K) = both_lack (rw (e, evacuate_all, q)) d' (rw t u) K
    then v r₁ e B d₁ t (both_go (vs, r') q d' u (A, M')) = both_go (v ∷ vs, r') (rw (e, evacuate_all, q)) d' (rw t u) (all_more B A, M')

    go : ((g' : Ghost) (r' : Run) → Inv s S g' r' → (d' : Desk) → Matching s S g' r' d' → Rooted s S g' r' d' ws) → Evacuates I M w → Rooted s S g r d (w ∷ ws)
    go rest (both_lack q d' t K) = both_lack (rw (q, evacuate_all)) d' (rw t) K
    go rest (both_go (v, r₁) q d₁ t (B, M₁)) = then v r₁ q B d₁ t (rest B.ghost r₁ B.inv d₁ M₁)
