-- How a part of the work ends beside the same part of the plain run: both lack a page, and then the desk is one that can be put back, or both go
-- through. What is shown of a later part holds of an earlier one that comes to it.
use mathlib.Core.Path.{◌≡◌, ◌∙◌}
use Rattle.laws.specs.Each.{After, after}
use Rattle.rules.specs.Memory.{Store}
use Rattle.facts.proofs.Sound.{Sound}
use Rattle.motion.specs.Leaves.{Desk}
use Rattle.agreement.proofs.Stuck.{Stuck}

-- the plain run comes to p, and the work to w; lacking a page is `none` and `no`, going through is `some` and `yes`
pub data Together {O X A : Type 0} (s : Store) (S : Sound s) (none : O) (some : X → O) (no yes : A) (Good : X → Desk → Type 0) (p : O) (w : After A Desk) : Type 0 where
  both_lack : p ≡ none → (d : Desk) → w ≡ after no d → Stuck s S d → Together s S none some no yes Good p w
  both_go : (x : X) → p ≡ some x → (d : Desk) → w ≡ after yes d → Good x d → Together s S none some no yes Good p w

pub come_to : {O X A : Type 0} {s : Store} {S : Sound s} {none : O} {some : X → O} {no yes : A} {Good Good' : X → Desk → Type 0} {p p' : O} {w w' : After A Desk}
    → p ≡ p' → w ≡ w' → ((x : X) (d : Desk) → Good' x d → Good x d) → Together s S none some no yes Good' p' w' → Together s S none some no yes Good p w
come_to e t f (both_lack q d u K) = both_lack (e ∙ q) d (t ∙ u) K
come_to e t f (both_go x q d u G) = both_go x (e ∙ q) d (t ∙ u) (f x d G)
