-- `fields::words_pass` meets its contract: the words are tested one by one, as the definition tests them, from the first on.
use Prim.Native.Nat.{ℕ, ◌-◌}
use mathlib.Core.Path.{◌≡◌, ap, ◌∙◌}
use mathlib.Core.Bool.{Bool}
use mathlib.Core.List.{List}
use native.Mathlib.Nat.{sub-zero}
use borrow.Author.Rules.{rules}
use lib.ListN.{length, take, drop}
use lib.Seq.{take-length}
use Rattle.std.specs.List.{list_all}
use Rattle.std.proofs.lemmas.Iterator.{YieldsList-from_slice}
use Rattle.std.proofs.lemmas.Iterator.Search.{all_from_yields_List}
use Rattle.laws.specs.Lists.{all}
use Rattle.fields.proofs.Turns.{list_all_lem}
use Rattle.fields.proofs.words_pass.Goals as goal

-- the words that the code goes over are the words that were lent
whole : (p : ℕ → Bool) (vs ws : List ℕ) → vs ≡ ws → list_all p vs ≡ all p ws
whole p vs ws q = list_all_lem p vs ∙ ap (all p) q

-- they are where they begin at the first of these
from_first : (k : ℕ) (ws : List ℕ) → k ≡ 0 → take (length ws - k) (drop k ws) ≡ ws
from_first k ws q = rw (q, sub-zero) (take-length ws)

ruleset same = (rules, from_first)

pub returns : goal.returns
returns g c = all_from_yields_List g.p _ _ _ c.all.ensures.ran (YieldsList-from_slice _ c.iter.ensures.rest) (λ x b q k. search (rules, c.requires.1.1)) ∙ whole _ _ _ (search same)
