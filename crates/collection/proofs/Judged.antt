-- What the audit's answer says of a collection: where it refuses, the collection refuses with the same; where it passes, the collection is its
-- four steps, and these are what the collection at work leaves, since on a sound heap the two agree.
use Rattle.std.specs.Prelude.{Ok, Err}
use Rattle.rules.specs.Refusals.{Paged, unchanged}
use Prim.Native.Nat.{◌≤◌}
use lib.ListN.{length}
use mathlib.Core.Path.{◌≡◌, sym, ◌∙◌}
use Rattle.rules.specs.declared.Control.{Control}
use Rattle.rules.specs.declared.Refused.{Refused}
use Rattle.rules.specs.Memory.{Store}
use Rattle.rules.specs.Calls.{audit}
use Rattle.rules.specs.Collection.{collected, collect}
use Rattle.rules.proofs.Judged.{judged_refuse, judged_collects}
use Rattle.facts.proofs.Passing.{judged_sound}
use Rattle.motion.specs.Whole.{working_collect}
use Rattle.agreement.proofs.Agrees.{agrees}

pub judged_broken : (s : Store) (f : Refused) → Err f ≡ audit s → unchanged (Err f) s ≡ collect s
unfolding collect
judged_broken s f e = judged_refuse (λ g. unchanged (Err g) s) (collected s) s e

-- the heap is sound, so it is within the limits
pub judged_within : (s : Store) (c : Control) → Ok c ≡ audit s → (Paged s.ctl.n (length s.heap)) × (s.ctl.regions ≤ 64) × (length s.table ≡ 256)
judged_within s c e = let sound = judged_sound s c e in (sound.within.paged, sound.regions, sound.within.table)

-- what the collection at work leaves is what the call leaves
pub judged_passing : (s : Store) (c : Control) → Ok c ≡ audit s → working_collect s ≡ collect s
judged_passing s c e = agrees s (judged_sound s c e) ∙ sym (judged_collects s e)
