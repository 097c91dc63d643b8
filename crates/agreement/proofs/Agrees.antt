-- On every sound store the collection at work and the plain one come to the same: steps 1 to 3 go alike, and so do the endings.
use mathlib.Core.Path.{◌≡◌}
use Rattle.rules.specs.Memory.{Store}
use Rattle.rules.specs.Collection.{collected}
use Rattle.facts.proofs.Sound.{Sound}
use Rattle.motion.specs.Whole.{working_collect}
use Rattle.agreement.proofs.Attempts.{attempts}
use Rattle.agreement.proofs.Ended.{ends_alike}

pub agrees : (s : Store) → Sound s → working_collect s ≡ collected s
agrees s S = ends_alike s S (attempts s S)
