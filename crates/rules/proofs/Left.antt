-- A call that is done leaves the store that it says, and a refused one the store that it was given: each part of an outcome stands in its own
-- place.
use Rattle.std.specs.Prelude.{Ok}
use mathlib.Core.Path.{◌≡◌, refl}
use Rattle.rules.specs.declared.Refusal.{Refusal}
use Rattle.rules.specs.Memory.{Store}
use Rattle.rules.specs.Refusals.{unchanged, refused, leaving}
use Rattle.rules.specs.Left.{left_plain, left_valued, left_opened}

pub left_leaving : (s : Store) → left_plain (leaving s) ≡ s
left_leaving s = refl

pub left_refused : (s : Store) (r : Refusal) → left_plain (refused s r) ≡ s
left_refused s r = refl

pub left_refused_value : (s : Store) (r : Refusal) → left_valued (refused s r) ≡ s
left_refused_value s r = refl

pub left_opened_lem : (s : Store) → left_opened (unchanged (Ok s.ctl) s) s.ctl ≡ s
left_opened_lem s = refl
