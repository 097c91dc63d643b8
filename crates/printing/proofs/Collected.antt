-- What a collection leaves can be written: a collection that is done was of a heap that passes, and leaves one that passes.
use mathlib.Core.Path.{◌≡◌, refl, sym, ap, ◌∙◌}
use mathlib.Core.Bool.{false≢true}
use lib.ListN.{length}
use Rattle.std.specs.Prelude.{Result, Ok, Err}
use Rattle.rules.specs.declared.Control.{Control}
use Rattle.rules.specs.declared.Refused.{Refused}
use Rattle.rules.specs.Memory.{Store, lent}
use Rattle.rules.specs.Refusals.{Admitted, Outcome, unchanged}
use Rattle.rules.specs.Calls.{audit}
use Rattle.rules.specs.Collection.{collect, collected}
use Rattle.rules.specs.Image.{image_text, refusal_text}
use Rattle.facts.proofs.Passing.{meaning, judged_sound}
use Rattle.rules.proofs.Judged.{passed_admitted, judged_refuse}
use Rattle.promises.proofs.Keeps.{collect_keeps}
use Rattle.printing.specs.Printed.{collected_from}

module _ (s : Store) (o : Outcome (Result Control Refused)) where
  module _ (c : Control) (done : o.answer ≡ Ok c) where
    pub left_admitted : o ≡ collect s → Admitted (length o.heap) (length o.table) (length o.roots) (length o.consts) c
    unfolding collect
    left_admitted e = go (audit s) refl
      where
        go : (a : Result Control Refused) → audit s ≡ a → Admitted (length o.heap) (length o.table) (length o.roots) (length o.consts) c
        go (Err f) q =
            let same : o ≡ unchanged (Err f) s = e ∙ sym (judged_refuse (λ r. unchanged (Err r) s) (collected s) s (sym q)) in
            let z : Ok c ≡ Err f = sym done ∙ ap (λ (x : Outcome (Result Control Refused)). x.answer) same in
            absurd (false≢true cc)
        go (Ok d) q = rw (← e, done) at (passed_admitted _ ((meaning _).1 (collect_keeps s (judged_sound s d (sym q)))))

    -- and is printed as an image
    pub collected_image : o ≡ collect s → image_text (lent o.heap o.table o.roots o.consts c) ≡ collected_from s
    collected_image e = rw (← e, done)

  pub collected_refused : (f : Refused) → o.answer ≡ Err f → o ≡ collect s → refusal_text f.why ≡ collected_from s
  collected_refused f r e = rw (← e, r)
