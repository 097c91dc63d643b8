-- The promises about images. Each is a theorem about the definitions of writing and reading; the contracts of the two calls say that the code
-- computes these. They are true because writing and reading undo one another, frame by frame.
use Rattle.std.specs.Prelude.{Ok, Err}
use Prim.Native.Nat.{ℕ}
use mathlib.Core.Path.{◌≡◌, sym, ap, ◌∙◌}
use mathlib.Core.Logic.{◌↔◌}
use mathlib.Core.List.{List}
use lib.ListN.{length, take}
use Rattle.rules.specs.declared.Control.{Control}
use Rattle.rules.specs.declared.Refusal.{Refusal}
use Rattle.rules.specs.Memory.{Store, Words32}
use Rattle.rules.specs.Refusals.{outcome}
use Rattle.rules.specs.Image.{image_text, write_image, read_image, read_text, frames}
use Rattle.rules.specs.Left.{left_opened}
use Rattle.promises.specs.Texts.{WellFormed, text_of, Fault}
use Rattle.promises.proofs.ImageFrames.{text_reads, reads_text, text_fault, fault_text}
use Rattle.promises.proofs.ImageStores.{frames_of, image_text_lem, frames_fit, store_back, text_back}
use Rattle.promises.proofs.ImageCalls.{wrote, opens, fills, faults, faulted}

-- What writing accepts reads back as it was: lent parts of the image's lengths, reading the written text gives the record and every word.
pub written_reads_back : (s : Store) (bytes : List ℕ) (m : ℕ) (c : Control) → Words32 s → (write_image s bytes).answer ≡ Ok (m, c)
    → (heap table roots consts : List ℕ) → length heap ≡ length s.heap → length table ≡ length s.table → length roots ≡ length s.roots → length consts ≡ length s.consts
    → read_image (take m (write_image s bytes).bytes) heap table roots consts ≡ outcome (Ok s.ctl) s.heap s.table s.roots s.consts
written_reads_back s bytes m c w h heap table roots consts eh et er ek =
    let g = wrote s bytes m c h in
    fills s heap table roots consts eh (et ∙ g.admitted.table) er ek (take m (write_image s bytes).bytes) (frames_of s)
    (ap read_text (g.text ∙ image_text_lem s) ∙ text_reads (frames_of s) (frames_fit s g.admitted w))
    (store_back s g.admitted g.cleared)

-- What reading accepts and writing accepts again is the same bytes.
pub read_writes_back : (text heap table roots consts : List ℕ) (c : Control) → (read_image text heap table roots consts).answer ≡ Ok c
    → (bytes : List ℕ) (m : ℕ) (d : Control) → (write_image (left_opened (read_image text heap table roots consts) c) bytes).answer ≡ Ok (m, d)
    → take m (write_image (left_opened (read_image text heap table roots consts) c) bytes).bytes ≡ text
read_writes_back text heap table roots consts c h bytes m d k =
    let o = opens text heap table roots consts c h in
    let r = reads_text text o.words o.reads in
    (wrote (left_opened (read_image text heap table roots consts) c) bytes m d k).text ∙ ap image_text o.leaves ∙ text_back o.words r.0 ∙ sym r.1

-- The frames that a text reads as are the well formed frames whose text it is.
pub reading : (text : List ℕ) (fs : List (List ℕ)) → (read_text text ≡ frames fs) ↔ (WellFormed fs × (text ≡ text_of fs))
reading text fs = (reads_text text fs, λ p. ap read_text p.1 ∙ text_reads fs p.0)

-- A text has at most one reading: two lists of well formed frames with one text are the same.
pub one_reading : (fs gs : List (List ℕ)) → WellFormed fs → WellFormed gs → text_of fs ≡ text_of gs → fs ≡ gs
one_reading fs gs f g e = let q : frames fs ≡ frames gs = sym (text_reads fs f) ∙ ap read_text e ∙ text_reads gs g in cc

-- The line that reading answers is that of the first malformed frame: every frame before it is well formed, and that one is not.
pub line_of_fault : (text heap table roots consts : List ℕ) (l : ℕ) → ((read_image text heap table roots consts).answer ≡ Err (Refusal.Malformed l)) ↔ Fault text l
line_of_fault text heap table roots consts l =
    (λ h. text_fault text l (faulted text heap table roots consts l h), λ f. faults text heap table roots consts l (fault_text text l f))
