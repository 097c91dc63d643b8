-- What the program answers, by the first frame: one that asks for too much is refused at line 1, whether it is malformed or not; any other
-- leads to what reading into parts of its lengths gives.
use Rattle.std.specs.Prelude.{Result, Ok, Err}
use Prim.Native.Nat.{ℕ, ◌-◌, ◌*◌, ◌^◌, ◌≤◌}
use mathlib.Core.Path.{◌≡◌, refl, sym, ap, ◌∙◌}
use mathlib.Core.Bool.{Bool, true, false, false≢true}
use mathlib.Core.List.{List, [], ◌∷◌}
use native.Mathlib.Nat.{sub-zero}
use native.Mathlib.Omega.{arith}
use borrow.Author.Tests.{leb-true, le-leb, eq-eqb}
use lib.ListN.{length, take, get_or}
use lib.Seq.{length-take-le}
use Rattle.laws.proofs.Tests.{both}
use Rattle.rules.specs.declared.Control.{Control}
use Rattle.rules.specs.declared.Refusal.{Refusal}
use Rattle.rules.specs.Memory.{lent}
use Rattle.rules.specs.Refusals.{Outcome, outcome}
use Rattle.rules.specs.Image.{head_fits, program_fits, layout, Frames, frames, malformed, read_text, store_of, same_lengths, read_store, read_image, refusal_text, program_on, collect_program}
use Rattle.scanning.specs.Places.{words_at, words_of, frame_shape, frame_fits}
use Rattle.scanning.proofs.Frames.{read_frame_lem}
use Rattle.reading.specs.declared.Head.{Head}
use Rattle.reading.specs.Parts.{frames_at, head_list, head_from, judged_as, lengths_fit}
use Rattle.rules.proofs.FirstFrame.{limited, program_limited}
use Rattle.reading.proofs.Heads.{head_words_lem, head_fits_lem}
use Rattle.reading.proofs.Wells.{judged_well, same_lengths_lem, read_malformed}
use Rattle.printing.specs.Printed.{collected_from}
use Rattle.desk.specs.Taking.{takes_head}

-- ---- the first frame

-- what there is room for, as facts
pub record Taken (h : Head) : Type 0 where
  pub n : h.n ≤ 8
  pub heap : h.pages * 2 ^ h.n ≤ 4096
  pub roots : h.roots ≤ 1024
  pub consts : h.consts ≤ 1024

pub taken : (h : Head) → takes_head h ≡ true → Taken h
unfolding takes_head
taken h e =
    let (e2, k) = both e in
    let (e1, r) = both e2 in
    let (n, p) = both e1 in
    record { n = leb-true _ _ n; heap = leb-true _ _ p; roots = leb-true _ _ r; consts = leb-true _ _ k }

module _ (text : List ℕ) where
  abbrev first : Head
  first = head_from (words_at 8 text 6)

  -- a first frame that the program takes is one that reading takes, and there is room for it
  takes_both : frame_fits 1 program_fits text 0 ≡ true → (frame_fits 1 head_fits text 0 ≡ true) × (takes_head first ≡ true)
  unfolding frame_fits takes_head
  takes_both f =
      let (shape, fits) = both {a = frame_shape 1 text 0} {b = program_fits (words_of text 0)} f in
      let (hf, p, k) = program_limited (words_of text 0) fits in
      let g : frame_fits 1 head_fits text 0 ≡ true = rw (frame_fits, shape, hf) in
      let w = head_words_lem text first refl g in
      let l = limited (head_list first) (head_fits_lem text first refl g) in
      let hp : first.pages * 2 ^ first.n ≤ 4096 = rw w at p in
      let hk : first.consts ≤ 1024 = rw w at k in
      (g, rw (le-leb first.n 8 l.high, le-leb (first.pages * 2 ^ first.n) 4096 hp, le-leb first.roots 1024 l.roots, le-leb first.consts 1024 hk))

  -- and the other way round
  both_takes : frame_fits 1 head_fits text 0 ≡ true → takes_head first ≡ true → frame_fits 1 program_fits text 0 ≡ true
  unfolding frame_fits program_fits
  both_takes g t =
      let (shape, hf) = both {a = frame_shape 1 text 0} {b = head_fits (words_of text 0)} g in
      let w = head_words_lem text first refl g in
      let l = taken first t in
      rw (shape, w, rw w at hf, le-leb (first.pages * 2 ^ first.n) 4096 l.heap, le-leb first.consts 1024 l.consts)

  pub program_stops : takes_head first ≡ false → refusal_text (Refusal.Malformed 1) ≡ collect_program text
  unfolding collect_program
  program_stops t = go (frame_fits 1 program_fits text 0) refl
    where
      go : (b : Bool) → frame_fits 1 program_fits text 0 ≡ b → refusal_text (Refusal.Malformed 1) ≡ collect_program text
      go true f = absurd (false≢true (sym t ∙ (takes_both f).1))
      go false f = rw (collect_program, read_frame_lem 1 program_fits text 0, f)

  pub program_goes : takes_head first ≡ true → program_on (read_text text) ≡ collect_program text
  unfolding collect_program read_text
  program_goes t = go (frame_fits 1 program_fits text 0) refl (frame_fits 1 head_fits text 0) refl
    where
      go : (b : Bool) → frame_fits 1 program_fits text 0 ≡ b → (d : Bool) → frame_fits 1 head_fits text 0 ≡ d → program_on (read_text text) ≡ collect_program text
      go true f d g = rw (collect_program, read_frame_lem 1 program_fits text 0, f)
      go false f true g = absurd (false≢true (sym f ∙ both_takes g t))
      go false f false g = rw (collect_program, read_frame_lem 1 program_fits text 0, f, read_text, read_frame_lem 1 head_fits text 0, g)

-- ---- reading into parts of the lengths that the first frame says

lengths_fit_lem : (h : Head) (H T R K : ℕ) → H ≡ h.pages * 2 ^ h.n → T ≡ 256 → R ≡ h.roots → K ≡ h.consts → lengths_fit h H T R K ≡ true
unfolding lengths_fit
lengths_fit_lem h H T R K p t r k = rw (eq-eqb H (h.pages * 2 ^ h.n) p, eq-eqb T 256 t, eq-eqb R h.roots r, eq-eqb K h.consts k)

-- the fronts of the whole parts have these lengths; w is how many words the heap has
pub fronts_fit : (text heap table roots consts : List ℕ) (h : Head) (w : ℕ) → h ≡ head_from (words_at 8 text 6) → takes_head h ≡ true → w ≡ h.pages * 2 ^ h.n
    → length heap ≡ 4096 → length table ≡ 256 → length roots ≡ 1024 → length consts ≡ 1024
    → (lengths_fit (head_from (words_at 8 text 6)) (length (take (w - 0) heap)) (length table) (length (take (h.roots - 0) roots)) (length (take (h.consts - 0) consts)) ≡ true)
    × (length (take (w - 0) heap) ≤ 4096) × (length (take (h.consts - 0) consts) ≤ 1024)
fronts_fit text heap table roots consts h w f t e eh et er ek =
    let l = taken h t in
    let a = l.heap in
    let b = l.roots in
    let d = l.consts in
    let p : length (take (w - 0) heap) ≡ w = length-take-le (w - 0) heap (omega arith) ∙ sub-zero w in
    let r : length (take (h.roots - 0) roots) ≡ h.roots = length-take-le (h.roots - 0) roots (omega arith) ∙ sub-zero h.roots in
    let k : length (take (h.consts - 0) consts) ≡ h.consts = length-take-le (h.consts - 0) consts (omega arith) ∙ sub-zero h.consts in
    let H : ℕ = length (take (w - 0) heap) in
    let R : ℕ = length (take (h.roots - 0) roots) in
    let K : ℕ = length (take (h.consts - 0) consts) in
    (ap (λ x. lengths_fit x H (length table) R K) (sym f) ∙ lengths_fit_lem h H (length table) R K (p ∙ e) et r k, omega arith, omega arith)

module _ (text heap table roots consts : List ℕ) (fits : lengths_fit (head_from (words_at 8 text 6)) (length heap) (length table) (length roots) (length consts) ≡ true) where
  read_fits : (fs : List (List ℕ)) → read_text text ≡ frames fs → same_lengths (store_of fs) heap table roots consts ≡ true
  read_fits fs q =
      let h : Head = head_from (get_or fs 0 []) in
      let w = judged_well text h (ap judged_as q) in
      let e : frames fs ≡ frames (head_list h ∷ frames_at (layout (head_list h)) text 71) = sym q ∙ w.words in
      let d : fs ≡ head_list h ∷ frames_at (layout (head_list h)) text 71 = cc in
      ap (λ x. same_lengths (store_of x) heap table roots consts) d
      ∙ same_lengths_lem text h w heap table roots consts
      ∙ ap (λ x. lengths_fit x (length heap) (length table) (length roots) (length consts)) w.first
      ∙ fits

  -- what reading is, by what the text is
  read_frames_lem : (fs : List (List ℕ)) → read_text text ≡ frames fs
      → read_image text heap table roots consts ≡ outcome (Ok (store_of fs).ctl) (store_of fs).heap (store_of fs).table (store_of fs).roots (store_of fs).consts
  unfolding read_image read_store
  read_frames_lem fs q = rw (q, read_fits fs q)

  module _ (o : Outcome (Result Control Refusal)) (e : o ≡ read_image text heap table roots consts) where
    answers_done : (fs : List (List ℕ)) → read_text text ≡ frames fs → o.answer ≡ Ok (store_of fs).ctl
    answers_done fs q = ap (λ (x : Outcome (Result Control Refusal)). x.answer) (e ∙ read_frames_lem fs q)

    answers_refused : (line : ℕ) → read_text text ≡ malformed line → o.answer ≡ Err (Refusal.Malformed line)
    answers_refused line q = ap (λ (x : Outcome (Result Control Refusal)). x.answer) (e ∙ sym (read_malformed text heap table roots consts (Refusal.Malformed line) (ap judged_as q)))

    pub read_refused : (why : Refusal) → o.answer ≡ Err why → refusal_text why ≡ program_on (read_text text)
    read_refused why r = go (read_text text) refl
      where
        go : (f : Frames) → read_text text ≡ f → refusal_text why ≡ program_on (read_text text)
        go (frames fs) q =
            let d : Err why ≡ Ok (store_of fs).ctl = sym r ∙ answers_done fs q in
            absurd (false≢true cc)
        go (malformed line) q =
            let d : Err why ≡ Err (Refusal.Malformed line) = sym r ∙ answers_refused line q in
            let w : why ≡ Refusal.Malformed line = cc in
            rw (q, w)

    pub read_done : (c : Control) → o.answer ≡ Ok c → collected_from (lent o.heap o.table o.roots o.consts c) ≡ program_on (read_text text)
    read_done c r = go (read_text text) refl
      where
        go : (f : Frames) → read_text text ≡ f → collected_from (lent o.heap o.table o.roots o.consts c) ≡ program_on (read_text text)
        go (frames fs) q =
            let d : Ok c ≡ Ok (store_of fs).ctl = sym r ∙ answers_done fs q in
            let k : c ≡ (store_of fs).ctl = cc in
            rw (q, k, e ∙ read_frames_lem fs q)
        go (malformed line) q =
            let d : Ok c ≡ Err (Refusal.Malformed line) = sym r ∙ answers_refused line q in
            absurd (false≢true cc)
