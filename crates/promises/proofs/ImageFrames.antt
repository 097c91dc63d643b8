-- The frames of a text: reading gives exactly the well formed frames whose text it is, and the line of the first fault. Each by one step
-- a frame, and recursion on the frames that are expected.
use Prim.Native.Nat.{ℕ, suc, ◌+◌}
use mathlib.Core.Path.{◌≡◌, refl, sym, ap, ◌∙◌}
use mathlib.Core.Option.{Option, none, some, some-ne-none}
use mathlib.Core.List.{List, [], ◌∷◌, ◌++◌, append_assoc}
use mathlib.Core.Bool.{Bool, false≢true}
use native.Mathlib.Omega.{arith}
use lib.ListN.{length}
use Rattle.rules.specs.Image.{frame, head_fits, part_fits, Expected, layout, Frames, frames, malformed, with_frame, read_frame, read_frames, read_text}
use Rattle.promises.specs.Texts.{HeadFits, FrameFits, Fits, WellFormed, frames_text, text_of, NoFrame, FaultAt, Fault, at_head, behind}
use Rattle.promises.proofs.ImageDigits.{frame_read, read_framed}

-- no list of frames is a fault
not_frames : {A : Type 0} {l : ℕ} {fs : List (List ℕ)} → malformed l ≡ frames fs → A
not_frames e = absurd (false≢true cc)

-- what stands behind a frame decides
with_frames : {A : Type 0} (ws : List ℕ) (r : Frames) (fs : List (List ℕ)) → with_frame ws r ≡ frames fs
    → ((gs : List (List ℕ)) → r ≡ frames gs → fs ≡ ws ∷ gs → A) → A
with_frames ws (frames gs) fs e k = let q : ws ∷ gs ≡ fs = cc in k gs refl (sym q)
with_frames ws (malformed l) fs e k = not_frames e

with_fault : {A : Type 0} (ws : List ℕ) (r : Frames) (l : ℕ) → with_frame ws r ≡ malformed l → (r ≡ malformed l → A) → A
with_fault ws (frames gs) l e k = not_frames (sym e)
with_fault ws (malformed m) l e k = k e

-- frames of a kind: one of words that fit reads, and what reads is one
record Reading (kind : ℕ) (fits : List ℕ → Bool) (Fit : List ℕ → Type 0) : Type 0 where
  reads : (ws rest : List ℕ) → Fit ws → read_frame kind fits (frame kind ws ++ rest) ≡ some (ws, rest)
  framed : (bs ws rest : List ℕ) → read_frame kind fits bs ≡ some (ws, rest) → Fit ws × (bs ≡ frame kind ws ++ rest)

part : (e : Expected) → Reading e.kind (part_fits e.most) (FrameFits e)
part e = record {
  reads = λ ws rest f. frame_read e.kind (part_fits e.most) ws rest f.kind f.words f.fits;
  framed = λ bs ws rest h.
      let g = read_framed e.kind (part_fits e.most) bs ws rest h in
      (record { kind = g.kinds; words = g.words; fits = g.passes }, g.text);
}

head : Reading 1 head_fits HeadFits
head = record {
  reads = λ ws rest f. frame_read 1 head_fits ws rest (omega arith) f.words f.fits;
  framed = λ bs ws rest h. let g = read_framed 1 head_fits bs ws rest h in (record { words = g.words; fits = g.passes }, g.text);
}

module _ {kind : ℕ} {fits : List ℕ → Bool} {Fit : List ℕ → Type 0} (R : Reading kind fits Fit) (bs : List ℕ) where
  -- no such frame stands at the front
  abbrev None : Type 0
  None = (ws rest : List ℕ) → Fit ws → bs ≡ frame kind ws ++ rest → ⊥

  -- then none reads
  read_none : None → read_frame kind fits bs ≡ none
  read_none f = go (read_frame kind fits bs) refl
    where
      go : (o : Option (List ℕ × List ℕ)) → read_frame kind fits bs ≡ o → read_frame kind fits bs ≡ none
      go none q = q
      go (some t) q = let g = R.framed bs t.0 t.1 q in absurd (f t.0 t.1 g.0 g.1)

  -- where one is expected at a line, and `next` behind it, reading finds none, or goes on behind it
  step : {A : Type 0} (line : ℕ) (next : List ℕ × List ℕ → Frames) (r : Frames) → elim (read_frame kind fits bs) [ none ↦ malformed line | some p ↦ with_frame p.0 (next p) ] ≡ r
      → (malformed line ≡ r → None → A) → ((ws rest : List ℕ) → Fit ws → bs ≡ frame kind ws ++ rest → with_frame ws (next (ws, rest)) ≡ r → A) → A
  step {A} line next r h here behind_it = go (read_frame kind fits bs) refl h
    where
      go : (o : Option (List ℕ × List ℕ)) → read_frame kind fits bs ≡ o → elim o [ none ↦ malformed line | some p ↦ with_frame p.0 (next p) ] ≡ r → A
      go none q e = here e (λ ws rest f p. some-ne-none _ (sym (R.reads ws rest f) ∙ rw p at q))
      go (some t) q e = let g = R.framed bs t.0 t.1 q in behind_it t.0 t.1 g.0 g.1 e

-- ---- the frames behind the first

pub frames_read : (es : List Expected) (fs : List (List ℕ)) (line : ℕ) → Fits es fs → read_frames line es (frames_text es fs) ≡ frames fs
unfolding read_frames frames_text
frames_read [] [] line f = refl
frames_read [] (ws ∷ fs) line f = absurd f
frames_read (e ∷ es) [] line f = absurd f
frames_read (e ∷ es) (ws ∷ fs) line f = rw (read_frames, (part e).reads ws (frames_text es fs) f.0, frames_read es fs (suc line) f.1)

pub frames_back : (es : List Expected) (bs : List ℕ) (fs : List (List ℕ)) (line : ℕ) → read_frames line es bs ≡ frames fs → Fits es fs × (bs ≡ frames_text es fs)
unfolding read_frames frames_text
frames_back [] [] fs line h = let q : [] ≡ fs = cc in rw (← q) (tt, refl)
frames_back [] (b ∷ bs) fs line h = not_frames h
frames_back (e ∷ es) bs fs line h =
    step (part e) bs line (λ p. read_frames (suc line) es p.1) (frames fs) h (λ z no. not_frames z)
    (λ ws rest f p z.
    with_frames ws _ fs z (λ gs q s. let k = frames_back es rest gs (suc line) q in rw s ((f, k.0), p ∙ ap (λ x. frame e.kind ws ++ x) k.1)))

-- ---- their first fault

fault_here : (es : List Expected) (bs : List ℕ) (line l : ℕ) → line ≡ l → NoFrame es bs → FaultAt line es bs l
unfolding frames_text
fault_here es bs line l e f =
    record { passed = []; left = es; found = []; rest = bs; expects = refl; fits = tt; text = refl; counted = omega arith; fault = f }

pub fault_back : (es : List Expected) (bs : List ℕ) (line l : ℕ) → read_frames line es bs ≡ malformed l → FaultAt line es bs l
unfolding read_frames frames_text
fault_back [] [] line l h = not_frames (sym h)
fault_back [] (b ∷ bs) line l h = let q : line ≡ l = cc in fault_here [] (b ∷ bs) line l q (λ z. false≢true cc)
fault_back (e ∷ es) bs line l h =
    step (part e) bs line (λ p. read_frames (suc line) es p.1) (malformed l) h
    (λ z no. let s : line ≡ l = cc in fault_here (e ∷ es) bs line l s no)
    (λ ws rest f p z.
    with_fault ws _ l z
    (λ q.
    let k = fault_back es rest (suc line) l q in
    let c = k.counted in
    record {
      passed = e ∷ k.passed;
      left = k.left;
      found = ws ∷ k.found;
      rest = k.rest;
      expects = ap (λ x. e ∷ x) k.expects;
      fits = (f, k.fits);
      text = p ∙ ap (λ x. frame e.kind ws ++ x) k.text ∙ sym (append_assoc (frame e.kind ws) (frames_text k.passed k.found) k.rest);
      counted = omega arith;
      fault = k.fault;
    }))

-- the frames that stand before the fault, and then none
fault_after : (ps left : List Expected) (fs : List (List ℕ)) (rest : List ℕ) (line : ℕ) → Fits ps fs → NoFrame left rest
    → read_frames line (ps ++ left) (frames_text ps fs ++ rest) ≡ malformed (line + length fs)
unfolding read_frames frames_text
fault_after [] [] [] [] line f g = absurd (g refl)
fault_after [] [] [] (b ∷ bs) line f g = ap malformed (omega arith)
fault_after [] (e ∷ es) [] rest line f g = rw (read_frames, read_none (part e) rest g) (ap malformed (omega arith))
fault_after [] left (ws ∷ fs) rest line f g = absurd f
fault_after (e ∷ ps) left [] rest line f g = absurd f
fault_after (e ∷ ps) left (ws ∷ fs) rest line f g =
    let q : suc line + length fs ≡ line + suc (length fs) = omega arith in
    rw (append_assoc (frame e.kind ws) (frames_text ps fs) rest, read_frames, (part e).reads ws (frames_text ps fs ++ rest) f.0, fault_after ps left fs rest (suc line) f.1 g, q)

pub fault_read : (es : List Expected) (bs : List ℕ) (line l : ℕ) → FaultAt line es bs l → read_frames line es bs ≡ malformed l
fault_read es bs line l k = rw (k.expects, k.text, k.counted) (fault_after k.passed k.left k.found k.rest line k.fits k.fault)

-- ---- the whole text

pub text_reads : (fs : List (List ℕ)) → WellFormed fs → read_text (text_of fs) ≡ frames fs
unfolding read_text text_of
text_reads [] f = absurd f
text_reads (ws ∷ fs) f = rw (read_text, head.reads ws (frames_text (layout ws) fs) f.0, frames_read (layout ws) fs 2 f.1)

pub reads_text : (text : List ℕ) (fs : List (List ℕ)) → read_text text ≡ frames fs → WellFormed fs × (text ≡ text_of fs)
unfolding read_text text_of
reads_text text fs h =
    step head text 1 (λ p. read_frames 2 (layout p.0) p.1) (frames fs) h (λ z no. not_frames z)
    (λ ws rest f p z.
    with_frames ws _ fs z (λ gs q s. let k = frames_back (layout ws) rest gs 2 q in rw s ((f, k.0), p ∙ ap (λ x. frame 1 ws ++ x) k.1)))

pub text_fault : (text : List ℕ) (l : ℕ) → read_text text ≡ malformed l → Fault text l
unfolding read_text
text_fault text l h =
    step head text 1 (λ p. read_frames 2 (layout p.0) p.1) (malformed l) h (λ z no. let s : 1 ≡ l = cc in rw (← s) (at_head no))
    (λ ws rest f p z. with_fault ws _ l z (λ q. behind ws rest f p (fault_back (layout ws) rest 2 l q)))

pub fault_text : (text : List ℕ) (l : ℕ) → Fault text l → read_text text ≡ malformed l
unfolding read_text
fault_text text _ (at_head f) = rw (read_text, read_none head text f)
fault_text text l (behind ws rest f p k) = rw (p, read_text, head.reads ws rest f, fault_read (layout ws) rest 2 l k)
