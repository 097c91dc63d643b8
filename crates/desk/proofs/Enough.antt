-- One byte more than the longest text is enough to read: what the program answers to a text is what it answers to the text's first 53,085
-- bytes. A frame that is malformed stays so when the text is cut, and one that is well formed ends before the cut, with a byte to spare.
use Prim.Native.Nat.{ℕ, zero, suc, ◌+◌, ◌-◌, ◌*◌, ◌^◌, ◌≤◌, ◌<◌}
use mathlib.Core.Path.{◌≡◌, refl, sym, ap, ◌∙◌}
use mathlib.Core.Bool.{Bool, true, false≢true}
use mathlib.Core.Option.{Option, none, some}
use mathlib.Core.List.{List, [], ◌∷◌, ◌++◌, append_assoc}
use native.Mathlib.Nat.{zero-mul, suc-mul}
use native.Mathlib.Omega.{arith}
use borrow.Author.Tests.{leb-true}
use lib.ListN.{length, take, drop, replicate, take-append-drop}
use lib.Seq.{take-append-add}
use Rattle.laws.specs.Lists.{at}
use Rattle.laws.proofs.Tests.{both}
use Rattle.rules.specs.Image.{frame, head_fits, program_fits, part_fits, Expected, expected, layout, with_frame, read_frame, read_frames, read_text, program_on, collect_program}
use Rattle.rules.proofs.FirstFrame.{Limited, limited, program_limited}
use Rattle.rules.proofs.Frames.{length_frame}
use Rattle.promises.proofs.ImageDigits.{frame_read, read_framed}
use Rattle.printing.specs.Printed.{longest}
use Rattle.printing.proofs.Lengths.{pages_room}

-- ---- a frame of a text that is cut

module _ (kind : ℕ) (fits : List ℕ → Bool) (k : ℕ) (bs : List ℕ) where
  cut_none : read_frame kind fits bs ≡ none → read_frame kind fits (take k bs) ≡ none
  cut_none h = go (read_frame kind fits (take k bs)) refl
    where
      go : (o : Option (List ℕ × List ℕ)) → read_frame kind fits (take k bs) ≡ o → read_frame kind fits (take k bs) ≡ none
      go none q = q
      go (some t) q =
          let g = read_framed kind fits (take k bs) t.0 t.1 q in
          let b : bs ≡ frame kind t.0 ++ (t.1 ++ drop k bs) =
          sym (take-append-drop k bs) ∙ ap (λ x. x ++ drop k bs) g.text ∙ append_assoc (frame kind t.0) t.1 (drop k bs) in
          let r : read_frame kind fits bs ≡ some (t.0, t.1 ++ drop k bs) =
          ap (read_frame kind fits) b ∙ frame_read kind fits t.0 (t.1 ++ drop k bs) g.kinds g.words g.passes in
          absurd (false≢true cc)

  cut_some : (ws rest : List ℕ) → read_frame kind fits bs ≡ some (ws, rest) → 7 + 8 * length ws ≤ k
      → read_frame kind fits (take k bs) ≡ some (ws, take (k - (7 + 8 * length ws)) rest)
  cut_some ws rest h b =
      let g = read_framed kind fits bs ws rest h in
      let l = length_frame kind ws in
      let e : k ≡ length (frame kind ws) + (k - (7 + 8 * length ws)) = omega arith in
      let c : take k bs ≡ frame kind ws ++ take (k - (7 + 8 * length ws)) rest =
      ap (take k) g.text ∙ ap (λ x. take x (frame kind ws ++ rest)) e ∙ take-append-add (frame kind ws) rest (k - (7 + 8 * length ws)) in
      ap (read_frame kind fits) c ∙ frame_read kind fits ws (take (k - (7 + 8 * length ws)) rest) g.kinds g.words g.passes

-- ---- the frames behind the first

-- how many bytes the frames can have
unfoldable room : List Expected → ℕ
room [] = zero
room (e ∷ es) = 7 + 8 * e.most + room es

part_long : (most : ℕ) (ws : List ℕ) → part_fits most ws ≡ true → length ws ≤ most
unfolding part_fits
part_long most ws f = leb-true _ _ (both f).0

frames_cut : (es : List Expected) (line k : ℕ) (bs : List ℕ) → room es < k → read_frames line es (take k bs) ≡ read_frames line es bs
unfolding room read_frames
frames_cut [] line zero bs b = absurd (omega arith)
frames_cut [] line (suc k) [] b = refl
frames_cut [] line (suc k) (x ∷ bs) b = refl
frames_cut (e ∷ es) line k bs b = go (read_frame e.kind (part_fits e.most) bs) refl (λ m rest. frames_cut es (suc line) m rest)
  where
    go : (o : Option (List ℕ × List ℕ)) → read_frame e.kind (part_fits e.most) bs ≡ o
        → ((m : ℕ) (rest : List ℕ) → room es < m → read_frames (suc line) es (take m rest) ≡ read_frames (suc line) es rest)
        → read_frames line (e ∷ es) (take k bs) ≡ read_frames line (e ∷ es) bs
    go none q r = rw (read_frames, cut_none e.kind (part_fits e.most) k bs q, q)
    go (some t) q r =
        let g = read_framed e.kind (part_fits e.most) bs t.0 t.1 q in
        let l = part_long e.most t.0 g.passes in
        let c = cut_some e.kind (part_fits e.most) k bs t.0 t.1 q (omega arith) in
        rw (read_frames, c, q) (ap (with_frame t.0) (r (k - (7 + 8 * length t.0)) t.1 (omega arith)))

-- ---- how long they can be behind a first frame that the program takes

room_pages : (m most : ℕ) → room (replicate m (expected 5 most)) ≡ 7 * m + 8 * (m * most)
unfolding room
room_pages zero most = let z = zero-mul most in omega arith
room_pages (suc m) most = let a = room_pages m most in let b = suc-mul m most in omega arith

room_layout : (head : List ℕ) → Limited head → at head 1 * 2 ^ at head 0 ≤ 4096 → at head 7 ≤ 1024 → 71 + room (layout head) ≤ longest
unfolding room layout
room_layout head l heap consts =
    let m : ℕ = at head 1 in
    let n : ℕ = at head 0 in
    let a = room_pages m (2 ^ n) in
    let b = pages_room n m l.low heap in
    let r = l.roots in
    let g = l.regions in
    omega arith

-- ---- the whole text

pub enough : (text : List ℕ) → collect_program (take (suc longest) text) ≡ collect_program text
unfolding collect_program read_text
enough text = go (read_frame 1 program_fits text) refl
  where
    cut : List ℕ
    cut = take (suc longest) text

    go : (o : Option (List ℕ × List ℕ)) → read_frame 1 program_fits text ≡ o → collect_program cut ≡ collect_program text
    go none q = rw (collect_program, cut_none 1 program_fits (suc longest) text q, q)
    go (some t) q =
        let g = read_framed 1 program_fits text t.0 t.1 q in
        let (f, p, k) = program_limited t.0 g.passes in
        let w = limited t.0 f in
        let e = w.eight in
        let l = room_layout t.0 w p k in
        let h : read_frame 1 head_fits text ≡ some (t.0, t.1) = ap (read_frame 1 head_fits) g.text ∙ frame_read 1 head_fits t.0 t.1 g.kinds g.words f in
        let hc = cut_some 1 head_fits (suc longest) text t.0 t.1 h (omega arith) in
        let pc = cut_some 1 program_fits (suc longest) text t.0 t.1 q (omega arith) in
        let r = frames_cut (layout t.0) 2 (suc longest - (7 + 8 * length t.0)) t.1 (omega arith) in
        let s : read_text cut ≡ read_text text = rw (read_text, hc, h) (ap (with_frame t.0) r) in
        rw (collect_program, pc, q) (ap program_on s)
