-- A text that is judged to be well formed: its frames are the words that stand at its places, and the store that they give is what filling
-- leaves. Then what reading an image answers, by the test of the lengths.
use Prim.Native.Nat.{ℕ, zero, suc, ◌*◌, ◌/◌, ◌^◌, ◌≤◌}
use mathlib.Core.Path.{◌≡◌, refl, sym, ap, ◌∙◌}
use mathlib.Core.Bool.{Bool, true, false, false≢true}
use mathlib.Core.List.{List, [], ◌∷◌, ◌++◌}
use native.Mathlib.Nat.{mul-mod_left, mul-div_cancel}
use native.Mathlib.Omega.{arith}
use borrow.Author.Tests.{eqb-true}
use lib.Pow.{pow_pos}
use lib.ListN.{length, drop, get_or, replicate}
use Rattle.std.specs.Prelude.{Result, Ok, Err}
use Rattle.laws.specs.Choice.{◌⇒◌∣◌}
use Rattle.laws.proofs.Padded.{length_padded}
use Rattle.laws.proofs.Tests.{both}
use Rattle.rules.specs.declared.Refusal.{Refusal}
use Rattle.rules.specs.Memory.{Store, lent}
use Rattle.rules.specs.Refusals.{Paged, outcome}
use Rattle.rules.specs.Image.{head_fits, part_fits, Expected, expected, layout, Frames, frames, malformed, with_frame, read_frames, read_text, joined, store_of, same_lengths, read_store, read_image}
use Rattle.rules.proofs.FirstFrame.{Limited, limited}
use Rattle.reading.specs.declared.Head.{Head}
use Rattle.scanning.specs.Places.{words_at, words_of, after_frame, frame_fits}
use Rattle.reading.specs.Parts.{frames_at, rest_of, head_list, head_from, judged_as, part_at, pages_at, control_of, lengths_fit}
use Rattle.reading.proofs.Lines.{rest_with, line_read}
use Rattle.reading.proofs.Heads.{head_fits_lem, on_rest, judged_stop, text_on, judged_on}
use Rattle.reading.proofs.Fills.{pages_at_length}

not_well : {A T : Type 0} (e : Refusal) (t : T) → Err e ≡ Ok t → A
not_well e t q = absurd (false≢true cc)

pub frames_at_lem : (es : List Expected) (line : ℕ) (text : List ℕ) (i : ℕ) → rest_of (read_frames line es (drop i text)) ≡ Ok tt
    → read_frames line es (drop i text) ≡ frames (frames_at es text i)
unfolding read_frames frames_at
frames_at_lem [] line text i w = go (drop i text) w
  where
    go : (bs : List ℕ) → rest_of (read_frames line [] bs) ≡ Ok tt → read_frames line [] bs ≡ frames []
    go [] v = refl
    go (b ∷ bs) v = not_well (Refusal.Malformed line) tt v
frames_at_lem (e ∷ es) line text i w = go (frame_fits e.kind (part_fits e.most) text i) refl (frames_at_lem es (suc line) text (after_frame text i))
  where
    here : (b : Bool) → frame_fits e.kind (part_fits e.most) text i ≡ b
        → read_frames line (e ∷ es) (drop i text) ≡ (b ⇒ with_frame (words_of text i) (read_frames (suc line) es (drop (after_frame text i) text)) ∣ malformed line)
    here b f = line_read e.kind e.most es line text i ∙ ap (λ t. t ⇒ with_frame (words_of text i) (read_frames (suc line) es (drop (after_frame text i) text)) ∣ malformed line) f

    go : (b : Bool) → frame_fits e.kind (part_fits e.most) text i ≡ b
        → (rest_of (read_frames (suc line) es (drop (after_frame text i) text)) ≡ Ok tt → read_frames (suc line) es (drop (after_frame text i) text) ≡ frames (frames_at es text (after_frame text i)))
        → read_frames line (e ∷ es) (drop i text) ≡ frames (words_of text i ∷ frames_at es text (after_frame text i))
    go true f r =
        let v : rest_of (read_frames (suc line) es (drop (after_frame text i) text)) ≡ Ok tt =
        sym (ap rest_of (here true f) ∙ rest_with (words_of text i) (read_frames (suc line) es (drop (after_frame text i) text))) ∙ w in
        here true f ∙ ap (with_frame (words_of text i)) (r v)
    go false f r = not_well (Refusal.Malformed line) tt (sym (ap rest_of (here false f)) ∙ w)

-- ---- a text that is judged well formed

pub record Well (text : List ℕ) (h : Head) : Type 0 where
  pub words : read_text text ≡ frames (head_list h ∷ frames_at (layout (head_list h)) text 71)
  pub limits : Limited (head_list h)
  pub first : h ≡ head_from (words_at 8 text 6)

pub judged_well : (text : List ℕ) (h : Head) → judged_as (read_text text) ≡ Ok h → Well text h
judged_well text h e = go (frame_fits 1 head_fits text 0) refl
  where
    first : Head
    first = head_from (words_at 8 text 6)

    rest : frame_fits 1 head_fits text 0 ≡ true → (r : Result (Unit {0}) Refusal) → rest_of (read_frames 2 (layout (head_list first)) (drop 71 text)) ≡ r → Well text h
    rest f (Ok u) q =
        let j : Ok first ≡ Ok h = sym (judged_on text first refl f ∙ ap (on_rest first) q) ∙ e in
        let s : first ≡ h = cc in
        rw (← s)
        (record {
          words = text_on text first refl f ∙ ap (with_frame (head_list first)) (frames_at_lem (layout (head_list first)) 2 text 71 q);
          limits = limited (head_list first) (head_fits_lem text first refl f);
          first = refl;
        })
    rest f (Err r) q = not_well r h (sym (judged_on text first refl f ∙ ap (on_rest first) q) ∙ e)

    go : (b : Bool) → frame_fits 1 head_fits text 0 ≡ b → Well text h
    go true f = rest f (rest_of (read_frames 2 (layout (head_list first)) (drop 71 text))) refl
    go false f = not_well (Refusal.Malformed 1) h (sym (judged_stop text f) ∙ e)

-- ---- the lengths as facts

pub record Fit (h : Head) (H T R K : ℕ) : Type 0 where
  pub heap : H ≡ h.pages * 2 ^ h.n
  pub table : T ≡ 256
  pub roots : R ≡ h.roots
  pub consts : K ≡ h.consts

pub fit : (h : Head) (H T R K : ℕ) → lengths_fit h H T R K ≡ true → Fit h H T R K
unfolding lengths_fit
fit h H T R K e =
    let (e2, k) = both e in
    let (e1, r) = both e2 in
    let (p, t) = both e1 in
    record { heap = eqb-true _ _ p; table = eqb-true _ _ t; roots = eqb-true _ _ r; consts = eqb-true _ _ k }

pub fit_pages : (h : Head) (H T R K : ℕ) → Limited (head_list h) → Fit h H T R K → Paged h.n H × (h.pages ≡ H / 2 ^ h.n)
fit_pages h H T R K g f = (
  record {
    low = g.low;
    high = g.high;
    size = (let s : h.pages * 2 ^ h.n ≤ 65536 = g.size in let e = f.heap in omega arith);
    whole = rw f.heap (mul-mod_left h.pages (2 ^ h.n));
  },
  sym (ap (λ x. x / 2 ^ h.n) f.heap ∙ mul-div_cancel h.pages (pow_pos h.n)),
)

-- ---- what reading answers

joined_at : (m P : ℕ) (e : Expected) (text : List ℕ) (i : ℕ) → joined P (frames_at (replicate m e) text i) ≡ pages_at m P text i
unfolding joined frames_at pages_at
joined_at zero P e text i = refl
joined_at (suc m) P e text i = ap (λ r. part_at P text i ++ r) (joined_at m P e text (after_frame text i))

module _ (text : List ℕ) (h : Head) (w : Well text h) where
  -- where the frames of roots, constants and pages begin
  abbrev roots_at : ℕ
  roots_at = after_frame text 71

  abbrev consts_at : ℕ
  consts_at = after_frame text roots_at

  abbrev pages_at_lem : ℕ
  pages_at_lem = after_frame text consts_at

  abbrev store_at : Store
  store_at = lent (pages_at h.pages (2 ^ h.n) text pages_at_lem) (part_at 256 text 71) (part_at h.roots text roots_at) (part_at h.consts text consts_at) (control_of h)

  stored : store_of (head_list h ∷ frames_at (layout (head_list h)) text 71) ≡ store_at
  unfolding layout frames_at
  stored = rw (joined_at h.pages (2 ^ h.n) (expected 5 (2 ^ h.n)) text pages_at_lem)

  same : (heap table roots consts : List ℕ) → same_lengths store_at heap table roots consts ≡ lengths_fit h (length heap) (length table) (length roots) (length consts)
  unfolding same_lengths lengths_fit
  same heap table roots consts =
      rw (pages_at_length h.pages (2 ^ h.n) text pages_at_lem, length_padded h.roots (words_of text roots_at), length_padded h.consts (words_of text consts_at))

  pub same_lengths_lem : (heap table roots consts : List ℕ)
      → same_lengths (store_of (head_list h ∷ frames_at (layout (head_list h)) text 71)) heap table roots consts ≡ lengths_fit h (length heap) (length table) (length roots) (length consts)
  same_lengths_lem heap table roots consts = rw stored (same heap table roots consts)

  module _ (heap table roots consts : List ℕ) where
    read_on_lem : read_image text heap table roots consts ≡ read_store store_at heap table roots consts
    unfolding read_image
    read_on_lem = rw (w.words, stored)

    pub read_short : lengths_fit h (length heap) (length table) (length roots) (length consts) ≡ false
        → outcome (Err Refusal.Limits) heap table roots consts ≡ read_image text heap table roots consts
    unfolding read_store
    read_short e = sym (read_on_lem ∙ rw (same heap table roots consts, e))

    read_done : lengths_fit h (length heap) (length table) (length roots) (length consts) ≡ true
        → read_image text heap table roots consts ≡ outcome (Ok (control_of h)) store_at.heap store_at.table store_at.roots store_at.consts
    unfolding read_store
    read_done e = read_on_lem ∙ rw (same heap table roots consts, e)

    pub read_filled : lengths_fit h (length heap) (length table) (length roots) (length consts) ≡ true → (H T R K : List ℕ) (i₂ i₃ i₄ : ℕ)
        → T ≡ part_at (length table) text 71 → i₂ ≡ after_frame text 71 → R ≡ part_at (length roots) text i₂ → i₃ ≡ after_frame text i₂
        → K ≡ part_at (length consts) text i₃ → i₄ ≡ after_frame text i₃ → H ≡ pages_at h.pages (2 ^ h.n) text i₄
        → outcome (Ok (control_of h)) H T R K ≡ read_image text heap table roots consts
    read_filled e H T R K i₂ i₃ i₄ qt q₂ qr q₃ qk q₄ qh =
        let f = fit h (length heap) (length table) (length roots) (length consts) e in
        rw (qh, q₄, qk, q₃, qr, q₂, qt, f.table, f.roots, f.consts) (sym (read_done e))

pub read_malformed : (text heap table roots consts : List ℕ) (e : Refusal) → judged_as (read_text text) ≡ Err e
    → outcome (Err e) heap table roots consts ≡ read_image text heap table roots consts
unfolding read_image
read_malformed text heap table roots consts e j = go (read_text text) refl
  where
    go : (f : Frames) → read_text text ≡ f → outcome (Err e) heap table roots consts ≡ read_image text heap table roots consts
    go (frames fs) q = not_well e (head_from (get_or fs 0 [])) (sym j ∙ ap judged_as q)
    go (malformed l) q =
        let k : Err (Refusal.Malformed l) ≡ Err e = sym (ap judged_as q) ∙ j in
        let s : Refusal.Malformed l ≡ e = cc in
        rw (q, s)
