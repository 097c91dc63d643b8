-- A store and the frames of its image, there and back: the frames that writing makes fit, and give the store again; and the store that
-- frames give has these frames. Trimming and padding undo one another, and so do cutting a heap into pages and joining them.
use Prim.Native.Nat.{ℕ, zero, suc, ◌+◌, ◌*◌, ◌/◌, ◌^◌, ◌≤◌, ◌<◌}
use mathlib.Core.Path.{◌≡◌, refl, sym, ap, ◌∙◌}
use mathlib.Core.Bool.{Bool, true, false, false≢true}
use mathlib.Core.List.{List, [], ◌∷◌, ◌++◌, append_assoc}
use native.Mathlib.Nat.{zero-mul, mul-div_cancel, suc-mul}
use native.Mathlib.Omega.{arith}
use borrow.Author.Tests.{le-leb, leb-true, not-true}
use lib.Dec.{eqb}
use lib.Pow.{pow_pos}
use lib.ListN.{length, take, drop, replicate, length-append, length-take, drop_of_length-le}
use lib.Seq.{drop-cons, get_or-drop, take-add, drop-drop, take_at, drop_at, take-length}
use Rattle.laws.specs.Lists.{at, padded, zeros}
use Rattle.laws.proofs.Tests.{both}
use Rattle.laws.proofs.Padded.{length_padded}
use Rattle.rules.specs.Memory.{Store, page_count, page_words, row, Small, Words32}
use Rattle.rules.specs.Refusals.{Admitted}
use Rattle.rules.specs.Image.{frame, trim, head_words, page_frames, image_text, trimmed, part_fits, head_fits, Expected, expected, layout, joined, store_of}
use Rattle.rules.proofs.FirstFrame.{limited}
use Rattle.rules.proofs.Limits.{paged_size, whole_pages, two_pages, pages_few}
use Rattle.rules.proofs.Frames.{trim_take, length_trim, trim_trimmed, padded_trim}
use Rattle.promises.specs.Texts.{FrameFits, Fits, WellFormed, frames_text, text_of}
use Rattle.rules.proofs.Chains.{length_page}

-- ---- words of 32 bits

small_nil : Small []
small_nil i = omega arith

small_take : (m : ℕ) (ws : List ℕ) → Small ws → Small (take m ws)
small_take zero ws s i = small_nil i
small_take (suc m) [] s i = small_nil i
small_take (suc m) (w ∷ ws) s zero = s 0
small_take (suc m) (w ∷ ws) s (suc i) = small_take m ws (λ j. s (suc j)) i

small_drop : (m : ℕ) (ws : List ℕ) → Small ws → Small (drop m ws)
small_drop m ws s i = rw (get_or-drop m ws i 0) (s (m + i))

small_trim : (ws : List ℕ) → Small ws → Small (trim ws)
small_trim ws s = rw (← trim_take ws) (small_take (length (trim ws)) ws s)

-- ---- a part

-- the frame of a part of at most `most` words
part_frame : (kind most : ℕ) (ws : List ℕ) → kind < 256 → Small ws → length ws ≤ most → most < 65536 → FrameFits (expected kind most) (trim ws)
unfolding part_fits
part_frame kind most ws k s b c =
    let l = length_trim ws in
    record {
      kind = k;
      words = record { small = small_trim ws s; few = omega arith };
      fits = rw (le-leb (length (trim ws)) most (omega arith), trim_trimmed ws);
    }

-- zeros behind words that keep none go again
trim_none : (m : ℕ) → trim (padded m []) ≡ []
unfolding trim padded
trim_none zero = refl
trim_none (suc m) = rw (trim, trim_none m)

pub trim_padded : (m : ℕ) (ws : List ℕ) → trimmed ws ≡ true → length ws ≤ m → trim (padded m ws) ≡ ws
unfolding trim padded trimmed
trim_padded m [] t b = trim_none m
trim_padded zero (w ∷ ws) t b = absurd (omega arith)
trim_padded (suc m) (w ∷ []) t b = rw (trim, trim_none m, not-true (eqb w 0) (t))
trim_padded (suc m) (w ∷ x ∷ ws) t b = rw (trim, trim_padded m (x ∷ ws) t (omega arith))

-- fewer words of a padded part
take_padded : (r m : ℕ) (ws : List ℕ) → r ≤ m → take r (padded m ws) ≡ padded r ws
unfolding padded
take_padded zero m ws b = refl
take_padded (suc r) zero ws b = absurd (omega arith)
take_padded (suc r) (suc m) [] b = ap (λ l. 0 ∷ l) (take_padded r m [] (omega arith))
take_padded (suc r) (suc m) (w ∷ ws) b = ap (λ l. w ∷ l) (take_padded r m ws (omega arith))

-- zeros at the end do not count
trim_zeros : (r : ℕ) (ws : List ℕ) → zeros (drop r ws) ≡ true → trim (take r ws) ≡ trim ws
unfolding trim zeros
trim_zeros zero [] z = refl
trim_zeros zero (w ∷ ws) z = go (eqb w 0) refl (trim_zeros zero ws)
  where
    go : (b : Bool) → eqb w 0 ≡ b → (zeros ws ≡ true → trim [] ≡ trim ws) → trim [] ≡ trim (w ∷ ws)
    go true e r = let t : [] ≡ trim ws = r (sym (rw (zeros, e)) ∙ z) in rw (trim, ← t, e)
    go false e r = absurd (false≢true (sym (rw (zeros, e)) ∙ z))
trim_zeros (suc r) [] z = refl
trim_zeros (suc r) (w ∷ ws) z = rw (trim, trim_zeros r ws z)

-- ---- pages

-- the words of the m pages from page k on, trimmed
unfoldable pub pages_of : ℕ → List ℕ → ℕ → ℕ → List (List ℕ)
pages_of n heap zero k = []
pages_of n heap (suc m) k = trim (page_words n heap k) ∷ pages_of n heap m (suc k)

pages_fit : (n : ℕ) (heap : List ℕ) (m k : ℕ) → Small heap → 2 ^ n < 65536 → Fits (replicate m (expected 5 (2 ^ n))) (pages_of n heap m k)
unfolding pages_of page_words
pages_fit n heap zero k s b = tt
pages_fit n heap (suc m) k s b = (
  part_frame 5 (2 ^ n) (page_words n heap k) (omega arith) (small_take (2 ^ n) (drop (k * 2 ^ n) heap) (small_drop (k * 2 ^ n) heap s)) (simp length-take (omega arith)) b,
  pages_fit n heap m (suc k) s b,
)

pages_text : (n : ℕ) (heap : List ℕ) (m k : ℕ) → page_frames n heap m k ≡ frames_text (replicate m (expected 5 (2 ^ n))) (pages_of n heap m k)
unfolding pages_of page_frames frames_text
pages_text n heap zero k = refl
pages_text n heap (suc m) k = ap (λ t. frame 5 (trim (page_words n heap k)) ++ t) (pages_text n heap m (suc k))

-- the pages one after the other are the heap again
pages_joined : (n : ℕ) (heap : List ℕ) (m k : ℕ) → k * 2 ^ n + m * 2 ^ n ≤ length heap → joined (2 ^ n) (pages_of n heap m k) ≡ take (m * 2 ^ n) (drop (k * 2 ^ n) heap)
unfolding pages_of joined page_words
pages_joined n heap zero k b = rw zero-mul
pages_joined n heap (suc m) k b =
    let P : ℕ = 2 ^ n in
    let e : suc m * P ≡ P + m * P = (let q = suc-mul m P in omega arith) in
    let f : suc k * P ≡ k * P + P = suc-mul k P in
    let l = length_page n heap k (omega arith) in
    let h : padded P (trim (page_words n heap k)) ≡ page_words n heap k = ap (λ x. padded x (trim (page_words n heap k))) (sym l) ∙ padded_trim (page_words n heap k) in
    ap (λ t. padded P (trim (page_words n heap k)) ++ t) (pages_joined n heap m (suc k) (omega arith))
    ∙ rw (h, f, ← drop-drop P (k * P) heap, e) (sym (take-add P (m * P) (drop (k * P) heap)))

-- ---- the frames of a store

pub frames_of : Store → List (List ℕ)
frames_of s =
    head_words s
    ∷ trim (take (row s.ctl.regions) s.table)
    ∷ trim s.roots
    ∷ trim s.consts
    ∷ pages_of s.ctl.n s.heap (page_count s.ctl.n s.heap) 0

pub image_text_lem : (s : Store) → image_text s ≡ text_of (frames_of s)
unfolding image_text text_of frames_text layout frames_of
image_text_lem s = rw (pages_text s.ctl.n s.heap (page_count s.ctl.n s.heap) 0) (simp append_assoc)

-- what writing has tested
module _ (s : Store) (a : Admitted (length s.heap) (length s.table) (length s.roots) (length s.consts) s.ctl) where
  abbrev pages : ℕ
  pages = page_count s.ctl.n s.heap

  fit_head : head_fits (head_words s) ≡ true
  unfolding head_fits
  fit_head =
      let g = a.paged in
      let w = whole_pages s.ctl.n (length s.heap) g in
      let t = two_pages s.ctl.n (length s.heap) g a.two in
      let z = g.size in
      rw (
        le-leb 4 s.ctl.n g.low,
        le-leb s.ctl.n 8 g.high,
        le-leb 2 pages t,
        le-leb (pages * 2 ^ s.ctl.n) 65536 (omega arith),
        le-leb s.ctl.regions 64 a.regions,
        le-leb (length s.roots) 1024 a.roots,
        le-leb (length s.consts) 65535 a.consts,
      )

  small_head : Words32 s → Small (head_words s)
  small_head w zero = w.n
  small_head w (suc zero) = let d = pages_few s.ctl.n (length s.heap) pages a.paged refl in omega arith
  small_head w (suc (suc zero)) = w.regions
  small_head w (suc (suc (suc zero))) = w.first
  small_head w (suc (suc (suc (suc zero)))) = w.last
  small_head w (suc (suc (suc (suc (suc zero))))) = w.count
  small_head w (suc (suc (suc (suc (suc (suc zero)))))) = let r = a.roots in omega arith
  small_head w (suc (suc (suc (suc (suc (suc (suc zero))))))) = let k = a.consts in omega arith
  small_head w (suc (suc (suc (suc (suc (suc (suc (suc i)))))))) = small_nil i

  pub frames_fit : Words32 s → WellFormed (frames_of s)
  unfolding layout frames_of
  frames_fit w =
      let p = paged_size s.ctl.n (length s.heap) a.paged in
      let p1 = p.1 in
      let g = a.regions in
      let r = a.roots in
      let k = a.consts in (
        record { words = record { small = small_head w; few = omega arith }; fits = fit_head },
        (
          part_frame 2 (row s.ctl.regions) _ (omega arith) (small_take (row s.ctl.regions) s.table w.table) (simp length-take (omega arith)) (omega arith),
          (
            part_frame 3 (length s.roots) s.roots (omega arith) w.roots (omega arith) (omega arith),
            (
              part_frame 4 (length s.consts) s.consts (omega arith) w.consts (omega arith) (omega arith),
              pages_fit s.ctl.n s.heap pages 0 w.heap (omega arith),
            ),
          ),
        ),
      )

  pub store_back : zeros (drop (row s.ctl.regions) s.table) ≡ true → store_of (frames_of s) ≡ s
  unfolding frames_of
  store_back z =
      let w = whole_pages s.ctl.n (length s.heap) a.paged in
      let q = zero-mul (2 ^ s.ctl.n) in
      let h : joined (2 ^ s.ctl.n) (pages_of s.ctl.n s.heap pages 0) ≡ s.heap =
      pages_joined s.ctl.n s.heap pages 0 (omega arith) ∙ rw (q, w) (take-length s.heap) in
      let t : padded 256 (trim (take (row s.ctl.regions) s.table)) ≡ s.table =
      ap (padded 256) (trim_zeros (row s.ctl.regions) s.table z) ∙ ap (λ m. padded m (trim s.table)) (sym a.table) ∙ padded_trim s.table in
      rw (h, t, padded_trim s.roots, padded_trim s.consts)

-- ---- the store of frames

-- eight words are their words
eight_words : (ws : List ℕ) → length ws ≡ 8 → at ws 0 ∷ at ws 1 ∷ at ws 2 ∷ at ws 3 ∷ at ws 4 ∷ at ws 5 ∷ at ws 6 ∷ at ws 7 ∷ [] ≡ ws
eight_words ws e =
    let d : (i : ℕ) → i < 8 → drop i ws ≡ at ws i ∷ drop (suc i) ws = λ i b. drop-cons ws i 0 (omega arith) in
    let z : drop 8 ws ≡ [] = drop_of_length-le ws {i = 8} (omega arith) in
    sym (d 0 (omega arith) ∙ rw (d 1 (omega arith), d 2 (omega arith), d 3 (omega arith), d 4 (omega arith), d 5 (omega arith), d 6 (omega arith), d 7 (omega arith), z))

-- a part's frame again, from the part padded
padded_back : (e : Expected) (ws : List ℕ) → FrameFits e ws → trim (padded e.most ws) ≡ ws
unfolding part_fits
padded_back e ws f =
    let p = both f.fits in
    trim_padded e.most ws p.1 (leb-true _ _ p.0)

joined_length : (P m : ℕ) (e : Expected) (ps : List (List ℕ)) → Fits (replicate m e) ps → length (joined P ps) ≡ m * P
unfolding joined
joined_length P zero e [] f = sym (zero-mul P)
joined_length P zero e (p ∷ ps) f = absurd f
joined_length P (suc m) e [] f = absurd f
joined_length P (suc m) e (p ∷ ps) f =
    length-append (padded P p) (joined P ps) ∙ (let a = length_padded P p in let b = joined_length P m e ps f.1 in let c = suc-mul m P in omega arith)

-- a heap of pages joined has these pages
joined_pages : (n m k : ℕ) (heap : List ℕ) (ps : List (List ℕ)) → Fits (replicate m (expected 5 (2 ^ n))) ps → drop (k * 2 ^ n) heap ≡ joined (2 ^ n) ps → pages_of n heap m k ≡ ps
unfolding joined pages_of page_words
joined_pages n zero k heap [] f e = refl
joined_pages n zero k heap (p ∷ ps) f e = absurd f
joined_pages n (suc m) k heap [] f e = absurd f
joined_pages n (suc m) k heap (p ∷ ps) f e =
    let P : ℕ = 2 ^ n in
    let w : page_words n heap k ≡ padded P p = ap (take P) e ∙ take_at (padded P p) (joined P ps) P (length_padded P p) in
    let d : drop (suc k * P) heap ≡ joined P ps =
    ap (λ x. drop x heap) (suc-mul k P) ∙ sym (drop-drop P (k * P) heap) ∙ ap (drop P) e ∙ drop_at (padded P p) (joined P ps) P (length_padded P p) in
    rw (w, padded_back (expected 5 P) p f.0, joined_pages n m (suc k) heap ps f.1 d)

frames_back : (fs : List (List ℕ)) → WellFormed fs → frames_of (store_of fs) ≡ fs
unfolding layout frames_of
frames_back [] f = absurd f
frames_back (head ∷ []) f = absurd f.1
frames_back (head ∷ t ∷ []) f = absurd f.1.1
frames_back (head ∷ t ∷ r ∷ []) f = absurd f.1.1.1
frames_back (head ∷ t ∷ r ∷ k ∷ ps) f =
    let l = limited head f.0.fits in
    let P : ℕ = 2 ^ at head 0 in
    let g = l.regions in
    let j : length (joined P ps) ≡ at head 1 * P = joined_length P (at head 1) (expected 5 P) ps f.1.1.1.1 in
    let N : length (joined P ps) / P ≡ at head 1 = ap (λ x. x / P) j ∙ mul-div_cancel (at head 1) (pow_pos (at head 0)) in
    let rs : trim (take (row (at head 2)) (padded 256 t)) ≡ t =
    ap trim (take_padded (row (at head 2)) 256 t (omega arith)) ∙ padded_back (expected 2 (row (at head 2))) t f.1.0 in
    let z : drop (0 * P) (joined P ps) ≡ joined P ps = ap (λ x. drop x (joined P ps)) (zero-mul P) in
    rw (
      N,
      length_padded (at head 6) r,
      length_padded (at head 7) k,
      eight_words head l.eight,
      rs,
      padded_back (expected 3 (at head 6)) r f.1.1.0,
      padded_back (expected 4 (at head 7)) k f.1.1.1.0,
      joined_pages (at head 0) (at head 1) 0 (joined P ps) ps f.1.1.1.1 z,
    )

pub text_back : (fs : List (List ℕ)) → WellFormed fs → image_text (store_of fs) ≡ text_of fs
text_back fs f = image_text_lem (store_of fs) ∙ ap text_of (frames_back fs f)
