-- The text of frames: lengths of what is written, its turn laws, and trimming. By recursion on the digits and on the words.
use Rattle.std.specs.Prelude.{Ok}
use Prim.Native.Nat.{ℕ, zero, suc, ◌+◌, ◌-◌, ◌*◌, ◌/◌, ◌%◌, ◌^◌, ◌≤◌, ◌<◌}
use mathlib.Core.Path.{◌≡◌, refl, sym, ap, ◌∙◌}
use mathlib.Core.Bool.{Bool, true, false}
use mathlib.Core.List.{List, [], ◌∷◌, ◌++◌}
use native.Mathlib.Nat.{pow-succ', sub-zero}
use native.Mathlib.Numerals.{add-one}
use native.Mathlib.Omega.{arith}
use borrow.Author.Tests.{lt-ltb, le-ltb, eqb-true}
use lib.Dec.{eqb}
use lib.ListN.{length, take, drop, get_or, set, length-append, length-take, drop_of_length-le}
use lib.Seq.{sets, drop-cons}
use Rattle.laws.specs.Lists.{at, padded}
use Rattle.laws.proofs.Writes.{sets_append, sets_next, sets_front}
use Rattle.rules.specs.declared.Control.{Control}
use Rattle.rules.specs.declared.Refusal.{Refusal}
use Rattle.rules.specs.Memory.{Store, lent, page_count, page_words, row}
use Rattle.rules.specs.Image.{digit_of, hex, hex_words, frame, trim, trimmed, head_words, page_frames, image_text, written, refused_text, write_text}

-- ---- digits and words

pub length_hex : (m w : ℕ) → length (hex m w) ≡ m
unfolding hex
length_hex zero w = refl
length_hex (suc m) w = ap suc (length_hex m w)

-- 16 ^ m, as a shift by 4 m
pub sixteen : (m : ℕ) → 16 ^ m ≡ 2 ^ (4 * m)
sixteen zero = refl
sixteen (suc m) =
    let q : 4 * suc m ≡ suc (suc (suc (suc (4 * m)))) = omega arith in
    let e : 16 ^ m ≡ 2 ^ (4 * m) = sixteen m in
    rw q
    (let a = pow-succ' 2 (suc (suc (suc (4 * m)))) in
    let b = pow-succ' 2 (suc (suc (4 * m))) in
    let c = pow-succ' 2 (suc (4 * m)) in
    let d = pow-succ' 2 (4 * m) in
    let f = pow-succ' 16 m in
    omega arith)

-- the next digit, by a shift
pub hex_next : (m w : ℕ) → hex (suc m) w ≡ digit_of (w / 2 ^ (4 * m) % 16) ∷ hex m w
unfolding hex
hex_next m w = rw (← sixteen m)

pub length_words : (ws : List ℕ) → length (hex_words ws) ≡ 8 * length ws
unfolding hex_words
length_words [] = refl
length_words (w ∷ ws) = length-append (hex 8 w) (hex_words ws) ∙ (let a = length_hex 8 w in let b = length_words ws in omega arith)

pub length_frame : (kind : ℕ) (ws : List ℕ) → length (frame kind ws) ≡ 7 + 8 * length ws
unfolding frame
length_frame kind ws =
    simp length-append
    (let a = length_hex 2 kind in let b = length_hex 4 (length ws) in let c = length_words ws in omega arith)

-- ---- trimming

-- a word before others goes where it is 0 and none of them is left, and else stays before what is left of them
trim_by : (P : List ℕ → Type 0) (w : ℕ) (ws : List ℕ) → (w ≡ 0 → trim ws ≡ [] → P []) → ((trimmed (trim ws) ≡ true → trimmed (w ∷ trim ws) ≡ true) → P (w ∷ trim ws)) → P (trim (w ∷ ws))
unfolding trim trimmed
trim_by P w ws f g = go (trim ws) refl (eqb w 0) refl
  where
    go : (ts : List ℕ) → trim ws ≡ ts → (b : Bool) → eqb w 0 ≡ b → P (trim (w ∷ ws))
    go [] e true z = rw (trim, e, z) (f (eqb-true w 0 z) e)
    go [] e false z = rw (trim, e, z) (rw e at (g (λ r. rw (e, trimmed, z))))
    go (t ∷ ts) e b z = rw (trim, e) (rw e at (g (λ r. rw e (rw e at r))))

-- what is left are first words
pub trim_take : (ws : List ℕ) → take (length (trim ws)) ws ≡ trim ws
unfolding trim
trim_take [] = refl
trim_take (w ∷ ws) = trim_by (λ ts. take (length ts) (w ∷ ws) ≡ ts) w ws (λ z e. refl) (λ f. ap (λ l. w ∷ l) (trim_take ws))

pub trim_part : (ws : List ℕ) (m : ℕ) → m ≡ length (trim ws) → take (m - 0) ws ≡ trim ws
trim_part ws m e = rw (sub-zero, e) (trim_take ws)

pub length_trim : (ws : List ℕ) → length (trim ws) ≤ length ws
length_trim ws = let q : length (take (length (trim ws)) ws) ≡ length (trim ws) = ap length (trim_take ws) in omega (arith, length-take (length (trim ws)) ws)

pub trim_trimmed : (ws : List ℕ) → trimmed (trim ws) ≡ true
unfolding trim trimmed
trim_trimmed [] = refl
trim_trimmed (w ∷ ws) = trim_by (λ ts. trimmed ts ≡ true) w ws (λ z e. refl) (λ f. f (trim_trimmed ws))

-- the zeros come back
pub padded_trim : (ws : List ℕ) → padded (length ws) (trim ws) ≡ ws
unfolding trim padded
padded_trim [] = refl
padded_trim (w ∷ ws) =
    trim_by (λ ts. padded (suc (length ws)) ts ≡ w ∷ ws) w ws
    (λ z e. let q : 0 ≡ w = sym z in rw (← q) (ap (λ l. 0 ∷ l) (rw e at (padded_trim ws)))) (λ f. ap (λ l. w ∷ l) (padded_trim ws))

-- ---- writing by turns

module _ (bytes : List ℕ) (i m w : ℕ) where
  pub digits_turn : (d : ℕ) → 0 < m → d ≡ digit_of (w / 2 ^ (4 * (m - 1)) % 16) → sets bytes i (hex m w) ≡ sets (set bytes i d) (i + 1) (hex (m - 1) w)
  digits_turn d l e =
      let q : m ≡ suc (m - 1) = omega arith in
      ap (λ k. sets bytes i (hex k w)) q
      ∙ ap (sets bytes i) (hex_next (m - 1) w)
      ∙ sets_next bytes i _ (hex (m - 1) w)
      ∙ ap (λ x. sets (set bytes i x) (i + 1) (hex (m - 1) w)) (sym e)

  pub digits_end : m ≤ 0 → sets bytes i (hex m w) ≡ bytes
  unfolding hex
  digits_end b = let q : m ≡ 0 = omega arith in rw q

module _ (bytes : List ℕ) (i : ℕ) (ws : List ℕ) (j : ℕ) where
  pub words_turn : (b : List ℕ) → j < length ws → b ≡ sets bytes i (hex 8 (get_or ws j 0)) → sets bytes i (hex_words (drop j ws)) ≡ sets b (i + 8) (hex_words (drop (j + 1) ws))
  unfolding hex_words
  words_turn b l e =
      ap (λ xs. sets bytes i (hex_words xs)) (drop-cons ws j 0 l)
      ∙ sets_append bytes i (hex 8 (get_or ws j 0)) (hex_words (drop (suc j) ws))
      ∙ ap (λ k. sets (sets bytes i (hex 8 (get_or ws j 0))) (i + k) (hex_words (drop (suc j) ws))) (length_hex 8 (get_or ws j 0))
      ∙ rw (e, add-one j)

  pub words_end : length ws ≤ j → sets bytes i (hex_words (drop j ws)) ≡ bytes
  unfolding hex_words
  words_end b = rw (drop_of_length-le ws b)

-- a frame, piece by piece
pub frame_sets : (b₀ b₁ b₂ b₃ : List ℕ) (at kind : ℕ) (ws : List ℕ) → b₁ ≡ sets b₀ at (hex 2 kind) → b₂ ≡ sets b₁ (at + 2) (hex 4 (length ws))
    → b₃ ≡ sets b₂ (at + 6) (hex_words ws) → set b₃ (at + 6 + 8 * length ws) 10 ≡ sets b₀ at (frame kind ws)
unfolding frame
frame_sets b₀ b₁ b₂ b₃ at kind ws e₁ e₂ e₃ =
    let k : List ℕ = hex 2 kind in
    let m : List ℕ = hex 4 (length ws) in
    let p : at + length k ≡ at + 2 = let a = length_hex 2 kind in omega arith in
    let q : at + length (k ++ m) ≡ at + 6 = simp length-append (let a = length_hex 2 kind in let b = length_hex 4 (length ws) in omega arith) in
    let r : at + length (k ++ m ++ hex_words ws) ≡ at + 6 + 8 * length ws =
    simp length-append (let a = length_hex 2 kind in let b = length_hex 4 (length ws) in let c = length_words ws in omega arith) in
    sym
    (sets_append b₀ at (k ++ m ++ hex_words ws) (10 ∷ [])
    ∙ rw (r, sets_append b₀ at (k ++ m) (hex_words ws), q, sets_append b₀ at k m, p, e₃, e₂, e₁))

-- the pages' frames, page by page
module _ (n : ℕ) (heap : List ℕ) (m k : ℕ) where
  pub pages_text : 0 < m → page_frames n heap m k ≡ frame 5 (trim (page_words n heap k)) ++ page_frames n heap (m - 1) (k + 1)
  unfolding page_frames
  pages_text l = let q : m ≡ suc (m - 1) = omega arith in ap (λ x. page_frames n heap x k) q ∙ rw (add-one k)

  pub pages_text_end : m ≤ 0 → page_frames n heap m k ≡ []
  unfolding page_frames
  pages_text_end b = let q : m ≡ 0 = omega arith in rw q

  pub pages_text_length : 0 < m → length (page_frames n heap m k) ≡ 7 + 8 * length (trim (page_words n heap k)) + length (page_frames n heap (m - 1) (k + 1))
  pages_text_length l = ap length (pages_text l) ∙ length-append (frame 5 (trim (page_words n heap k))) _ ∙ rw (length_frame 5 (trim (page_words n heap k)))

  module _ (page : List ℕ) (l : 0 < m) (e : page ≡ page_words n heap k) where
    pub pages_turn : (bytes b : List ℕ) (i j : ℕ) → b ≡ sets bytes i (frame 5 (trim page)) → j ≡ i + (7 + 8 * length (trim page))
        → sets bytes i (page_frames n heap m k) ≡ sets b j (page_frames n heap (m - 1) (k + 1))
    pages_turn bytes b i j p q =
        ap (sets bytes i) (pages_text l)
        ∙ sets_append bytes i (frame 5 (trim (page_words n heap k))) _
        ∙ rw (length_frame 5 (trim (page_words n heap k)), p, q, e)

    -- how much room the page and the others take
    pub pages_room : 7 + 8 * length (trim page) + length (page_frames n heap (m - 1) (k + 1)) ≡ length (page_frames n heap m k)
    pages_room = rw e (sym (pages_text_length l))

-- a part that is a page: its frame's length
pub page_text : (page ws : List ℕ) (r : ℕ) → page ≡ ws → length page ≤ 256 → r ≡ 7 + 8 * length (trim page) → (r ≡ 7 + 8 * length (trim ws)) × (r ≤ 2055)
page_text page ws r e b q = (q ∙ ap (λ x. 7 + 8 * length (trim x)) e, (let l = length_trim page in omega arith))

-- ---- the whole text

-- four frames and the pages', one after the other
module _ (s : Store) where
  abbrev head : List ℕ
  head = frame 1 (head_words s)

  abbrev rows : List ℕ
  rows = trim (take (row s.ctl.regions) s.table)

  abbrev all_pages : List ℕ
  all_pages = page_frames s.ctl.n s.heap (page_count s.ctl.n s.heap) 0

  pub image_length : length (image_text s)
      ≡ 71 + (7 + 8 * length (trim (take (row s.ctl.regions) s.table))) + (7 + 8 * length (trim s.roots))
      + (7 + 8 * length (trim s.consts)) + length (page_frames s.ctl.n s.heap (page_count s.ctl.n s.heap) 0)
  unfolding image_text
  image_length =
      simp length-append
      (let a = length_frame 1 (head_words s) in
      let b = length_frame 2 rows in
      let c = length_frame 3 (trim s.roots) in
      let d = length_frame 4 (trim s.consts) in
      omega arith)

  pub image_sets : (b₀ b₁ b₂ b₃ b₄ b₅ t : List ℕ) (N i₂ i₃ i₄ : ℕ) → N ≡ page_count s.ctl.n s.heap → t ≡ take (row s.ctl.regions) s.table
      → b₁ ≡ sets b₀ 0 (frame 1 (s.ctl.n ∷ N ∷ s.ctl.regions ∷ s.ctl.first ∷ s.ctl.last ∷ s.ctl.count ∷ length s.roots ∷ length s.consts ∷ []))
      → (b₂ ≡ sets b₁ 71 (frame 2 (trim t))) × (i₂ ≡ 71 + (7 + 8 * length (trim t)))
      → (b₃ ≡ sets b₂ i₂ (frame 3 (trim s.roots))) × (i₃ ≡ i₂ + (7 + 8 * length (trim s.roots)))
      → (b₄ ≡ sets b₃ i₃ (frame 4 (trim s.consts))) × (i₄ ≡ i₃ + (7 + 8 * length (trim s.consts)))
      → b₅ ≡ sets b₄ i₄ (page_frames s.ctl.n s.heap N 0)
      → b₅ ≡ sets b₀ 0 (image_text s)
  unfolding image_text
  image_sets b₀ b₁ b₂ b₃ b₄ b₅ t N i₂ i₃ i₄ e_n et e₁ e₂ e₃ e₄ e₅ =
      let tr : List ℕ = trim s.roots in
      let tk : List ℕ = trim s.consts in
      let q : trim t ≡ rows = ap trim et in
      let a = length_frame 1 (head_words s) in
      let b = length_frame 2 rows in
      let c = length_frame 3 tr in
      let d = length_frame 4 tk in
      let p₁ : 0 + length head ≡ 71 = omega arith in
      let p₂ : 0 + length (head ++ frame 2 rows) ≡ i₂ = simp length-append (omega (arith, e₂.1, ap length q)) in
      let p₃ : 0 + length (head ++ frame 2 rows ++ frame 3 tr) ≡ i₃ = simp length-append (omega (arith, e₂.1, e₃.1, ap length q)) in
      let p₄ : 0 + length (head ++ frame 2 rows ++ frame 3 tr ++ frame 4 tk) ≡ i₄ = simp length-append (omega (arith, e₂.1, e₃.1, e₄.1, ap length q)) in
      e₅
      ∙ rw (e₄.0, e₃.0, e₂.0, e₁, e_n, q)
      (sym
      (sets_append b₀ 0 (head ++ frame 2 rows ++ frame 3 tr ++ frame 4 tk) all_pages
      ∙ rw (p₄, sets_append b₀ 0 (head ++ frame 2 rows ++ frame 3 tr) (frame 4 tk), p₃, sets_append b₀ 0 (head ++ frame 2 rows) (frame 3 tr), p₂, sets_append b₀ 0 head (frame 2 rows), p₁)))

module _ (s : Store) (bytes : List ℕ) (m : ℕ) (e : m ≡ length (image_text s)) where
  -- the text does not fit
  pub text_long : length bytes < m → write_text s bytes (image_text s) ≡ refused_text s bytes Refusal.Limits
  unfolding write_text
  text_long b = rw (← e, lt-ltb (length bytes) m b)

  -- it fits, and was stored from the first byte on
  pub text_done : (b : List ℕ) → m ≤ length bytes → b ≡ sets bytes 0 (image_text s) → write_text s bytes (image_text s) ≡ written (Ok (m, s.ctl)) b
  unfolding write_text
  text_done b l q =
      let f : b ≡ image_text s ++ drop m bytes = q ∙ sets_front bytes (image_text s) (omega arith) ∙ ap (λ k. image_text s ++ drop k bytes) (sym e) in
      rw (← e, le-ltb (length bytes) m l, f)

-- the text's length, over code that lends the rows of the table as a part of it and has N for the number of pages
pub text_length : (h t r k : List ℕ) (c : Control) (N : ℕ) → N ≡ page_count c.n h
    → length (image_text (lent h t r k c))
    ≡ 71 + (7 + 8 * length (trim (take (row c.regions - 0) t))) + (7 + 8 * length (trim r)) + (7 + 8 * length (trim k)) + length (page_frames c.n h N 0)
text_length h t r k c N e = rw (sub-zero (row c.regions), e) (image_length (lent h t r k c))
