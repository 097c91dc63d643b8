-- The text of an image that the program takes is at most 53,084 bytes: each part is written with at most its words, eight digits each, and a
-- heap of 4,096 words has at most 256 pages. So what is printed stands at the front of the lent bytes.
use Prim.Native.Nat.{ℕ, zero, suc, ◌+◌, ◌*◌, ◌^◌, ◌≤◌}
use mathlib.Core.Path.{◌≡◌, sym, ap, ◌∙◌}
use mathlib.Core.List.{List, ◌++◌}
use native.Mathlib.Nat.{suc-mul, mul-le-mul_left, div-mul-le_self, pow-le-pow_right}
use native.Mathlib.Omega.{arith}
use lib.ListN.{length, take, drop, length-append, length-take}
use lib.Seq.{sets, length-sets}
use Rattle.laws.proofs.Writes.{sets_front}
use Rattle.rules.specs.Memory.{Store, page_count, page_words, page_address, row}
use Rattle.rules.specs.Refusals.{Admitted}
use Rattle.rules.specs.Image.{trim, page_frames, image_text}
use Rattle.rules.proofs.Frames.{length_frame, length_trim, image_length}
use Rattle.printing.specs.Printed.{longest, Printed}

-- ---- the longest text

module _ (n : ℕ) (heap : List ℕ) where
  page_short : (k : ℕ) → length (trim (page_words n heap k)) ≤ 2 ^ n
  unfolding page_words
  page_short k =
      let a = length_trim (page_words n heap k) in
      let b = length-take (2 ^ n) (drop (page_address n k) heap) in
      omega arith

  pages_short : (m k : ℕ) → length (page_frames n heap m k) ≤ 7 * m + 8 * (m * 2 ^ n)
  unfolding page_frames
  pages_short zero k = omega arith
  pages_short (suc m) k =
      let a = page_short k in
      let b = length_frame 5 (trim (page_words n heap k)) in
      let c = pages_short m (suc k) in
      let d = suc-mul m (2 ^ n) in
      simp length-append (omega arith)

-- pages of at least 16 words, 4,096 in all
pub pages_room : (n m : ℕ) → 4 ≤ n → m * 2 ^ n ≤ 4096 → 7 * m + 8 * (m * 2 ^ n) ≤ 34560
pages_room n m low few = let b : 2 ^ 4 ≤ 2 ^ n = pow-le-pow_right (omega arith) low in let f = mul-le-mul_left m b in omega arith

pub image_short : (s : Store) → Admitted (length s.heap) (length s.table) (length s.roots) (length s.consts) s.ctl
    → length s.heap ≤ 4096 → length s.consts ≤ 1024 → length (image_text s) ≤ longest
image_short s a h k =
    let n : ℕ = s.ctl.n in
    let m : ℕ = page_count n s.heap in
    let t = length_trim (take (row s.ctl.regions) s.table) in
    let u = length-take (row s.ctl.regions) s.table in
    let r = length_trim s.roots in
    let c = length_trim s.consts in
    let p = pages_short n s.heap m 0 in
    let w = div-mul-le_self (length s.heap) (2 ^ n) in
    let f = pages_room n m a.paged.low (omega arith) in
    let i = image_length s in
    let x = a.regions in
    let y = a.roots in
    omega arith

-- ---- what is printed

pub printed : (text before after : List ℕ) (r : ℕ) → after ≡ sets before 0 text → r ≡ length text → r ≤ length before → Printed text before after r
printed text before after r e q l =
    record {
      bytes = e ∙ sets_front before text (omega arith) ∙ ap (λ k. text ++ drop k before) (sym q);
      count = q;
      fits = let z = length-sets before 0 text in let w = ap length e in omega arith;
    }

pub printed_as : {text text' before after : List ℕ} {r : ℕ} → text ≡ text' → Printed text before after r → Printed text' before after r
printed_as e p = rw (← e) p
