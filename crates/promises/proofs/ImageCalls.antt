-- What a done answer of writing and of reading an image says: which tests were passed, and what is left. By cases on the tests, in their
-- order.
use Rattle.std.specs.Prelude.{Result, Ok, Err}
use Prim.Native.Nat.{ℕ}
use mathlib.Core.Path.{◌≡◌, refl, ap, ◌∙◌}
use mathlib.Core.Bool.{true, not, false≢true}
use mathlib.Core.List.{List}
use borrow.Author.Tests.{eq-eqb, not-false}
use lib.ListN.{length, take, drop}
use lib.Seq.{take_at}
use Rattle.laws.specs.Lists.{zeros}
use Rattle.laws.proofs.Choices.{choice_keeps}
use Rattle.rules.specs.declared.Control.{Control}
use Rattle.rules.specs.declared.Refusal.{Refusal}
use Rattle.rules.specs.Memory.{Store, row}
use Rattle.rules.specs.Refusals.{Outcome, outcome, Admitted}
use Rattle.rules.specs.Image.{Written, image_text, write_text, write_image, Frames, frames, malformed, read_text, store_of, same_lengths, read_store, read_on, read_image}
use Rattle.rules.specs.Left.{left_opened}
use Rattle.rules.proofs.Answered.{same_value}
use Rattle.rules.proofs.Limits.{admits}
use Rattle.promises.proofs.Ordered.{lawful_keeps}
use Rattle.promises.proofs.Outcomes.{write_lawful}

-- ---- writing

-- what a writing of s that ended with o has tested and left
pub record Wrote (s : Store) (o : Written) (m : ℕ) : Type 0 where
  pub admitted : Admitted (length s.heap) (length s.table) (length s.roots) (length s.consts) s.ctl
  pub cleared : zeros (drop (row s.ctl.regions) s.table) ≡ true
  pub text : take m o.bytes ≡ image_text s

pub wrote : (s : Store) (bytes : List ℕ) (m : ℕ) (c : Control) → (write_image s bytes).answer ≡ Ok (m, c) → Wrote s (write_image s bytes) m
unfolding write_image write_text
wrote s bytes m c =
    lawful_keeps (λ (o : Written). o.answer ≡ Ok (m, c) → Wrote s o m) (write_lawful s bytes) (λ r e. absurd (false≢true cc))
    (λ p q r f.
    rw (p, q, r, f)
    (λ d.
    let n : length (image_text s) ≡ m = same_value d in
    record {
      admitted = admits (length s.heap) (length s.table) (length s.roots) (length s.consts) s.ctl (not-false _ p) (not-false _ q);
      cleared = not-false _ r;
      text = take_at (image_text s) (drop (length (image_text s)) bytes) m n;
    }))

-- ---- reading

-- what holds of the three ways in which reading ends holds of reading
module _ (text heap table roots consts : List ℕ) where
  read_keeps : (P : Outcome (Result Control Refusal) → Type 0) → ((l : ℕ) → read_text text ≡ malformed l → P (outcome (Err (Refusal.Malformed l)) heap table roots consts))
      → P (outcome (Err Refusal.Limits) heap table roots consts)
      → ((fs : List (List ℕ)) → read_text text ≡ frames fs → P (outcome (Ok (store_of fs).ctl) (store_of fs).heap (store_of fs).table (store_of fs).roots (store_of fs).consts))
      → P (read_image text heap table roots consts)
  unfolding read_image read_store
  read_keeps P faulty other done = go (read_text text) refl
    where
      go : (f : Frames) → read_text text ≡ f → P (read_on f heap table roots consts)
      go (frames fs) p = choice_keeps P (not (same_lengths (store_of fs) heap table roots consts)) _ _ (λ e. other) (λ e. done fs p)
      go (malformed l) p = faulty l p

  -- what a reading that ended with o has read and left
  pub record Opens (o : Outcome (Result Control Refusal)) (c : Control) : Type 0 where
    pub words : List (List ℕ)
    pub reads : read_text text ≡ frames words
    pub leaves : left_opened o c ≡ store_of words

  pub opens : (c : Control) → (read_image text heap table roots consts).answer ≡ Ok c → Opens (read_image text heap table roots consts) c
  opens c =
      read_keeps (λ o. o.answer ≡ Ok c → Opens o c) (λ l p e. absurd (false≢true cc)) (λ e. absurd (false≢true cc))
      (λ fs p e. let k : (store_of fs).ctl ≡ c = cc in record { words = fs; reads = p; leaves = rw (← k) })

  -- a fault is answered with its line, and with nothing else
  pub faults : (l : ℕ) → read_text text ≡ malformed l → (read_image text heap table roots consts).answer ≡ Err (Refusal.Malformed l)
  unfolding read_image
  faults l e = rw e

  pub faulted : (l : ℕ) → (read_image text heap table roots consts).answer ≡ Err (Refusal.Malformed l) → read_text text ≡ malformed l
  faulted l =
      read_keeps (λ o. o.answer ≡ Err (Refusal.Malformed l) → read_text text ≡ malformed l) (λ m p e. let q : m ≡ l = cc in p ∙ ap malformed q)
      (λ e. absurd (false≢true cc)) (λ fs p e. absurd (false≢true cc))

-- lent parts of the right lengths are filled
module _ (s : Store) (heap table roots consts : List ℕ) (h : length heap ≡ length s.heap) (t : length table ≡ 256) (r : length roots ≡ length s.roots)
    (k : length consts ≡ length s.consts) where
  store_fills : read_store s heap table roots consts ≡ outcome (Ok s.ctl) s.heap s.table s.roots s.consts
  unfolding read_store same_lengths
  store_fills =
      rw (eq-eqb (length heap) (length s.heap) h, eq-eqb (length table) 256 t, eq-eqb (length roots) (length s.roots) r, eq-eqb (length consts) (length s.consts) k)

  pub fills : (text : List ℕ) (fs : List (List ℕ)) → read_text text ≡ frames fs → store_of fs ≡ s
      → read_image text heap table roots consts ≡ outcome (Ok s.ctl) s.heap s.table s.roots s.consts
  unfolding read_image
  fills text fs p q = rw p (ap (λ x. read_store x heap table roots consts) q ∙ store_fills)
