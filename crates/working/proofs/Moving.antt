-- A value moved: its words, still as they were, stand at the end of its region, and its old header is the forward. No other word of an old
-- page changes, and no word of a region's values does.
use Prim.Native.Nat.{ℕ, suc, ◌+◌, ◌*◌, ◌^◌, ◌≤◌, ◌<◌, zero-le}
use native.Mathlib.Nat.{add-zero}
use native.Mathlib.Omega.{arith}
use native.Mathlib.Decide.{ℕ_discrete}
use mathlib.Core.Path.{◌≡◌, refl, sym, ap, ◌∙◌}
use mathlib.Core.Logic.{◌≢◌, ◌⊎◌, inl, inr}
use mathlib.Core.List.{List, Memᴰ}
use lib.ListN.{length, set, take, drop}
use lib.Seq.{get_or-set_same, get_or-set_other}
use Rattle.rules.specs.Words.{head_of, length_by}
use Rattle.rules.specs.Memory.{Store, end_of, top_of}
use Rattle.laws.specs.Lists.{at, put}
use Rattle.rules.specs.Pages.{Run}
use Rattle.laws.proofs.Lists.{one_part, word_in}
use Rattle.rules.proofs.Steps.{OnPage, steps_le, on_same, apart}
use Rattle.facts.proofs.Laid.{old≢spare, old≢beyond, spare≢mine, mine≢beyond, upd, upd_same, upd_other, Owner, old, mine, Layout, Value, page_in, words_in, old_mine_apart, last_own, last_low}
use Rattle.facts.proofs.Copied.{Moved}
use Rattle.working.proofs.Log.{olds, in_olds, Log, Evacuated, copy_on, descriptor_kept}
use Rattle.working.proofs.Placed.{Roomed}
use Rattle.working.proofs.Stored.{stored_long, stored_else, stored_kept, stored_word, stored_value}

-- ---- the value's words are still as they were
module _ {n : ℕ} {s : Store} {kept : ℕ → Type 0} {own : ℕ → Owner} {fin : ℕ → ℕ} {h : List ℕ} {log : List Moved} {done : ℕ → ℕ} (G : Log n s kept own fin h log done)
    {f a l : ℕ} (o : own f ≡ old) (v : OnPage n s.heap f a l) (new : Memᴰ a (olds log) → ⊥) where
  pub still : (i : ℕ) → i ≤ l → at h (a + i) ≡ at s.heap (a + i)
  still i b =
      let lo = steps_le v.steps in
      let hi = v.stands.ends in
      G.unmoved f (a + i) o (omega arith) (omega arith) (λ m. go m (apart v.steps v.stands (copy_on (G.copies (in_olds log m).1) f (omega arith) (omega arith)).steps))
    where
      go : Memᴰ (a + i) (olds log) → (a + i ≤ a) ⊎ (a + suc l ≤ a + i) → ⊥
      go m (inl q) = let e : a + i ≡ a = omega arith in new (rw e at m)
      go m (inr q) = omega arith

  pub still_whose : at h (f * 2 ^ n + 1) ≡ at s.heap (f * 2 ^ n + 1)
  still_whose =
      let lo = steps_le v.steps in
      let hi = v.stands.ends in
      descriptor_kept G (omega arith) f (f * 2 ^ n + 1) o (omega arith) (omega arith)

-- ---- one evacuation
module _ {n N R : ℕ} {s : Store} {kept : ℕ → Type 0} {own : ℕ → Owner} {fin : ℕ → ℕ} {pages : ℕ → List ℕ} {free : List ℕ} {r : Run} {log : List Moved} {done : ℕ → ℕ}
    (L : Layout n N R own fin pages free r) (G : Log n s kept own fin r.heap log done)
    {j f a l : ℕ} (j_r : j < R) (o : own f ≡ old) (whose : at s.heap (f * 2 ^ n + 1) ≡ suc j) (v : OnPage n s.heap f a l)
    (new : Memᴰ a (olds log) → ⊥) {r₁ : Run} (M : Roomed n N R own fin pages free r j (suc l) r₁) where
  abbrev ws : List ℕ
  ws = take (suc l) (drop a r.heap)

  word : (i : ℕ) → i ≤ l → at ws i ≡ at s.heap (a + i)
  word i b = word_in r.heap a (suc l) i (omega arith) ∙ still G o v new i b

  pub val : Value ws l
  val = record { head = ap (λ w. length_by (head_of w)) (word 0 zero-le ∙ ap (at s.heap) (add-zero a)) ∙ v.stands.head; size = words_in L (old≢beyond o) v }

  pub fits : top_of r₁.table j + length ws ≤ end_of r₁.table j
  fits = let x = M.fits in let y = val.size in omega arith

  abbrev p : ℕ
  p = (M.laid.mine_top j j_r).page

  abbrev b : ℕ
  b = top_of r₁.table j

  b_hi : b + suc l ≤ p * 2 ^ n + 2 ^ n
  b_hi = let x = fits in let y = val.size in let z = (M.laid.mine_top j j_r).end in omega arith

  abbrev h' : List ℕ
  h' = set (put r₁.heap b ws) a (4 * b)

  -- page f is no page of the region
  far : (k x : ℕ) → k ≢ f → k * 2 ^ n ≤ x → x < k * 2 ^ n + 2 ^ n → x ≢ a
  far k x ne q t e = let y = steps_le v.steps in let z = v.stands.ends in one_part (2 ^ n) k f x ne q t (omega arith) (omega arith)

  f≢p : f ≢ p
  f≢p = old_mine_apart M.own₁ ((M.old_kept f).0 o) (last_own M.laid j j_r)

  unset : (x : ℕ) → x ≢ a → at h' x ≡ at (put r₁.heap b ws) x
  unset x ne = get_or-set_other (put r₁.heap b ws) a x (4 * b) 0 ne

  own_words : (k x : ℕ) → own k ≡ old → k * 2 ^ n ≤ x → x < k * 2 ^ n + 2 ^ n → Dec (x ≡ k * 2 ^ n) → at r₁.heap x ≡ at r.heap x
  own_words k x q t u (yes e) = rw e (M.old_links k q)
  own_words k x q t u (no ne) =
      M.words k x (λ z. old≢spare q z)
      (λ z. old≢beyond q z) (omega arith) u

  abbrev pub fin' : ℕ → ℕ
  fin' = upd M.fin₁ p (M.fin₁ p + length ws)

  froms : (k i : ℕ) → M.own₁ k ≡ mine i → k ≢ p → (own k ≡ mine i) × (fin' k ≡ fin k)
  froms k i q ne = let o = M.mine_from j_r k i q ne in (o, upd_other M.fin₁ p (M.fin₁ p + length ws) k ne ∙ (M.mine_kept k i o).1)

  mine_words : (k i x : ℕ) → own k ≡ mine i → k * 2 ^ n + 2 ≤ x → x < fin k → at h' x ≡ at r.heap x
  mine_words k i x q t u =
      let top = (L.mine_body i k q).inside in
      let kept = M.mine_kept k i q in
      let same = kept.1 in
      unset x (far k x (λ e. old_mine_apart own o q (sym e)) (omega arith) (omega arith)) ∙ stored_kept M.laid j j_r ws fits k i x kept.0 (omega arith) (omega arith)
      ∙ M.words k x (λ z. spare≢mine z q) (λ z. mine≢beyond q z) (omega arith) (omega arith)

  grown : (k i : ℕ) → own k ≡ mine i → fin k ≤ fin' k
  grown k i q = go (ℕ_discrete k p)
    where
      go : Dec (k ≡ p) → fin k ≤ fin' k
      go (yes e) =
          let y : fin k ≡ M.fin₁ p = sym (M.mine_kept k i q).1 ∙ ap M.fin₁ e in
          let z = upd_same M.fin₁ p (M.fin₁ p + length ws) k e in
          omega arith
      go (no ne) = let y = (M.mine_kept k i q).1 in let z = upd_other M.fin₁ p (M.fin₁ p + length ws) k ne in omega arith

  a_in : a < length (put r₁.heap b ws)
  a_in =
      let x = stored_long M.laid j j_r ws fits in
      let y = page_in L f (old≢beyond o) in
      let z = L.size in
      let w = M.laid.size in
      let u = v.stands.ends in
      omega arith

  -- what it does
  pub evacuated : Evacuated n s own M.own₁ fin fin' pages M.pages₁ r.heap h' j l a b f p
  evacuated =
      let lo = last_low M.laid j j_r in
      let hi = b_hi in
      let eb = (M.laid.mine_top j j_r).top in
      let el = val.size in
      let in_p : (x : ℕ) → p * 2 ^ n ≤ x → x < p * 2 ^ n + 2 ^ n → x ≢ a = λ x q t. far p x (λ e. f≢p (sym e)) q t in
      record {
        old_kept = M.old_kept;
        mine_kept = λ k i q. (M.mine_kept k i q).0;
        mine_from = froms;
        old_words = λ k x q t u ne.
            unset x ne ∙ stored_else M.laid j j_r ws fits k x (old_mine_apart M.own₁ ((M.old_kept k).0 q) (last_own M.laid j j_r)) t u ∙ own_words k x q t u (ℕ_discrete x (k * 2 ^ n));
        mine_words = mine_words;
        grows = grown;
        a_old = o;
        a_whose = whose;
        was = v;
        b_mine = last_own M.laid j j_r;
        now = on_same (λ x q t. sym (unset x (in_p x (omega arith) (omega arith)))) (stored_value M.laid j j_r ws fits l val);
        b_end = let z = upd_same M.fin₁ p (M.fin₁ p + length ws) p refl in omega arith;
        place = M.place j_r;
        words = λ i q. unset (b + i) (in_p (b + i) (omega arith) (omega arith)) ∙ stored_word M.laid j j_r ws fits i (omega arith) ∙ word i q;
        forward = get_or-set_same (put r₁.heap b ws) a (4 * b) 0 a_in;
      }
