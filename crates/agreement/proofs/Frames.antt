-- What keeps the matching: words of both heaps, or of table and notes, changed alike. A word that changes in both is the same in both after it,
-- and the rest of the matching does not speak of it.
use Prim.Native.Nat.{ℕ, ◌+◌, ◌-◌, ◌*◌, ◌^◌, ◌≤◌, ◌<◌}
use native.Mathlib.Nat.{add-zero}
use native.Mathlib.Omega.{arith}
use mathlib.Core.Path.{◌≡◌, refl, sym, ap, ◌∙◌}
use mathlib.Core.Logic.{◌≢◌}
use mathlib.Core.List.{List, Memᴰ}
use lib.ListN.{length, set, length-set}
use lib.Seq.{get_or-set_same, get_or-set_other}
use Rattle.laws.specs.Lists.{at}
use Rattle.laws.proofs.Lists.{set_keeps, one_part, begins_none, second_none}
use Rattle.rules.specs.Memory.{Store, link, end_of, top_of, status_of}
use Rattle.rules.specs.Pages.{Scan, Run, with_heap, with_table, with_stack}
use Rattle.rules.proofs.Steps.{OnPage, steps_le}
use Rattle.facts.proofs.Laid.{Owner, old, old_mine_apart}
use Rattle.facts.proofs.Sound.{Sound, descriptor_fits}
use Rattle.motion.specs.Leaves.{Desk, desk, notes_length, entry, depth}
use Rattle.agreement.proofs.Matching.{Noted, bare, above, Plain, Alike}

-- ---- the scan stack

pub noted_below : {t t' : List ℕ} {ts : List Scan} → Noted t ts → ((x : ℕ) → 256 ≤ x → x < entry (length ts) → at t' x ≡ at t x) → Noted t' ts
noted_below bare same = bare
noted_below (above {ts = ts} e f rest) same =
    above (same (entry (length ts)) (omega arith) (omega arith) ∙ e) (same (entry (length ts) + 1) (omega arith) (omega arith) ∙ f)
    (noted_below rest (λ x p q. same x p (omega arith)))

pub noted_same : {t t' : List ℕ} {ts : List Scan} → Noted t ts → length ts ≤ 64 → ((x : ℕ) → 256 ≤ x → x < 384 → at t' x ≡ at t x) → Noted t' ts
noted_same m few same = noted_below m (λ x p q. same x p (omega arith))

-- ---- a word set in a list

-- a word set to what another list has there
pub set_as : (g h : List ℕ) (x v y : ℕ) → x < length h → v ≡ at g x → (y ≢ x → at h y ≡ at g y) → at (set h x v) y ≡ at g y
set_as g h x v y inside is same = set_keeps (λ w. w ≡ at g y) h x v y inside (λ e. is ∙ ap (at g) (sym e)) same

-- a word set in both
pub set_alike : (g h : List ℕ) (x v y : ℕ) → x < length g → x < length h → (y ≢ x → at g y ≡ at h y) → at (set g x v) y ≡ at (set h x v) y
set_alike g h x v y a b same = set_as (set h x v) g x v y a (sym (get_or-set_same h x v 0 b)) (λ ne. same ne ∙ sym (get_or-set_other h x y v 0 ne))

module _ {s : Store} (S : Sound s) (own : ℕ → Owner) where
  abbrev P : ℕ
  P = 2 ^ s.ctl.n

  -- a link is none
  pub link_plain : (k : ℕ) → Plain s own (k * P)
  link_plain k l j o e = second_none P k l (descriptor_fits S) (sym e)

  -- nor is a word behind a page's descriptor
  pub body_plain : {x : ℕ} (k : ℕ) → k * P + 2 ≤ x → x < k * P + P → Plain s own x
  body_plain {x} k lo hi l j o e = begins_none P k l (x - 1) (omega arith) (omega arith) (omega arith)

  -- nor is a value's header
  pub value_plain : {h : List ℕ} {k a l : ℕ} → OnPage s.ctl.n h k a l → Plain s own a
  value_plain {k = k} v = let hi = v.stands.ends in body_plain k (steps_le v.steps) (omega arith)

  -- nor one in an old page
  pub old_plain : {x : ℕ} (k : ℕ) → own k ≡ old → k * P ≤ x → x < k * P + P → Plain s own x
  old_plain {x} k own_k lo hi l j o e =
      let b = descriptor_fits S in
      one_part P l k x (λ q. old_mine_apart own own_k o (sym q)) (omega arith) (omega arith) lo hi

module _ {s : Store} {S : Sound s} {own : ℕ → Owner} {free : List ℕ} {r : Run} {d : Desk} (M : Alike s S own free r d) where
  pub heap_on : (h h' : List ℕ) → length h' ≡ length h → ((x : ℕ) → Plain s own x → at h' x ≡ at h x)
      → ((k : ℕ) → Memᴰ k M.took → at h' (k * 2 ^ s.ctl.n + 1) ≡ at d.heap (k * 2 ^ s.ctl.n + 1)) → Alike s S own free (with_heap r h) (desk h' d.notes)
  heap_on h h' len words kept =
      record {
        heap_length = len;
        notes_length_lem = M.notes_length_lem;
        words = words;
        took = M.took;
        front = M.front;
        owned = M.owned;
        kept_link = λ k m. kept k m ∙ M.kept_link k m;
        rows = M.rows;
        free_first_lem = M.free_first_lem;
        taken_count = M.taken_count;
        free_last_lem = M.free_last_lem;
        given_none = M.given_none;
        shallow = M.shallow;
        deep = M.deep;
        noted = M.noted;
      }

  -- the links are the same
  pub link_same : (k : ℕ) → at d.heap (k * 2 ^ s.ctl.n) ≡ link s.ctl.n r.heap k
  unfolding link
  link_same k = M.words (k * 2 ^ s.ctl.n) (link_plain S own k)

  not_origin : (x : ℕ) → Plain s own x → (k : ℕ) → Memᴰ k M.took → k * 2 ^ s.ctl.n + 1 ≢ x
  not_origin x plain k m e = let t = (M.owned k).0 m in plain k t.0 t.1 (sym e)

  -- one word of both
  pub word_on : (x v : ℕ) → x < length r.heap → Plain s own x → Alike s S own free (with_heap r (set r.heap x v)) (desk (set d.heap x v) d.notes)
  word_on x v inside plain =
      let len = M.heap_length in
      heap_on (set r.heap x v) (set d.heap x v) (length-set d.heap x v ∙ len ∙ sym (length-set r.heap x v))
      (λ y p. set_alike d.heap r.heap x v y (omega arith) inside (λ ne. M.words y p))
      (λ k m. get_or-set_other d.heap x (k * 2 ^ s.ctl.n + 1) v 0 (not_origin x plain k m))

  -- one word of the plain heap, which the other has already
  pub word_has : (x v : ℕ) → x < length r.heap → at d.heap x ≡ v → Alike s S own free (with_heap r (set r.heap x v)) d
  word_has x v inside is =
      heap_on (set r.heap x v) d.heap (M.heap_length ∙ sym (length-set r.heap x v))
      (λ y p. sym (set_as d.heap r.heap x v y inside (sym is) (λ ne. sym (M.words y p)))) (λ k m. refl)

  -- ---- the notes

  -- rows as in a table, entries as in a stack; what the words behind the depth say stays
  pub notes_on : (t : List ℕ) (ts : List Scan) (t' : List ℕ) → length t' ≡ notes_length
      → ((j c : ℕ) → j < s.ctl.regions → c < 4 → at t' (4 * j + c) ≡ at t (4 * j + c)) → length ts ≤ 64 → at t' depth ≡ length ts → Noted t' ts
      → ((x : ℕ) → depth < x → at t' x ≡ at d.notes x) → Alike s S own free (with_stack (with_table r t) ts) (desk d.heap t')
  notes_on t ts t' len rows shallow deep noted else =
      record {
        heap_length = M.heap_length;
        notes_length_lem = len;
        words = M.words;
        took = M.took;
        front = M.front;
        owned = M.owned;
        kept_link = M.kept_link;
        rows = rows;
        free_first_lem = else _ (omega arith) ∙ M.free_first_lem;
        taken_count = else _ (omega arith) ∙ M.taken_count;
        free_last_lem = else _ (omega arith) ∙ M.free_last_lem;
        given_none = else _ (omega arith) ∙ M.given_none;
        shallow = shallow;
        deep = deep;
        noted = noted;
      }

  -- other rows
  pub rows_on : (t t' : List ℕ) → length t' ≡ length d.notes → ((j c : ℕ) → j < s.ctl.regions → c < 4 → at t' (4 * j + c) ≡ at t (4 * j + c))
      → ((x : ℕ) → 256 ≤ x → at t' x ≡ at d.notes x) → Alike s S own free (with_table r t) (desk d.heap t')
  rows_on t t' len rows else =
      notes_on t r.stack t' (len ∙ M.notes_length_lem) rows M.shallow (else _ (omega arith) ∙ M.deep) (noted_same M.noted M.shallow (λ x p q. else x p)) (λ x p. else x (omega arith))

  -- one word of both
  pub row_on : (y v : ℕ) → y < 4 * s.ctl.regions → y < length r.table → Alike s S own free (with_table r (set r.table y v)) (desk d.heap (set d.notes y v))
  row_on y v inside wide =
      let R = S.regions in
      let len = M.notes_length_lem in
      rows_on (set r.table y v) (set d.notes y v) (length-set d.notes y v)
      (λ j c j_r c4. set_alike d.notes r.table y v (4 * j + c) (omega arith) wide (λ ne. M.rows j c j_r c4))
      (λ x p. get_or-set_other d.notes y x v 0 (omega arith))

  module _ (j : ℕ) (j_r : j < s.ctl.regions) where
    pub end_same : end_of d.notes j ≡ end_of r.table j
    end_same = ap (at d.notes) (sym (add-zero (4 * j))) ∙ M.rows j 0 j_r (omega arith) ∙ ap (at r.table) (add-zero (4 * j))

    pub top_same : top_of d.notes j ≡ top_of r.table j
    top_same = M.rows j 2 j_r (omega arith)

    pub status_same : status_of d.notes j ≡ status_of r.table j
    status_same = M.rows j 3 j_r (omega arith)
