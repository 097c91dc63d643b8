-- What a good pointer names: the value's words, which count for the region of its page and for no other. A constant has no region.
use Prim.Native.Nat.{ℕ, suc, ◌*◌, ◌+◌, ◌≤◌, ◌<◌}
use native.Mathlib.Omega.{arith}
use mathlib.Core.Bool.{true}
use mathlib.Core.Path.{◌≡◌, refl, sym, ap, ◌∙◌}
use mathlib.Core.Logic.{◌≢◌}
use mathlib.Core.List.{List}
use lib.ListN.{length, take, drop}
use borrow.Author.Tests.{eq-eqb, ne_eqb}
use Rattle.laws.specs.Lists.{at}
use Rattle.laws.proofs.Lists.{part_length, word_in}
use Rattle.rules.specs.Memory.{Store, origin}
use Rattle.rules.specs.Words.{in_const, word_of, head_of, is_record, value_at, look}
use Rattle.rules.specs.Calls.{look_in, header_in, fields_in}
use Rattle.rules.specs.Seen.{home_in, seen, words_at}
use Rattle.rules.specs.Refusals.{Paged}
use Rattle.rules.proofs.Pointers.{pointer, words_of, is_number_lem}
use Rattle.facts.proofs.Copied.{Plain}
use Rattle.facts.proofs.Sound.{InHeap, InConst, GoodConst, Constants}
use Rattle.facts.proofs.Goods.{page_ends, heap_in, const_in}
use Rattle.facts.proofs.Inside.{page_at}

-- a value's header is the first of its words
pub words_head : (h : List ℕ) (a l : ℕ) → header_in (take (suc l) (drop a h)) ≡ at h a
words_head h a l = word_in h a (suc l) 0 (omega arith) ∙ ap (at h) (omega arith)

-- a value of l words behind its header at a, as it is seen: its length, its header and its fields
pub record SeenAt (ws : List ℕ) (a l : ℕ) (v : List ℕ) : Type 0 where
  pub long : length v ≡ suc l
  pub head : header_in v ≡ at ws a
  pub field : (f : ℕ) → f < l → at v (suc f) ≡ at ws (a + suc f)

pub seen_at : {ws v : List ℕ} {a l : ℕ} → a + suc l ≤ length ws → v ≡ take (suc l) (drop a ws) → SeenAt ws a l v
seen_at {ws} {v} {a} {l} inside is =
    record {
      long = ap length is ∙ part_length ws a (suc l) inside;
      head = ap header_in is ∙ words_head ws a l;
      field = λ f b. ap (λ x. at x (suc f)) is ∙ word_in ws a (suc l) (suc f) (omega arith);
    }

-- ---- the heap

module _ (s : Store) (p : Paged s.ctl.n (length s.heap)) (a : ℕ) (g : InHeap s.ctl.n s.ctl.regions s.heap a) where
  pub heap_seen : look_in s (4 * a) ≡ take (suc g.len) (drop a s.heap)
  unfolding look value_at
  heap_seen = rw (pointer a, look, heap_in s.ctl.n s.ctl.regions s.heap p a g, words_of (head_of (at s.heap a)) g.len g.value.stands.head)

  pub heap_home : home_in s (4 * a) ≡ suc g.region
  unfolding home_in origin
  heap_home = rw (pointer a, page_at g.value) g.whose

  pub words_at_home : words_at (seen s) g.region (4 * a) ≡ suc g.len
  unfolding words_at
  words_at_home =
      let e = g.value.stands.ends in
      let i = page_ends s.ctl.n s.heap p g.page g.there in
      rw (heap_home, eq-eqb (suc g.region) (suc g.region) refl, heap_seen) (part_length s.heap a (suc g.len) (omega arith))

  pub words_elsewhere : (i : ℕ) → i ≢ g.region → words_at (seen s) i (4 * a) ≡ 0
  unfolding words_at
  words_elsewhere i ne = rw (heap_home, ne_eqb (suc g.region) (suc i) (λ (q : suc g.region ≡ suc i). ne (omega arith)))

-- ---- the constants

module _ (s : Store) (v a : ℕ) (e : word_of v ≡ in_const a) where
  pub const_seen : (p : InConst s.consts a) → look_in s v ≡ take (suc p.len) (drop a s.consts)
  unfolding look value_at
  const_seen p = rw (e, look, const_in s.consts a p, words_of (head_of (at s.consts a)) p.len p.stands.head)

  -- the fields of a constant record are numbers, or constants
  pub const_fields : Constants s.consts → InConst s.consts a → is_record (header_in (look_in s v)) ≡ true → (f : ℕ) → f < fields_in (look_in s v) → GoodConst s.consts (at (look_in s v) (suc f))
  const_fields K p kind f b =
      let seen = seen_at p.stands.ends (const_seen p) in
      let long = seen.long in
      rw (seen.field f (omega arith)) (K.fields a p.len f p.steps p.stands (ap is_record (sym seen.head) ∙ kind) (omega arith))

  pub const_home : home_in s v ≡ 0
  unfolding home_in
  const_home = rw (e, home_in)

-- a number is no value and has no home
pub seen_plain : (s : Store) → Plain (seen s)
seen_plain s = record { no_value = λ v e. unfold look in (rw (is_number_lem v e, look)); no_home = λ v e. unfold home_in in (rw (is_number_lem v e, home_in)) }
