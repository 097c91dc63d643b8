-- The ways of an assignment after the first tests, as the code takes them: each is what `assign_by` says, whose tests are the same in the
-- same order. g, d and b are what the code's tests of the target, its header and the word answered.
use Rattle.std.specs.Prelude.{Ok}
use Prim.Native.Nat.{ℕ, ◌+◌, ◌-◌, ◌/◌, ◌≤◌, ◌<◌}
use mathlib.Core.Path.{◌≡◌}
use mathlib.Core.Bool.{Bool, true, false}
use mathlib.Core.List.{List}
use native.Mathlib.Numerals.{add-one}
use native.Mathlib.Omega.{arith}
use borrow.Author.Tests.{le-leb, lt-leb}
use lib.ListN.{length, set}
use Rattle.laws.specs.Lists.{at}
use Rattle.laws.proofs.Turned.{told_true}
use Rattle.rules.specs.declared.Control.{Control}
use Rattle.rules.specs.declared.Refusal.{Refusal}
use Rattle.rules.specs.Calls.{assign_at, assign_by}
use Rattle.rules.specs.Memory.{lent}
use Rattle.rules.specs.Refusals.{Paged, outcome, refused}
use Rattle.rules.specs.Words.{number, in_heap, in_const, word_of, is_record, good_heap, good_const, good_in}
use Rattle.rules.proofs.Headers.{fit_of}
use Rattle.rules.proofs.Looks.{good_fits}

-- the header of a good target, and what follows it, lie inside the heap
pub record Lies (h : List ℕ) (a : ℕ) : Type 0 where
  pub header : a < length h
  pub value : a + 1 + at h a / 8 ≤ length h

pub lies : (n R : ℕ) (h : List ℕ) (a : ℕ) {g : Bool} → Paged n (length h) → g ≡ good_heap n R h a → g ≡ true → Lies h a
lies n R h a {g} p e t =
    let f = good_fits n R h a p (told_true e t) in
    let header = f.0 in
    record { header = f.0; value = omega (arith, (fit_of (at h a) (length h - (a + 1)) f.1).1) }

module _ (h t r k : List ℕ) (c : Control) (w i x : ℕ) where
  pub to_number : word_of w ≡ number → refused (lent h t r k c) Refusal.NoFields ≡ assign_by (lent h t r k c) (word_of w) i x
  unfolding assign_by
  to_number is = rw is

  module _ (a : ℕ) where
    module _ (is : word_of w ≡ in_const a) {g : Bool} (e : g ≡ good_const k a) where
      pub to_no_const : g ≡ false → refused (lent h t r k c) Refusal.NotGood ≡ assign_by (lent h t r k c) (word_of w) i x
      unfolding assign_by
      to_no_const f = rw (is, ← e, f)

      pub to_const : g ≡ true → refused (lent h t r k c) Refusal.Constant ≡ assign_by (lent h t r k c) (word_of w) i x
      unfolding assign_by
      to_const f = rw (is, ← e, f)

    module _ (is : word_of w ≡ in_heap a) {g : Bool} (e : g ≡ good_heap c.n c.regions h a) where
      pub to_no_heap : g ≡ false → refused (lent h t r k c) Refusal.NotGood ≡ assign_by (lent h t r k c) (word_of w) i x
      unfolding assign_by
      to_no_heap f = rw (is, ← e, f)

      module _ (good : g ≡ true) {d : Bool} (e' : d ≡ is_record (at h a)) where
        pub to_raw : d ≡ false → refused (lent h t r k c) Refusal.NoFields ≡ assign_by (lent h t r k c) (word_of w) i x
        unfolding assign_by assign_at
        to_raw f = rw (is, ← e, good, ← e', f)

        module _ (rec : d ≡ true) where
          pub to_no_field : at h a / 8 ≤ i → refused (lent h t r k c) Refusal.NoSuch ≡ assign_by (lent h t r k c) (word_of w) i x
          unfolding assign_by assign_at
          to_no_field l = rw (is, ← e, good, ← e', rec, le-leb (at h a / 8) i l)

          module _ (field : i < at h a / 8) {b : Bool} (e'' : b ≡ good_in c.n c.regions h k x) where
            pub no_word : b ≡ false → refused (lent h t r k c) Refusal.NotGood ≡ assign_by (lent h t r k c) (word_of w) i x
            unfolding assign_by assign_at
            no_word f = rw (is, ← e, good, ← e', rec, lt-leb (at h a / 8) i field, ← e'', f)

            pub assigned : (m : ℕ) → m ≡ a + i + 1 → b ≡ true → outcome (Ok c) (set h m x) t r k ≡ assign_by (lent h t r k c) (word_of w) i x
            unfolding assign_by assign_at
            assigned m at_field f = rw (at_field, is, ← e, good, ← e', rec, lt-leb (at h a / 8) i field, ← e'', f, add-one (a + i))
