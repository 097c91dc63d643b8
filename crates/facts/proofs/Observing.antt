-- What a caller sees on a heap that passes is what the view has: the tests before a walk or a fetch pass.
use Rattle.std.specs.Prelude.{Ok}
use Rattle.rules.specs.Refusals.{refusing}
use Prim.Native.Nat.{ℕ, ◌<◌}
use mathlib.Core.Path.{◌≡◌, refl, sym, ap, ◌∙◌}
use mathlib.Core.Logic.{◌↔◌}
use mathlib.Core.Bool.{false≢true}
use mathlib.Core.List.{List}
use lib.ListN.{length}
use lib.Dec.{leb}
use native.Mathlib.Omega.{arith}
use borrow.Author.Tests.{lt-leb, leb-false}
use Rattle.laws.specs.Lists.{at}
use Rattle.laws.proofs.Choices.{choices_agree, second_chosen}
use Rattle.rules.specs.Memory.{Store}
use Rattle.rules.specs.Audit.{used_by}
use Rattle.rules.specs.Calls.{look_in, Walked, ends, stops, walk_says, walk, fetch, used_words}
use Rattle.rules.specs.Seen.{seen, read_by, path, reading, read_at, Meet}
use Rattle.rules.proofs.Answered.{same_value}
use Rattle.rules.proofs.Judged.{Passes, passed}
use Rattle.facts.proofs.Alike.{MeetIn, Same, readings}

module _ (s : Store) (p : Passes s) where
  pub walk_is : (i : ℕ) (fs : List ℕ) → walk s i fs ≡ walk_says s.ctl (path (seen s) s.roots i fs)
  unfolding walk path
  walk_is i fs = rw (p.limits, p.common) (choices_agree (λ x y. x ≡ walk_says s.ctl y) (leb (length s.roots) i) refl refl)

  pub fetch_is : (w : ℕ) → fetch s w ≡ look_in s w
  unfolding fetch
  fetch_is w = rw (p.limits, p.common)

  pub used_is : (j : ℕ) → j < s.ctl.regions → used_words s j ≡ Ok (used_by s.ctl.n s.heap s.table j, s.ctl)
  unfolding used_words
  used_is j b = passed s p (λ r. refusing r s.ctl) _ ∙ rw (lt-leb s.ctl.regions j b)

  -- no region, no answer
  pub used_known : (j u : ℕ) → used_words s j ≡ Ok (u, s.ctl) → (j < s.ctl.regions) × (used_by s.ctl.n s.heap s.table j ≡ u)
  unfolding used_words
  used_known j u e =
      let (known, is) = second_chosen (leb s.ctl.regions j) (sym e ∙ passed s p (λ r. refusing r s.ctl) _) (λ z. false≢true cc) in
      let b = leb-false s.ctl.regions j known in
      (omega arith, sym (same_value is))

  reads_says : (x : Walked) → read_at s (walk_says s.ctl x) ≡ read_by (seen s) x
  reads_says (stops r) = refl
  reads_says (ends w) = rw (fetch_is w)

  pub read_is : (i : ℕ) (fs : List ℕ) → read_at s (walk s i fs) ≡ reading (seen s) s.roots i fs
  unfolding reading
  read_is i fs = ap (read_at s) (walk_is i fs) ∙ reads_says (path (seen s) s.roots i fs)

  ends_says : (x : Walked) (w : ℕ) → walk_says s.ctl x ≡ Ok (w, s.ctl) → x ≡ ends w
  ends_says (ends v) w e = ap ends (same_value e)
  ends_says (stops r) w e = absurd (false≢true cc)

  pub meet_is : (i : ℕ) (fs : List ℕ) (j : ℕ) (gs : List ℕ) → Meet s i fs j gs ↔ MeetIn (seen s) s.roots i fs j gs
  meet_is i fs j gs = (
    λ m.
        record {
          word = m.word;
          one = ends_says (path (seen s) s.roots i fs) m.word (sym (walk_is i fs) ∙ m.one);
          other = ends_says (path (seen s) s.roots j gs) m.word (sym (walk_is j gs) ∙ m.other);
          pointer = m.pointer;
        },
    λ m.
        record {
          word = m.word;
          one = walk_is i fs ∙ ap (walk_says s.ctl) m.one;
          other = walk_is j gs ∙ ap (walk_says s.ctl) m.other;
          pointer = m.pointer;
        },
  )

-- on two heaps that pass and whose views are the same up to R, every path reads alike
pub reads_alike : (s s' : Store) → Passes s → Passes s' → (R : ℕ → ℕ → Type 0) → Same (seen s) (seen s') R → length s.roots ≡ length s'.roots
    → ((i : ℕ) → i < length s.roots → R (at s.roots i) (at s'.roots i)) → (i : ℕ) (fs : List ℕ) → read_at s (walk s i fs) ≡ read_at s' (walk s' i fs)
reads_alike s s' p p' R same count rels i fs = read_is s p i fs ∙ readings (seen s) (seen s') R same s.roots s'.roots count rels i fs ∙ sym (read_is s' p' i fs)
