-- The pages of the regions from Q on become from-space, and those of the regions below Q stay as they are. The heap stays laid out, since a
-- layout of Q regions says nothing of the others' pages.
use Prim.Native.Nat.{ℕ, ◌≤◌, ◌<◌}
use native.Mathlib.Omega.{arith}
use native.Mathlib.Decide.{dec_lt}
use mathlib.Core.Path.{◌≡◌, refl, sym, ap, ◌∙◌}
use mathlib.Core.Logic.{◌≢◌}
use mathlib.Core.Bool.{true, false}
use mathlib.Core.List.{List}
use lib.Dec.{ltb}
use borrow.Author.Tests.{lt-ltb, le-ltb}
use Rattle.rules.specs.Pages.{Run}
use Rattle.facts.proofs.Laid.{Owner, old, spare, beyond, mine, old≢spare, old≢mine, Layout}

abbrev pub aged : ℕ → Owner → Owner
aged Q old = old
aged Q spare = spare
aged Q beyond = beyond
aged Q (mine i) = elim (ltb i Q) [ true ↦ mine i | false ↦ old ]

module _ (Q : ℕ) where
  pub aged_below : (i : ℕ) → i < Q → aged Q (mine i) ≡ mine i
  aged_below i b = rw (lt-ltb i Q b, aged)

  pub aged_from : (i : ℕ) → Q ≤ i → aged Q (mine i) ≡ old
  aged_from i b = rw (le-ltb i Q b, aged)

  -- what is not from-space was the same before
  pub aged_back : (o p : Owner) → p ≢ old → aged Q o ≡ p → o ≡ p
  aged_back old p ne e = e
  aged_back spare p ne e = e
  aged_back beyond p ne e = e
  aged_back (mine i) p ne e = go (dec_lt i Q)
    where
      go : Dec (i < Q) → mine i ≡ p
      go (yes b) = sym (aged_below i b) ∙ e
      go (no f) = absurd (ne (sym e ∙ aged_from i (omega arith)))

  -- a page that is a region's still is one of a region below Q
  pub aged_mine : (o : Owner) (i : ℕ) → aged Q o ≡ mine i → (o ≡ mine i) × (i < Q)
  aged_mine o i e = let q : o ≡ mine i = aged_back o (mine i) (λ q. old≢mine q refl) e in (q, go q (dec_lt i Q))
    where
      go : o ≡ mine i → Dec (i < Q) → i < Q
      go q (yes b) = b
      go q (no f) = old≢mine (aged_from i (omega arith)) (sym (ap (aged Q) q) ∙ e)

  -- the chains of the regions below Q are told by `pages'`
  pub aged_laid : {n N R : ℕ} {own : ℕ → Owner} {fin : ℕ → ℕ} {pages : ℕ → List ℕ} {free : List ℕ} {r : Run} → Layout n N R own fin pages free r → Q ≤ R
      → (pages' : ℕ → List ℕ) → ((i : ℕ) → i < Q → pages' i ≡ pages i) → Layout n N Q (λ k. aged Q (own k)) fin pages' free r
  aged_laid {own = own} L few pages' same =
      record {
        size = L.size;
        big = L.big;
        rows = let a = L.rows in omega arith;
        known = λ k ne. L.known k (λ q. ne (ap (aged Q) q));
        free_own = λ k m. ap (aged Q) (L.free_own k m);
        free_once = L.free_once;
        free_links = L.free_links;
        free_last_lem = L.free_last_lem;
        free_count = L.free_count;
        free_clean = λ k o. L.free_clean k (aged_back (own k) spare (λ q. old≢spare q refl) o);
        mine_own = λ i k b m. ap (aged Q) (L.mine_own i k (omega arith) (rw (same i b) at m)) ∙ aged_below i b;
        mine_once = λ i b. rw (same i b) (L.mine_once i (omega arith));
        mine_links = λ i b. rw (same i b) (L.mine_links i (omega arith));
        mine_body = λ i k o. L.mine_body i k (aged_mine (own k) i o).0;
        mine_top = λ i b. rw (same i b) (L.mine_top i (omega arith));
      }
