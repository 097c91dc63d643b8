-- `writing::kept` meets its contract: trimming drops what is behind the last word that is not 0, and all where there is none.
use Prim.Native.Nat.{ℕ, zero, suc, ◌+◌, ◌<◌}
use mathlib.Core.Path.{◌≡◌, refl, sym, ap}
use mathlib.Core.List.{List, [], ◌∷◌}
use native.Mathlib.Omega.{arith}
use borrow.Author.Tests.{eq-eqb, ne_eqb}
use lib.ListN.{length, get_or}
use Rattle.rules.specs.Image.{trim}
use Rattle.writing.proofs.kept.Goals as goal

none_stays : (ws : List ℕ) → ((k : ℕ) → k < length ws → get_or ws k 0 ≡ 0) → trim ws ≡ []
unfolding trim
none_stays [] z = refl
none_stays (w ∷ ws) z = rw (trim, none_stays ws (λ k b. z (suc k) (omega arith)), eq-eqb w 0 (z 0 (omega arith)))

last_stays : (ws : List ℕ) (i : ℕ) → i < length ws → (get_or ws i 0 ≡ 0 → ⊥) → ((k : ℕ) → i < k → k < length ws → get_or ws k 0 ≡ 0) → i + 1 ≡ length (trim ws)
unfolding trim
last_stays [] i b n z = absurd (omega arith)
last_stays (w ∷ ws) zero b n z = rw (trim, none_stays ws (λ k l. z (suc k) (omega arith) (omega arith)), ne_eqb w 0 n)
last_stays (w ∷ ws) (suc i) b n z = go (trim ws) refl (last_stays ws i (omega arith) n (λ k l m. z (suc k) (omega arith) (omega arith)))
  where
    go : (ts : List ℕ) → trim ws ≡ ts → i + 1 ≡ length (trim ws) → suc i + 1 ≡ length (trim (w ∷ ws))
    go [] e r = absurd (omega (arith, ap length e))
    go (t ∷ ts) e r = rw (trim, e) (omega (arith, ap length e))

pub returns-in-Some : goal.returns-in-Some
returns-in-Some c = let e = c.in-Some.ensures in last_stays _ _ e.0 e.1 e.2

pub returns-in-None : goal.returns-in-None
returns-in-None c = sym (ap length (none_stays _ c.in-None.ensures))
