-- What a finished collection leaves, seen by pointers alone, and what follows: paths, meetings, regions, reach.
-- Whoever copies shows `Copied`; nothing below it knows how. It holds because each word has just one word that stands for it.
use Prim.Native.Nat.{ℕ, ◌<◌}
use native.Mathlib.Omega.{arith}
use mathlib.Core.Path.{◌≡◌, refl, sym, ap, ◌∙◌}
use mathlib.Core.Logic.{◌≢◌, ◌↔◌}
use mathlib.Core.Bool.{Bool, true, false}
use mathlib.Core.List.{List, [], Memᴰ}
use lib.ListN.{length}
use Rattle.laws.specs.Lists.{at}
use Rattle.laws.proofs.Facts.{not_both}
use Rattle.rules.specs.Words.{word_of}
use Rattle.rules.specs.Calls.{is_number}
use Rattle.rules.specs.Seen.{View, Reached}
use Rattle.facts.proofs.Alike.{Alike, Same, reached_like}

-- a value of the pointer old now has the pointer new
pub record Moved : Type 0 where
  pub old : ℕ
  pub new : ℕ

abbrev pub to : ℕ → ℕ → Moved
to v w = record { old = v; new = w }

-- a word before and the word that stands for it after: a number, a pointer that stays, or one that moved
pub data Rel (kept : ℕ → Type 0) (log : List Moved) : ℕ → ℕ → Type 0 where
  num : {v : ℕ} → is_number (word_of v) ≡ true → Rel kept log v v
  stay : {v : ℕ} → kept v → Rel kept log v v
  went : {v w : ℕ} → Memᴰ (to v w) log → Rel kept log v w

-- a number is no value and has no home
pub record Plain (X : View) : Type 0 where
  pub no_value : (v : ℕ) → is_number (word_of v) ≡ true → X.value v ≡ []
  pub no_home : (v : ℕ) → is_number (word_of v) ≡ true → X.home v ≡ 0

-- v before and w after are one value
pub record OneValue (X Y : View) (R : ℕ → ℕ → Type 0) (v w : ℕ) : Type 0 where
  pub before : is_number (word_of v) ≡ false
  pub after : is_number (word_of w) ≡ false
  pub alike : Alike R (X.value v) (Y.value w)
  pub home : X.home v ≡ Y.home w

pub record Copied (X Y : View) (kept : ℕ → Type 0) (log : List Moved) (rx ry : List ℕ) : Type 0 where
  pub plain : Plain X
  pub plain' : Plain Y
  pub count : length rx ≡ length ry
  pub roots : (i : ℕ) → i < length rx → Rel kept log (at rx i) (at ry i)
  pub staying : {v : ℕ} → kept v → OneValue X Y (Rel kept log) v v × (X.home v ≡ 0)
  pub moving : {v w : ℕ} → Memᴰ (to v w) log → OneValue X Y (Rel kept log) v w × (X.home v ≢ 0)
  pub one_new : {v w w' : ℕ} → Memᴰ (to v w) log → Memᴰ (to v w') log → w ≡ w'
  pub one_old : {v v' w : ℕ} → Memᴰ (to v w) log → Memᴰ (to v' w) log → v ≡ v'
  pub live : {v w : ℕ} → Memᴰ (to v w) log → Reached X rx v

module _ (X Y : View) (kept : ℕ → Type 0) (log : List Moved) (rx ry : List ℕ) (c : Copied X Y kept log rx ry) where
  abbrev R : ℕ → ℕ → Type 0
  R = Rel kept log

  same_numbers : (v w : ℕ) → R v w → is_number (word_of v) ≡ is_number (word_of w)
  same_numbers v w (num e) = refl
  same_numbers v w (stay k) = refl
  same_numbers v w (went m) = let s = (c.moving m).0 in s.before ∙ sym s.after

  same_value : (v w : ℕ) → R v w → is_number (word_of v) ≡ true → v ≡ w
  same_value v w (num e) q = refl
  same_value v w (stay k) q = refl
  same_value v w (went m) q = not_both q (c.moving m).0.before

  alike : (v w : ℕ) → R v w → Alike R (X.value v) (Y.value w)
  alike v w (num e) = rw (c.plain.no_value v e, c.plain'.no_value v e) (record { header = refl; size = refl; fields = λ k f b. absurd (omega arith); text = λ k. refl })
  alike v w (stay k) = (c.staying k).0.alike
  alike v w (went m) = (c.moving m).0.alike

  homes : (v w : ℕ) → R v w → X.home v ≡ Y.home w
  homes v w (num e) = c.plain.no_home v e ∙ sym (c.plain'.no_home v e)
  homes v w (stay k) = (c.staying k).0.home
  homes v w (went m) = (c.moving m).0.home

  -- nothing both stays and moves
  apart : {v w : ℕ} → kept v → Memᴰ (to v w) log → ⊥
  apart k m = (c.moving m).1 (c.staying k).1

  -- nothing moves to where a value stays
  aside : {v w : ℕ} → kept v → Memᴰ (to w v) log → ⊥
  aside {v} {w} k m = (c.moving m).1 ((c.moving m).0.home ∙ sym (c.staying k).0.home ∙ (c.staying k).1)

  once_by : {v w v' w' : ℕ} → R v w → R v' w' → (b : Bool) → is_number (word_of v) ≡ b → (v ≡ v') ↔ (w ≡ w')
  once_by {v} {w} {v'} {w'} r r' true n =
      let e = same_value v w r n in (
        λ q. let e' = same_value v' w' r' (ap (λ x. is_number (word_of x)) (sym q) ∙ n) in sym e ∙ q ∙ e',
        λ q. let e' = same_value v' w' r' (same_numbers v' w' r' ∙ ap (λ x. is_number (word_of x)) (sym q) ∙ sym (same_numbers v w r) ∙ n) in e ∙ q ∙ sym e',
      )
  once_by (num n) r' false f = not_both n f
  once_by (stay k) (num n) false f = (λ q. q, λ q. q)
  once_by (stay k) (stay k') false f = (λ q. q, λ q. q)
  once_by (stay k) (went m) false f = (λ q. absurd (apart k (rw (← q) at m)), λ q. absurd (aside k (rw (← q) at m)))
  once_by (went m) (num n) false f =
      (λ q. not_both n (ap (λ x. is_number (word_of x)) (sym q) ∙ f), λ q. not_both n (ap (λ x. is_number (word_of x)) (sym q) ∙ (c.moving m).0.after))
  once_by (went m) (stay k) false f = (λ q. absurd (apart k (rw q at m)), λ q. absurd (aside k (rw q at m)))
  once_by (went m) (went m') false f = (λ q. c.one_new (rw q at m) m', λ q. c.one_old (rw q at m) m')

  pub copied_same : Same X Y R
  copied_same = record {
    numbers = same_numbers;
    value_of = same_value;
    values = alike;
    homes = homes;
    once = λ v w v' w' r r'. once_by r r' (is_number (word_of v)) refl;
  }

  -- a value in a region that a root reaches is one that moved
  pub reached_moved : {v : ℕ} → Reached X rx v → X.home v ≢ 0 → (w : ℕ) × Memᴰ (to v w) log
  reached_moved {v} r ne = let p = reached_like X Y R copied_same rx ry c.count c.roots r in (p.0, by p.1)
    where
      by : {w : ℕ} → R v w → Memᴰ (to v w) log
      by (num n) = absurd (ne (c.plain.no_home v n))
      by (stay k) = absurd (ne (c.staying k).1)
      by (went m) = m
