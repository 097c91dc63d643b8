-- Pages as parts of the heap, and the turn laws of chains: a chain at a link is the page and the chain at its link, or it is over. A page is a
-- part of the heap by its definition, and `chain` goes one page a turn.
use Prim.Native.Nat.{ℕ, zero, suc, ◌+◌, ◌-◌, ◌*◌, ◌/◌, ◌^◌, ◌≤◌, ◌<◌}
use mathlib.Core.Path.{◌≡◌, refl, sym, ap, ◌∙◌}
use mathlib.Core.Bool.{Bool, true, false}
use mathlib.Core.List.{List, [], ◌∷◌}
use native.Mathlib.Omega.{arith}
use native.Mathlib.Numerals.{sub-one}
use borrow.Author.Tests.{lt-ltb, le-ltb, ltb-true}
use lib.Arith.{digits_div}
use lib.Dec.{ltb}
use lib.ListN.{length, take, drop, get_or}
use lib.Seq.{slice, drop-drop}
use Rattle.laws.specs.Lists.{at}
use Rattle.laws.proofs.Lists.{drop_take, part_length, word_in}
use Rattle.rules.specs.Memory.{page_words, link, chain, chain_end, page_count}
use Rattle.rules.specs.Words.{vals, vals_in, page_vals}

-- ---- pages as parts of the heap

-- the page of an address
pub page_of : (n k x : ℕ) → k * 2 ^ n ≤ x → x < k * 2 ^ n + 2 ^ n → x / 2 ^ n ≡ k
page_of n k x p q = let e : x ≡ k * 2 ^ n + (x - k * 2 ^ n) = omega arith in ap (λ y. y / 2 ^ n) e ∙ digits_div k {m = 2 ^ n} (omega arith)

pub length_page : (n : ℕ) (h : List ℕ) (k : ℕ) → k * 2 ^ n + 2 ^ n ≤ length h → length (page_words n h k) ≡ 2 ^ n
unfolding page_words
length_page n h k inside = part_length h (k * 2 ^ n) (2 ^ n) inside

pub at_page : (n : ℕ) (h : List ℕ) (k i : ℕ) → i < 2 ^ n → at (page_words n h k) i ≡ at h (k * 2 ^ n + i)
unfolding page_words
at_page n h k i b = word_in h (k * 2 ^ n) (2 ^ n) i b

-- the words of a page from its word i on
pub page_from : (i n : ℕ) (h : List ℕ) (k : ℕ) → drop i (page_words n h k) ≡ slice (k * 2 ^ n + i) (k * 2 ^ n + 2 ^ n) h
unfolding page_words
page_from i n h k = ap (drop i) (sym (drop_take (k * 2 ^ n) (2 ^ n) h)) ∙ drop-drop i (k * 2 ^ n) (take (k * 2 ^ n + 2 ^ n) h)

pub page_part : (n : ℕ) (h : List ℕ) (k : ℕ) → drop 2 (page_words n h k) ≡ slice (k * 2 ^ n + 2) (k * 2 ^ n + 2 ^ n) h
page_part = page_from 2

pub page_vals_lem : (n : ℕ) (h : List ℕ) (k : ℕ) → page_vals n h k ≡ vals_in h (k * 2 ^ n + 2) (k * 2 ^ n + 2 ^ n)
unfolding page_vals vals_in
page_vals_lem n h k = ap (λ ws. vals (k * 2 ^ n + 2) 0 ws) (page_part n h k)

-- ---- chains, from the link k on and with fuel f

-- what holds of a chain that is over, and of a page of the heap with the chain at its link where it holds of that, holds of each chain
module _ (n : ℕ) (h : List ℕ) (P : ℕ → ℕ → List ℕ → ℕ → Type 0) (over : (f k : ℕ) → P f k [] k)
    (next : (f k : ℕ) (ks : List ℕ) (e : ℕ) → k < page_count n h → P f (link n h k) ks e → P (suc f) (suc k) (k ∷ ks) e) where
  pub chain_by : (f k : ℕ) → P f k (chain f n h k) (chain_end f n h k)
  unfolding chain chain_end
  chain_by zero k = over zero k
  chain_by (suc f) zero = over (suc f) 0
  chain_by (suc f) (suc k) = go (ltb k (page_count n h)) refl (chain_by f (link n h k))
    where
      go : (b : Bool) → ltb k (page_count n h) ≡ b → P f (link n h k) (chain f n h (link n h k)) (chain_end f n h (link n h k))
          → P (suc f) (suc k) (chain (suc f) n h (suc k)) (chain_end (suc f) n h (suc k))
      go true e rest = rw (chain, chain_end, e) (next f k _ _ (ltb-true _ _ e) rest)
      go false e rest = rw (chain, chain_end, e) (over (suc f) (suc k))

-- the page that k names is there; b is its address
pub record Next (n : ℕ) (h : List ℕ) (f k b : ℕ) : Type 0 where
  pub start : b ≡ (k - 1) * 2 ^ n
  pub pages : chain f n h k ≡ (k - 1) ∷ chain (f - 1) n h (get_or h b 0)
  pub end : chain_end f n h k ≡ chain_end (f - 1) n h (get_or h b 0)

-- the chain is over, and k is the link that it ends with
pub record Over (n : ℕ) (h : List ℕ) (f k : ℕ) : Type 0 where
  pub none : chain f n h k ≡ []
  pub end : chain_end f n h k ≡ k

-- at a page
pub chain_here : (n : ℕ) (h : List ℕ) (f k : ℕ) → k < page_count n h → (chain (suc f) n h (suc k) ≡ k ∷ chain f n h (link n h k)) × (chain_end (suc f) n h (suc k) ≡ chain_end f n h (link n h k))
unfolding chain chain_end
chain_here n h f k b = (rw (chain, lt-ltb k (page_count n h) b), rw (chain_end, lt-ltb k (page_count n h) b))

-- the same over code that has N for the number of pages
pub next_page_lem : (n N : ℕ) (h : List ℕ) → N ≡ length h / 2 ^ n → (f k b : ℕ) → b ≡ (k - 1) * 2 ^ n → 0 < f → (k ≡ 0 → ⊥) → k ≤ N → Next n h f k b
unfolding link
next_page_lem n N h e zero k b q l z c = absurd (omega arith)
next_page_lem n N h e (suc f) zero b q l z c = absurd (z refl)
next_page_lem n N h e (suc f) (suc k) b q l z c =
    let t = chain_here n h f k (omega arith) in
    record { start = q; pages = rw (q, sub-one (suc f), sub-one (suc k)) t.0; end = rw (q, sub-one (suc f), sub-one (suc k)) t.1 }

-- the ways out: no page left to pass, no link, no such page
pub over_fuel : {n : ℕ} {h : List ℕ} {f k : ℕ} → f ≤ 0 → Over n h f k
unfolding chain chain_end
over_fuel {f = zero} l = record { none = refl; end = refl }
over_fuel {f = suc f} l = absurd (omega arith)

pub over_none : {n : ℕ} {h : List ℕ} {f k : ℕ} → k ≡ 0 → Over n h f k
unfolding chain chain_end
over_none {f = zero} z = record { none = refl; end = refl }
over_none {f = suc f} z = record { none = rw z; end = rw z }

pub over_bad : {n : ℕ} {h : List ℕ} {f k N : ℕ} → N ≡ length h / 2 ^ n → N < k → Over n h f k
unfolding chain chain_end
over_bad {f = zero} e b = record { none = refl; end = refl }
over_bad {f = suc f} {k = zero} e b = record { none = refl; end = refl }
over_bad {n} {h} {f = suc f} {k = suc k} e b =
    let t = le-ltb k (length h / 2 ^ n) (omega arith) in record { none = rw (chain, t); end = rw (chain_end, t) }
