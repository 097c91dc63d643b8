-- Loops that serve many: numbers or words in order, left at the first that fails; numbers in order; pages along their links.
use Rattle.std.specs.Prelude.{ℕ, zero, suc, Bool, true, false, List, [], ◌∷◌, ltb}
use Rattle.laws.specs.Choice.{◌⇒◌∣◌}

-- what a piece of work answers, and the state after it
pub record After (A S : Type 0) : Type 0 where
  pub answer : A
  pub state : S

abbrev pub after : {A S : Type 0} → A → S → After A S
after a s = record { answer = a; state = s }

-- where the answer is true the rest of the work, else no more
abbrev pub then_on : {S : Type 0} → After Bool S → (S → After Bool S) → After Bool S
then_on o rest = o.answer ⇒ rest o.state ∣ after false o.state

-- g of the f numbers from x on, as long as it answers true
unfoldable pub each : {S : Type 0} → ℕ → (ℕ → S → After Bool S) → ℕ → S → After Bool S
each zero g x s = after true s
each (suc f) g x s = then_on (g x s) (λ s'. each f g (suc x) s')

-- g of the words in order, as long as it answers true
unfoldable pub each_of : {S : Type 0} → (ℕ → S → After Bool S) → List ℕ → S → After Bool S
each_of g [] s = after true s
each_of g (w ∷ ws) s = then_on (g w s) (λ s'. each_of g ws s')

-- g of the f numbers from x on
unfoldable pub steps : {S : Type 0} → ℕ → (ℕ → S → S) → ℕ → S → S
steps zero g x s = s
steps (suc f) g x s = steps f g (suc x) (g x s)

-- g of the pages from a link on, at most f, as long as the link names one of the first m pages; `next` is the link that follows a page, read before g
unfoldable pub along : {S : Type 0} → ℕ → ℕ → (S → ℕ → ℕ) → (ℕ → S → S) → ℕ → S → S
along zero m next g l s = s
along (suc f) m next g zero s = s
along (suc f) m next g (suc k) s = elim (ltb k m) [ true ↦ along f m next g (next s k) (g k s) | false ↦ s ]
