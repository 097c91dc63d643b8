-- The laws of these loops: one turn more, the turn that ends it, nothing left; and what they keep. Each is one recursion, on its fuel or on its list.
use Prim.Native.Nat.{ℕ, zero, suc, ◌+◌, ◌-◌, ◌<◌, ◌≤◌}
use mathlib.Core.Bool.{Bool, true, false}
use mathlib.Core.Path.{◌≡◌, refl}
use mathlib.Core.List.{List, [], ◌∷◌, ◌++◌, append-nil, Memᴰ}
use native.Mathlib.Omega.{arith}
use native.Mathlib.Numerals.{sub-one, add-one}
use lib.ListN.{length, drop, drop_of_length-le}
use lib.Seq.{drop-cons}
use borrow.Author.Tests.{lt-ltb, le-ltb}
use Rattle.laws.specs.Lists.{at}
use Rattle.laws.specs.Each.{After, after, each, each_of, steps, along}
use Rattle.laws.proofs.Once.{Linked, linked_none, linked_first}

module _ {S : Type 0} where
  pub each_more : (f : ℕ) (g : ℕ → S → After Bool S) (x : ℕ) (s s' : S) (r : Bool) → 0 < f → r ≡ true → after r s' ≡ g x s
      → each f g x s ≡ each (f - 1) g (x + 1) s'
  unfolding each
  each_more zero g x s s' r l q e = absurd (omega arith)
  each_more (suc f) g x s s' r l q e = rw (sub-one (suc f), add-one x, ← e, q)

  pub each_over : (f : ℕ) (g : ℕ → S → After Bool S) (x : ℕ) (s s' : S) (r : Bool) → 0 < f → r ≡ false → after r s' ≡ g x s
      → each f g x s ≡ after false s'
  unfolding each
  each_over zero g x s s' r l q e = absurd (omega arith)
  each_over (suc f) g x s s' r l q e = rw (← e, q)

  pub each_end : (f : ℕ) (g : ℕ → S → After Bool S) (x : ℕ) (s : S) → f ≤ 0 → each f g x s ≡ after true s
  unfolding each
  each_end zero g x s l = refl
  each_end (suc f) g x s l = absurd (omega arith)

  -- w is the word at place i
  pub each_of_more : (g : ℕ → S → After Bool S) (ws : List ℕ) (i w : ℕ) (s s' : S) (r : Bool) → i < length ws → w ≡ at ws i → r ≡ true → after r s' ≡ g w s
      → each_of g (drop i ws) s ≡ each_of g (drop (i + 1) ws) s'
  unfolding each_of
  each_of_more g ws i w s s' r l at_i q e = rw (drop-cons ws i 0, add-one i, each_of, ← at_i, ← e, q)

  pub each_of_over : (g : ℕ → S → After Bool S) (ws : List ℕ) (i w : ℕ) (s s' : S) (r : Bool) → i < length ws → w ≡ at ws i → r ≡ false → after r s' ≡ g w s
      → each_of g (drop i ws) s ≡ after false s'
  unfolding each_of
  each_of_over g ws i w s s' r l at_i q e = rw (drop-cons ws i 0, each_of, ← at_i, ← e, q)

  pub each_of_end : (g : ℕ → S → After Bool S) (ws : List ℕ) (i : ℕ) (s : S) → length ws ≤ i → each_of g (drop i ws) s ≡ after true s
  unfolding each_of
  each_of_end g ws i s l = rw (drop_of_length-le ws l)

  pub steps_end : (f : ℕ) (g : ℕ → S → S) (x : ℕ) (s : S) → f ≤ 0 → steps f g x s ≡ s
  unfolding steps
  steps_end zero g x s l = refl
  steps_end (suc f) g x s l = absurd (omega arith)

  -- page k, which the link l names
  pub along_more : (f m : ℕ) (next : S → ℕ → ℕ) (g : ℕ → S → S) (l l' k : ℕ) (s s' : S)
      → 0 < f → l ≡ suc k → k < m → l' ≡ next s k → s' ≡ g k s → along f m next g l s ≡ along (f - 1) m next g l' s'
  unfolding along
  along_more zero m next g l l' k s s' b e i q r = absurd (omega arith)
  along_more (suc f) m next g l l' k s s' b e i q r = rw (sub-one (suc f), e, along, lt-ltb k m i, r, q)

  -- the ways out: no such page, no link, no page left to pass
  pub along_far : (f m : ℕ) (next : S → ℕ → ℕ) (g : ℕ → S → S) (l : ℕ) (s : S) → m < l → along f m next g l s ≡ s
  unfolding along
  along_far zero m next g l s b = refl
  along_far (suc f) m next g zero s b = refl
  along_far (suc f) m next g (suc k) s b = rw (along, le-ltb k m (omega arith))

  pub along_none : (f m : ℕ) (next : S → ℕ → ℕ) (g : ℕ → S → S) (l : ℕ) (s : S) → l ≡ 0 → along f m next g l s ≡ s
  unfolding along
  along_none zero m next g l s e = refl
  along_none (suc f) m next g l s e = rw e

  pub along_end : (f m : ℕ) (next : S → ℕ → ℕ) (g : ℕ → S → S) (l : ℕ) (s : S) → f ≤ 0 → along f m next g l s ≡ s
  unfolding along
  along_end zero m next g l s b = refl
  along_end (suc f) m next g l s b = absurd (omega arith)

  -- ---- what a loop keeps: if each turn keeps a fact about what is left to do, then the fact holds at the end, with nothing left

  -- numbers: `Good x s` is that the numbers below x are done
  pub steps_keep : (g : ℕ → S → S) (R : ℕ) (Good : ℕ → S → Type 0) → ((x : ℕ) (s : S) → x < R → Good x s → Good (suc x) (g x s))
      → (f x : ℕ) (s : S) → x + f ≡ R → Good x s → Good R (steps f g x s)
  unfolding steps
  steps_keep g R Good turn zero x s e k = let q : x ≡ R = omega arith in rw q at k
  steps_keep g R Good turn (suc f) x s e k = steps_keep g R Good turn f (suc x) (g x s) (omega arith) (turn x s (omega arith) k)

  -- pages: `Good ks s` is that the pages ks, of those in ps, are still to be passed
  module _ (m : ℕ) (next : S → ℕ → ℕ) (g : ℕ → S → S) (l : ℕ → ℕ) (Good : List ℕ → S → Type 0) (ps : List ℕ) (small : (k : ℕ) → Memᴰ k ps → k < m)
      (turn : (k : ℕ) (ks : List ℕ) (s : S) → Memᴰ k ps → Good (k ∷ ks) s → (next s k ≡ l k) × Good ks (g k s)) where
    -- at most f pages are passed: where f is more than there are pages, the chain ends with them
    pub along_keep : (f : ℕ) (ks ms : List ℕ) (x : ℕ) (s : S) → ((k : ℕ) → Memᴰ k ks → Memᴰ k ps) → Linked l x (ks ++ ms) → length ks ≤ f → (length ks < f → ms ≡ [])
        → Good ks s → Good [] (along f m next g x s)
    unfolding along
    along_keep zero [] ms x s of t b end i = i
    along_keep (suc f) [] ms x s of t b end i = let q : Linked l x [] = rw (end (omega arith)) at t in rw (linked_none q, along) i
    along_keep zero (k ∷ ks) ms x s of t b end i = absurd (omega arith)
    along_keep (suc f) (k ∷ ks) ms x s of t b end i =
        let u = linked_first t in
        let here = of k (Memᴰ.head refl) in
        let v = turn k ks s here i in
        let rest = along_keep f ks ms (l k) (g k s) (λ y p. of y (Memᴰ.tail p)) u.1 (omega arith) (λ q. end (omega arith)) v.1 in
        rw (u.0, along, lt-ltb k m (small k here), v.0) rest

    -- a whole chain
    pub chain_keep : (f x : ℕ) (s : S) → Linked l x ps → length ps ≤ f → Good ps s → Good [] (along f m next g x s)
    chain_keep f x s t b = along_keep f ps [] x s (λ k p. p) (rw (append-nil ps) t) b (λ q. refl)
