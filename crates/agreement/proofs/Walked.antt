-- What a loop along the chains of all regions keeps: if each turn keeps a fact about what is left to do, then the fact holds at the end, with
-- nothing left. It is one loop over the regions, and in each one along its links.
use Prim.Native.Nat.{ℕ, suc, ◌≤◌, ◌<◌}
use native.Mathlib.Omega.{arith}
use native.Mathlib.Decide.{ℕ_discrete}
use mathlib.Core.Path.{◌≡◌, ◌∙◌, subst}
use mathlib.Core.Logic.{◌≢◌, ◌⊎◌, inl, inr}
use mathlib.Core.List.{List, [], ◌∷◌, Memᴰ}
use Rattle.laws.specs.Each.{steps, along}
use Rattle.laws.proofs.Once.{in_tail}
use Rattle.laws.proofs.Each.{steps_keep, chain_keep}
use Rattle.rules.specs.Memory.{link, first_of, first_link}
use Rattle.rules.specs.Pages.{Run}
use Rattle.facts.proofs.Cleared.{first_link_lem}
use Rattle.facts.proofs.Laid.{Owner, Layout, chain_known, chain_few}

module _ {S : Type 0} where
  -- the chains of all regions, from the first pages that a table names: `Good ks j s` is that the pages ks and the regions from j on are still to be passed
  module _ {n m R : ℕ} {own : ℕ → Owner} {fin : ℕ → ℕ} {pages : ℕ → List ℕ} {free : List ℕ} {r : Run} (L : Layout n m R own fin pages free r)
      (t : List ℕ) (opens : (j : ℕ) → j < R → first_of t j ≡ first_of r.table j) (next : S → ℕ → ℕ) (g : ℕ → ℕ → S → S) (Good : List ℕ → ℕ → S → Type 0)
      (enter : (j : ℕ) (s : S) → j < R → Good [] j s → Good (pages j) (suc j) s)
      (turn : (j k : ℕ) (ks : List ℕ) (s : S) → j < R → Memᴰ k (pages j) → Good (k ∷ ks) (suc j) s → (next s k ≡ link n r.heap k) × Good ks (suc j) (g j k s)) where
    region : (j : ℕ) (s : S) → j < R → Good [] j s → Good [] (suc j) (along m m next (g j) (first_link n t j) s)
    region j s b i =
        let F = L.mine_links j b in
        rw (first_link_lem n t j F.page L.big (opens j b ∙ F.first))
        (chain_keep m next (g j) (link n r.heap) (λ ks s. Good ks (suc j) s) (pages j) (chain_known L j b) (λ k ks s. turn j k ks s b)
        m (suc F.page) s F.links (chain_few L j b) (enter j s b i))

    pub regions_keep : (s : S) → Good [] 0 s → Good [] R (steps R (λ j. along m m next (g j) (first_link n t j)) 0 s)
    regions_keep s i = steps_keep (λ j. along m m next (g j) (first_link n t j)) R (Good []) region R 0 s (omega arith) i

-- ---- the pages still to be passed

module _ (R : ℕ) (pages : ℕ → List ℕ) where
  -- k is one of the pages ks, or of a region from j on
  abbrev pub Ahead : List ℕ → ℕ → ℕ → Type 0
  Ahead ks j k = Memᴰ k ks ⊎ ((i : ℕ) × (j ≤ i) × (i < R) × Memᴰ k (pages i))

  pub ahead_enter : (j k : ℕ) → Ahead [] j k → Ahead (pages j) (suc j) k
  ahead_enter j k (inl m) = elim m [ ]
  ahead_enter j k (inr t) = go (ℕ_discrete t.0 j)
    where
      go : Dec (t.0 ≡ j) → Ahead (pages j) (suc j) k
      go (yes e) = inl (subst (λ i. Memᴰ k (pages i)) e t.3)
      go (no ne) = inr (t.0, (let a = t.1 in omega arith), t.2, t.3)

  pub ahead_tail : {k x j : ℕ} {ks : List ℕ} → x ≢ k → Ahead (k ∷ ks) j x → Ahead ks j x
  ahead_tail ne (inl m) = inl (in_tail ne m)
  ahead_tail ne (inr t) = inr t

  -- none is left
  pub ahead_none : {A : Type 0} (k : ℕ) → Ahead [] R k → A
  ahead_none k (inl m) = elim m [ ]
  ahead_none k (inr t) = let a = t.1 in let b = t.2 in absurd (omega arith)
