-- The walk along a chain of pages that are given back: a turn gives back the page that the link names and goes on with its link, as the
-- definition does.
use Prim.Native.Nat.{ℕ, ◌+◌, ◌-◌, ◌*◌, ◌/◌, ◌^◌, ◌≤◌, ◌<◌}
use native.Mathlib.Omega.{arith}
use mathlib.Core.Path.{◌≡◌, refl, sym, ap, ◌∙◌}
use mathlib.Core.List.{List, []}
use lib.ListN.{length}
use Rattle.laws.specs.Lists.{at}
use Rattle.laws.specs.Each.{along}
use Rattle.laws.proofs.Each.{along_more, along_none, along_far, along_end}
use Rattle.rules.specs.declared.Control.{Control}
use Rattle.rules.specs.Refusals.{Paged}
use Rattle.rules.specs.Pages.{Run, give_back}
use Rattle.rules.proofs.Pages.{link_at}
use Rattle.facts.proofs.Given.{given_last, given_count}
use Rattle.pages.specs.Taking.{run_of}
use Rattle.giving.specs.Giving.{Free, Left, link_in, give_chain}

-- of the chain that starts with l₀, what is left from l on leaves what the whole leaves; at most f pages may be passed, and there are N
pub record Going (N : ℕ) (h₀ : List ℕ) (c₀ : Control) (l₀ : ℕ) (h : List ℕ) (c : Control) (l f : ℕ) : Type 0 where
  pub run : (t : List ℕ) → along f N (link_in c₀.n) (give_back c₀.n) l (run_of h t c) ≡ give_chain c₀.n N l₀ (run_of h₀ t c₀)
  pub exponent : c.n ≡ c₀.n
  pub regions : c.regions ≡ c₀.regions
  pub last : c.last ≤ N
  pub count : c.count + f < 4294967296
  pub long : length h ≡ length h₀

pub begins : (N : ℕ) (h : List ℕ) (c : Control) (l : ℕ) → N ≡ length h / 2 ^ c.n → Free (length h) (length h / 2 ^ c.n) c → Going N h c l h c l N
begins N h c l e f =
    let a = f.last in
    let b = f.count in
    record { run = λ t. refl; exponent = refl; regions = refl; last = omega arith; count = omega arith; long = refl }

module _ (N : ℕ) (h₀ : List ℕ) (c₀ : Control) (l₀ : ℕ) (h : List ℕ) (c : Control) (l f : ℕ) (G : Going N h₀ c₀ l₀ h c l f) where
  -- the page that l names can be given back
  pub goes_free : (k : ℕ) → Paged c₀.n (length h₀) → N ≡ length h₀ / 2 ^ c₀.n → 0 < f → (l ≡ 0 → ⊥) → l ≤ N → k ≡ l - 1
      → (Free (length h) 1 c) × (k < length h / 2 ^ c.n)
  goes_free k g e b ne m q =
      let a = G.count in
      let small : k < N = omega arith in
      (record { paged = rw (G.exponent, G.long) g; last = rw (G.exponent, G.long, ← e) G.last; count = omega arith }, rw (G.exponent, G.long, ← e) small)

  -- it is given back, and l' was its link
  pub goes_on : (k l' : ℕ) (h' : List ℕ) (c' : Control) → 0 < f → (l ≡ 0 → ⊥) → l ≤ N → k ≡ l - 1 → l' ≡ at h ((l - 1) * 2 ^ c₀.n)
      → Left (give_back c.n k) h c h' c' → length h' ≡ length h → Going N h₀ c₀ l₀ h' c' l' (f - 1)
  goes_on k l' h' c' b ne m e q g len =
      let u : run_of h' [] c' ≡ give_back c.n k (run_of h [] c) = g.run [] in
      let v = ap (λ r. r.last) u ∙ given_last c.n (run_of h [] c) k in
      let w = ap (λ r. r.count) u ∙ given_count c.n (run_of h [] c) k in
      let a = G.count in
      record {
        run = λ t.
            sym (along_more f N (link_in c₀.n) (give_back c₀.n) l l' k (run_of h t c) (run_of h' t c') b (omega arith) (omega arith)
            (link_at c₀.n k _ l' h (ap (λ x. x * 2 ^ c₀.n) (sym e)) q) (g.run t ∙ ap (λ n. give_back n k (run_of h t c)) G.exponent))
            ∙ G.run t;
        exponent = g.exponent ∙ G.exponent;
        regions = g.regions ∙ G.regions;
        last = omega arith;
        count = omega arith;
        long = len ∙ G.long;
      }

  -- the ways out: no link, no such page, no page left to pass
  arrives : ((r : Run) → along f N (link_in c₀.n) (give_back c₀.n) l r ≡ r) → Left (give_chain c₀.n N l₀) h₀ c₀ h c
  arrives e = record { run = λ t. sym (e (run_of h t c)) ∙ G.run t; exponent = G.exponent; regions = G.regions }

  pub ends_none : l ≡ 0 → Left (give_chain c₀.n N l₀) h₀ c₀ h c
  ends_none e = arrives (λ r. along_none f N (link_in c₀.n) (give_back c₀.n) l r e)

  pub ends_far : N < l → Left (give_chain c₀.n N l₀) h₀ c₀ h c
  ends_far b = arrives (λ r. along_far f N (link_in c₀.n) (give_back c₀.n) l r b)

  pub ends_out : f ≤ 0 → Left (give_chain c₀.n N l₀) h₀ c₀ h c
  ends_out b = arrives (λ r. along_end f N (link_in c₀.n) (give_back c₀.n) l r b)
