-- One page given back, as the code does it: where no page was free it is the whole list, and else it follows the last one. Its words are
-- cleared and the last page's link is written.
use Prim.Native.Nat.{ℕ, zero, suc, ◌+◌, ◌-◌, ◌*◌, ◌^◌}
use native.Mathlib.Numerals.{add-one, sub-one}
use mathlib.Core.Path.{◌≡◌, refl, ap, ◌∙◌}
use mathlib.Core.List.{List}
use lib.ListN.{set}
use Rattle.rules.specs.declared.Control.{Control}
use Rattle.rules.specs.Memory.{control}
use Rattle.rules.specs.Pages.{clear_page, give_back}
use Rattle.giving.specs.Giving.{Left}

-- h' is the heap with page k cleared, l the link to it, and m how many pages are free then
module _ (k : ℕ) (h : List ℕ) (c : Control) (h' : List ℕ) (l m : ℕ) (cleared : h' ≡ clear_page c.n h k) (named : l ≡ suc k) (more : m ≡ c.count + 1) where
  pub given_alone : c.last ≡ 0 → Left (give_back c.n k) h c h' (control c.n c.regions l l m)
  unfolding give_back
  given_alone e = record { run = λ t. rw (give_back, e, cleared, named, more, add-one c.count); exponent = refl; regions = refl }

  -- a is the address of the page that was last
  pub given_behind : (a : ℕ) → (c.last ≡ 0 → ⊥) → a ≡ (c.last - 1) * 2 ^ c.n
      → Left (give_back c.n k) h c (set h' a l) (control c.n c.regions c.first l m)
  unfolding give_back
  given_behind a ne e = go c.last refl
    where
      go : (x : ℕ) → c.last ≡ x → Left (give_back c.n k) h c (set h' a l) (control c.n c.regions c.first l m)
      go zero z = absurd (ne z)
      go (suc y) z =
          let q : a ≡ y * 2 ^ c.n = e ∙ ap (λ x. (x - 1) * 2 ^ c.n) z ∙ ap (λ x. x * 2 ^ c.n) (sub-one (suc y)) in
          record { run = λ t. rw (give_back, z, cleared, named, q, more, add-one c.count); exponent = refl; regions = refl }
