-- `rows::first_link` meets its contract: a page number is at most a sixteenth of a word, so that one more is a word.
use Prim.Native.Nat.{ℕ, suc, ◌/◌, ◌^◌, ◌<◌, ◌≤◌}
use native.Mathlib.Nat.{div-add-mod', mul-le-mul_left}
use native.Mathlib.Omega.{arith}
use mathlib.Core.Path.{◌≡◌, ◌∙◌, ap}
use Rattle.rules.proofs.Limits.{page_size}
use Rattle.rows.proofs.first_link.Goals as goal

-- the page of an address that is a word
page-small : (n x k : ℕ) → 4 ≤ n → n ≤ 8 → x < 4294967296 → k ≡ x / 2 ^ n → k < 4294967295
page-small n x k a b l e = omega (arith, div-add-mod' x (2 ^ n), mul-le-mul_left (x / 2 ^ n) (page_size n a b).0)

pub page_link-requires : goal.page_link-requires
page_link-requires c = page-small _ _ _ c.requires.2 c.requires.3 c.first_of.ensures.1 c.address_page.ensures

pub returns : goal.returns
returns c = c.page_link.ensures ∙ ap suc (c.address_page.ensures ∙ ap (λ x. x / 2 ^ c.args.n) c.first_of.ensures.0)
