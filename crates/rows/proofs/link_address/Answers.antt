-- `rows::link_address` meets its contract: it is the address of the page, as both conversions say.
use mathlib.Core.Path.{◌∙◌, ap}
use Prim.Native.Nat.{◌*◌, ◌^◌}
use Rattle.rows.proofs.link_address.Goals as goal

pub returns : goal.returns
returns c = c.page_address.ensures ∙ ap (λ k. k * 2 ^ c.args.n) c.link_page.ensures
