-- `pages::page_words` meets its contract: n is at most 8, so the shift drops no bit.
use native.Mathlib.Omega.{arith}
use mathlib.Core.Path.{◌∙◌}
use native.Mathlib.Nat.{one-mul}
use lib.Pow.{shl_exact}
use Rattle.pages.proofs.page_words.Goals as goal

pub returns : goal.returns
returns c = shl_exact {a = 1} 1 c.args.n 64 (omega arith) (omega (arith, c.requires.1)) ∙ one-mul _
