-- `pages::page_end` meets its contract: neither the address nor what is added wraps.
use native.Mathlib.Omega.{arith}
use Rattle.rules.proofs.Limits.{address_small}
use Rattle.pages.proofs.page_end.Goals as goal

pub address_behind-requires : goal.address_behind-requires
address_behind-requires c = let s = address_small _ _ c.requires.0 c.requires.2 in omega (arith, c.page_address.ensures, c.page_words.ensures)
