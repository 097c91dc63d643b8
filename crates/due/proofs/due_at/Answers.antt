-- `due::due_at` meets its contract: it tests whether three times the count, however that is written, is below the pages.
use Prim.Native.Nat.{ℕ, suc, ◌*◌}
use mathlib.Core.Path.{◌≡◌}
use native.Mathlib.Omega.{arith}
use lib.Dec.{leb}
use Rattle.rules.specs.Calls.{due_at}
use Rattle.due.proofs.due_at.Goals as goal

-- both tests, `<` and `<=`, are a `leb`: m is what must not be above the pages
thrice : (m count pages : ℕ) → m ≡ suc (3 * count) → leb m pages ≡ due_at count pages
thrice m count pages e = rw e

pub returns : goal.returns
returns c = thrice _ c.args.count c.args.pages (omega arith)
