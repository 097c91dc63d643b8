-- `scanning::all_digits` meets its contract: the iterator's method asks each place for its digit, and the definition asks the same.
use borrow.Author.Rules.{rules}
use Rattle.std.proofs.iter.runs.Sources.{ranges}
use Rattle.scanning.proofs.Digits.{all_told}
use Rattle.scanning.proofs.all_digits.Goals as goal

pub returns : goal.returns
returns c = all_told _ _ _ _ (search (rules, ranges))
