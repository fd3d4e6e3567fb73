-- `modular::sum` meets its contract.
-- Assumes nothing.
use native.Mathlib.Omega.{arith}
use borrow.Author.Rules.{rules}
use Rattle.arrays.specs.Represents.{below_length}
use Rattle.modular.specs.Multiples.{sum_represented}
use Rattle.modular.proofs.sum.Goals as goal

pub add_multiple-requires : goal.add_multiple-requires
add_multiple-requires c = (omega (arith, c.requires.0.low 0), c.requires.0, c.requires.1, below_length _ _ (search rules), search rules)

pub returns : goal.returns
returns c = sum_represented _ _ _ _ c.add_multiple.ensures
