-- `modular::difference` meets its contract.
-- Assumes nothing.
use native.Mathlib.Omega.{arith}
use borrow.Author.Rules.{rules}
use Rattle.arrays.specs.Represents.{below_length}
use Rattle.modular.specs.Multiples.{difference_represented}
use Rattle.modular.proofs.difference.Goals as goal

pub overflow_sub-n : goal.overflow_sub-n
overflow_sub-n c = omega (arith, c.requires.0.low 0)

pub add_multiple-requires : goal.add_multiple-requires
add_multiple-requires c = (search rules, c.requires.0, c.requires.1, below_length _ _ (search rules), search rules)

pub returns : goal.returns
returns c = difference_represented _ _ _ _ (omega (arith, c.requires.0.low 0)) c.add_multiple.ensures
