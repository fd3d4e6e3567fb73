-- `modular::multiple` meets its contract.
-- Assumes nothing.
use native.Mathlib.Omega.{arith}
use borrow.Author.Rules.{rules}
use Rattle.arrays.specs.Represents.{zeros}
use Rattle.modular.specs.Multiples.{multiple_by_one, multiple_represented}
use Rattle.modular.proofs.multiple.Goals as goal

pub returns-then-c-eq1 : goal.returns-then-c-eq1
returns-then-c-eq1 c = multiple_by_one (search rules) c.requires.2

pub add_multiple-requires : goal.add_multiple-requires
add_multiple-requires c =
    let pre = c.requires in
    (pre.0, (zeros _ (omega (arith, pre.2.low 0))).reduced, pre.2, pre.3, search rules)

pub returns : goal.returns
returns c = multiple_represented _ _ (zeros _ (omega (arith, c.requires.2.low 0))).is c.add_multiple.ensures
