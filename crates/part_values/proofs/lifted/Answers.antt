-- `part_values::lifted` meets its contract.
-- Assumes nothing.
use Rattle.std.proofs.Common.{rules, arith}
use Rattle.algebra.specs.Numbers.{square_least}
use Rattle.algebra.specs.TakenPrimes.{is_prime_lem, square_small}
use Rattle.arrays.specs.SameEntries.{reduced_square, below_modulo}
use Rattle.part_values.proofs.Lifts.{lift_represented}
use Rattle.part_values.proofs.lifted.Goals as goal

pub overflow_mul-p : goal.overflow_mul-p
overflow_mul-p c = omega (arith, square_small _ c.requires.0)

pub add_multiple-requires : goal.add_multiple-requires
add_multiple-requires c = let pre = c.requires in (square_least _, pre.2, reduced_square pre.3, below_modulo _ pre.3 pre.4, search rules)

pub returns : goal.returns
returns c = lift_represented _ (is_prime_lem c.requires.0).large _ _ c.add_multiple.ensures
