-- `parts::lifted_power` meets its contract.
-- Assumes nothing.
use Rattle.std.proofs.Common.{arith}
use Rattle.algebra.specs.Degree.{monic_pow}
use Rattle.algebra.specs.TakenPrimes.{square_small}
use Rattle.parts.proofs.lifted_power.Goals as goal

pub overflow_mul-n : goal.overflow_mul-n
overflow_mul-n c = omega (arith, square_small _ c.requires.0)

pub invariant_of-result : goal.invariant_of-result
invariant_of-result c =
    let whole = c.power-whole.ensures in
    record { monic = record { fits = omega (arith, c.requires.3); reduced = whole.reduced; monic = rw whole.is (monic_pow c.requires.1.monic c.args.x.exponent) } }
