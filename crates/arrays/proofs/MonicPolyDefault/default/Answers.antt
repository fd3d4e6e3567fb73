-- `MonicPoly::default` meets its contract.
-- Assumes nothing.
use Rattle.std.proofs.Common.{arith}
use Rattle.arrays.specs.MonomialArray.{monomial_monic}
use Rattle.arrays.proofs.MonicPolyDefault.default.Goals as goal

pub invariant_of-result : goal.invariant_of-result
invariant_of-result c = record { monic = monomial_monic c.monomial.ensures (omega arith) }
