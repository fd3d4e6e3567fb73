-- `part_lift::product_quotient` meets its contract.
-- Assumes nothing.
use Rattle.std.proofs.Common.{add-one, arith}
use Rattle.algebra.specs.Degree.{below_mul}
use Rattle.part_lift.specs.Quotients.{quotient_divided}
use Rattle.part_lift.proofs.product_quotient.Goals as goal

pub divide-requires : goal.divide-requires
divide-requires c =
    let (fits, t, r, small_t, small_r) = c.requires in
    let w = c.product-w.ensures in
    (w.reduced, omega (arith, fits), rw w.is (below_mul small_t (rw (← add-one) small_r)))

pub returns : goal.returns
returns c = quotient_divided c.product-w.ensures c.divide.ensures
