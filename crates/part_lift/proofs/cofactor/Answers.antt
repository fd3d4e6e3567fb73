-- `part_lift::cofactor` meets its contract.
-- Assumes nothing.
use Rattle.std.proofs.Common.{add-one, arith}
use Rattle.part_lift.specs.Quotients.{quotient_terms, quotient_parts}
use Rattle.part_lift.proofs.cofactor.Goals as goal

pub product-v-requires : goal.product-v-requires
product-v-requires c =
    let (C, t, small, D) = c.requires in (
      t,
      D.quotient,
      omega (arith, C.fits),
      omega (arith, C.fits),
      small,
      quotient_terms D C.monic_second (omega arith) (rw add-one C.monic_first.below),
    )

pub returns : goal.returns
returns c =
    let (C, t, small, D) = c.requires in
    quotient_parts D _ c.product_quotient-x.ensures c.product-v.ensures c.sum.ensures
