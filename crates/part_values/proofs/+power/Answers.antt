-- `part_values::power` meets its contract.
-- Assumes nothing.
use Rattle.std.proofs.Common.{add-one, arith}
use Rattle.part_values.proofs.PowerHalves.{half_room, power_one, power_below, square_below, power_even, power_odd}
use Rattle.part_values.proofs.+power.Goals as goal

pub returns-then-k-eq1 : goal.returns-then-k-eq1
returns-then-k-eq1 t c = power_one _ _ _ (omega arith) c.args.a.monic.reduced

pub product-s-requires : goal.product-s-requires
product-s-requires t c =
    let h = c.power-h.ensures in
    let (one, half, twice, odd) = half_room _ _ c.requires.0 c.requires.1 in
    let below = power_below _ _ _ c.args.a.monic.monic h in
    (h.reduced, h.reduced, omega (arith, half), omega (arith, twice), below, below)

pub returns-then-k-eq0 : goal.returns-then-k-eq0
returns-then-k-eq0 t c = power_even _ _ _ c.power-h.ensures c.product-s.ensures (omega arith)

pub product-requires : goal.product-requires
product-requires t c =
    let a = c.args.a.monic in
    let s = c.product-s.ensures in
    let (one, half, twice, odd) = half_room _ _ c.requires.0 c.requires.1 in (
      a.reduced,
      s.reduced,
      omega (arith, one),
      omega (arith, odd (omega arith)),
      rw add-one a.monic.below,
      square_below _ _ _ c.power-h.ensures s a.monic,
    )

pub returns : goal.returns
returns t c = power_odd _ _ _ c.power-h.ensures c.product-s.ensures (omega arith) c.product.ensures
