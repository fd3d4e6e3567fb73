-- `modp_element::power_of_x` meets its contract.
-- Assumes nothing.
use Rattle.std.proofs.Common.{arith}
use Rattle.algebra.specs.Degree.{below_up}
use Rattle.arrays.specs.MonomialArray.{monomial_represents, monomial_monic}
use Rattle.modp_element.specs.Images.{shifted_power, squared_power}
use Rattle.modp_element.proofs.power_of_x.Goals as goal

pub times_power_of_x-requires : goal.times_power_of_x-requires
times_power_of_x-requires c =
    let h = c.requires in
    let one = monomial_monic c.monomial.ensures h.0 in
    (one.reduced, below_up (omega (arith, h.1)) one.monic.below)

pub returns-then-p-q : goal.returns-then-p-q
returns-then-p-q c = shifted_power (monomial_represents c.monomial.ensures c.requires.0) c.times_power_of_x.ensures

pub power-requires : goal.power-requires
power-requires c =
    let h = c.requires in
    let x = monomial_monic c.monomial-2.ensures h.0 in
    (omega (arith, h.0), x.reduced, below_up (omega (arith, h.1)) x.monic.below)

pub returns : goal.returns
returns c = squared_power (monomial_represents c.monomial-2.ensures c.requires.0) c.power.ensures
