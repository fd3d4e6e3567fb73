-- `modp_element::less_power` meets its contract.
-- Assumes nothing.
use Rattle.std.proofs.Common.{arith}
use Rattle.modp_element.specs.Images.{less_power}
use Rattle.modp_element.proofs.less_power.Goals as goal

pub returns : goal.returns
returns c =
    let (large, fits, reduced) = c.requires in
    less_power _ _ (omega (arith, large)) reduced fits c.less_one.ensures
