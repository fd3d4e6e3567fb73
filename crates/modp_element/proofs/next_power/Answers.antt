-- `modp_element::next_power` meets its contract.
-- Assumes nothing.
use Rattle.modp_element.specs.Images.{multiplied_power}
use Rattle.modp_element.proofs.next_power.Goals as goal

pub returns : goal.returns
returns c = multiplied_power _ c.requires.2 c.product_modulo.ensures
