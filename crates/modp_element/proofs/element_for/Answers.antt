-- `modp_element::element_for` meets its contract.
-- Assumes nothing.
use Rattle.modp_element.specs.Elements.{element_left}
use Rattle.modp_element.proofs.element_for.Goals as goal

pub returns-then-splits : goal.returns-then-splits
returns-then-splits c = element_left _ c.remainder-r.ensures c.size-splits.ensures c.if-splits.true
