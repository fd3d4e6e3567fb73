-- `quotients::remainder` meets its contract.
-- Assumes nothing.
use Rattle.quotients.specs.Remainder.{remainder_divided}
use Rattle.quotients.proofs.remainder.Goals as goal

pub returns : goal.returns
returns c = remainder_divided _ c.divide.ensures
