-- `residues::Modulus::reduce_narrow` meets its contract: the estimate leaves less than 2·n.
-- Assumes nothing.
use Rattle.residues.proofs.Reciprocals.{once_left, twice_left}
use Rattle.residues.proofs.Modulus.reduce_narrow.Goals as goal

pub returns-then-t-self : goal.returns-then-t-self
returns-then-t-self c = once_left _ _ _ c.estimate.ensures.0 c.if-t-self.true

pub returns-else-t-self : goal.returns-else-t-self
returns-else-t-self c = twice_left _ _ _ c.estimate.ensures.0 c.estimate.ensures.1 c.if-t-self.false
