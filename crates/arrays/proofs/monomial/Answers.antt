-- `arrays::monomial` meets its contract.
-- Assumes nothing.
use Rattle.arrays.specs.MonomialArray.{monomial_set}
use Rattle.arrays.proofs.monomial.Goals as goal

pub returns : goal.returns
returns c = monomial_set c.args.i c.requires
