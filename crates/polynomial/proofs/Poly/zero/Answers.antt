-- `polynomial::Poly::zero` meets its contract.
-- Assumes nothing.
use Rattle.specification.specs.Records.{constant, pad}
use Rattle.polynomial.proofs.Poly.zero.Goals as goal

pub returns : goal.returns
unfolding constant pad
returns c = c.fixed.ensures
