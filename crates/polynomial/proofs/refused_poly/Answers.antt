-- `polynomial::refused_poly` meets its contract.
-- Assumes nothing.
use Rattle.std.proofs.Common.{refl}
use Rattle.specification.specs.Records.{pad}
use Rattle.polynomial.proofs.refused_poly.Goals as goal

pub returns : goal.returns
unfolding pad
returns c = refl
