-- `residues::Modulus::estimate` meets its contract: the product with (2^16 - 1) / n gives the quotient, or one less.
-- Assumes nothing.
use native.Mathlib.Omega.{arith}
use Rattle.residues.proofs.Reciprocals.{quotient_low, quotient_high, upper_half}
use Rattle.residues.proofs.Modulus.estimate.Goals as goal

pub returns : goal.returns
returns c =
    let n = c.args.self in
    let is = upper_half n.n n.reciprocal n.is_reciprocal in
    (quotient_low 65536 _ _ _ n.positive is (omega arith), quotient_high 65536 _ _ _ n.positive is (omega arith))
