-- `residues::Modulus::reduce` meets its contract: the quotient that the product gives leaves less than 2·n.
-- Assumes nothing.
use native.Mathlib.Omega.{arith}
use Rattle.residues.proofs.Reciprocals.{quotient_low, quotient_high, once_left, twice_left}
use Rattle.residues.proofs.Modulus.reduce.Goals as goal

pub overflow_sub-t : goal.overflow_sub-t
overflow_sub-t c = quotient_low 4294967296 _ _ _ c.args.self.positive c.args.self.is_reciprocal (omega arith)

pub overflow_cast-result-else-t-n : goal.overflow_cast-result-else-t-n
overflow_cast-result-else-t-n c =
    let n = c.args.self in
    omega (arith, quotient_high 4294967296 n.n n.reciprocal c.args.s n.positive n.is_reciprocal (omega arith))

pub returns-then-t-n : goal.returns-then-t-n
returns-then-t-n c =
    once_left _ _ _ (quotient_low 4294967296 _ _ _ c.args.self.positive c.args.self.is_reciprocal (omega arith)) c.if-t-n.true

pub returns-else-t-n : goal.returns-else-t-n
returns-else-t-n c =
    let n = c.args.self in
    twice_left _ _ _ (quotient_low 4294967296 _ _ _ n.positive n.is_reciprocal (omega arith))
    (quotient_high 4294967296 _ _ _ n.positive n.is_reciprocal (omega arith)) c.if-t-n.false
