-- `modp_radical::derivative` meets its contract.
-- Assumes nothing.
use Rattle.std.proofs.Common.{arith}
use Rattle.modp_radical.proofs.DerivedArrays.{derivative_stored}
use Rattle.modp_radical.proofs.derivative.Goals as goal

pub new-modulus-requires : goal.new-modulus-requires
new-modulus-requires c = omega (arith, c.args.a.monic.reduced.low 0)

pub returns : goal.returns
returns c =
    let a = c.args.a.monic in
    derivative_stored _ a.reduced a.monic.below (omega (arith, c.loop-k-test.false)) c.loop-k.invariant
