-- `modp_roots::divide_binomial` meets its contract.
-- Assumes nothing.
use Rattle.std.proofs.Common.{arith}
use Rattle.modp_roots.specs.BinomialDivision.{steps_none, steps_more, steps_done}
use Rattle.modp_roots.proofs.divide_binomial.Goals as goal

pub loop-i-init : goal.loop-i-init
loop-i-init c = let pre = c.requires in steps_none pre.3 pre.5 pre.6

pub loop-i-preserved : goal.loop-i-preserved
loop-i-preserved c =
    let pre = c.requires in
    steps_more pre.2 (omega arith) (omega (arith, pre.3, pre.4)) c.loop-i.invariant (rw c.new-modulus.ensures at c.reduce_narrow.ensures)

pub returns : goal.returns
returns c = steps_done (omega arith) c.loop-i.invariant
