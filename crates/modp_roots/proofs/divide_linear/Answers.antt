-- `modp_roots::divide_linear` meets its contract.
-- Assumes nothing.
use Rattle.std.proofs.Common.{zero-le, arith}
use Rattle.modp_roots.specs.LinearDivision.{synthetic_none, synthetic_more, synthetic_two, synthetic_done}
use Rattle.modp_roots.proofs.divide_linear.Goals as goal

pub loop-i-init : goal.loop-i-init
loop-i-init c = let pre = c.requires in synthetic_none (omega (arith, pre.1)) pre.2 pre.3 pre.4

pub loop-i-preserved : goal.loop-i-preserved
loop-i-preserved c =
    let is = c.new-modulus.ensures in
    synthetic_two (omega arith) c.loop-i.invariant (rw is at c.reduce_narrow-square.ensures)
    (rw is at c.reduce_narrow-t.ensures) (rw is at c.reduce_narrow.ensures) (rw is at c.reduce_narrow-b.ensures)

pub returns : goal.returns
returns c =
    synthetic_done zero-le (synthetic_more (omega arith) c.loop-i.invariant (rw c.new-modulus.ensures at c.reduce_narrow-2.ensures))
