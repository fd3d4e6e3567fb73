-- `modp_roots::values` meets its contract.
-- Assumes nothing.
use Rattle.std.proofs.Common.{arith}
use Rattle.algebra.specs.Fields.{prime_pos}
use Rattle.modp_roots.specs.Values.{horner_none, horner_more}
use Rattle.modp_roots.proofs.values.Goals as goal

pub loop-i-init : goal.loop-i-init
loop-i-init c = let pre = c.requires in horner_none (prime_pos pre.0) pre.2 pre.4

pub loop-i-preserved : goal.loop-i-preserved
loop-i-preserved c =
    let pre = c.requires in
    let H = c.loop-i.invariant in
    horner_more (omega arith) (omega (arith, pre.3.len, H.limit)) (prime_pos pre.0) H (rw c.new-modulus.ensures at c.horner_step.ensures)
