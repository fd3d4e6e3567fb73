-- `modp_halves::Splittable::powers` meets its contract.
-- Assumes nothing.
use Rattle.std.proofs.Common.{arith}
use Rattle.modp_halves.specs.Halves.{positive}
use Rattle.modp_halves.specs.PowersStored.{powers_none, powers_more}
use Rattle.modp_halves.proofs.Splittable.powers.Goals as goal

pub loop-i-init : goal.loop-i-init
loop-i-init c = let S = c.args.self.halvable in powers_none S.prime.large (positive S) c.monomial-power.ensures

pub loop-i-preserved : goal.loop-i-preserved
loop-i-preserved c = powers_more _ (omega arith) c.loop-i.invariant c.product_modulo-next.ensures
