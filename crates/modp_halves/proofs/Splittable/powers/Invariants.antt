-- `modp_halves::Splittable::powers` meets its contract.
-- Assumes nothing.
use Rattle.algebra.specs.CoefficientLists.{poly}
use Rattle.modp_halves.specs.PowersStored.{PowersStored}
use Rattle.modp_halves.proofs.Splittable.powers.Given as goal

abbrev pub invariant-loop-i : goal.invariant-loop-i
invariant-loop-i l = PowersStored l.self.q.n l.self.q.coefs l.self.q.degree (poly l.self.q.n l.self.v) l.i l.r l.power
