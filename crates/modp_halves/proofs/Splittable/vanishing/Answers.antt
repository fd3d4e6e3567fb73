-- `modp_halves::Splittable::vanishing` meets its contract.
-- Assumes nothing.
use Rattle.modp_halves.specs.Candidates.{vanishing_found}
use Rattle.modp_halves.proofs.Splittable.vanishing.Goals as goal

pub returns : goal.returns
returns c = vanishing_found _ c.args.self.halvable.monic c.requires.1 c.powers-t.ensures c.least_dependency.result c.least_dependency.ensures.0
