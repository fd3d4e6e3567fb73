-- `residues::inverse` meets its contract.
-- Assumes nothing.
use Rattle.residues.proofs.InverseDescent.{descent_more}
use Rattle.residues.proofs.inverse.Goals as goal

pub loop-e-preserved : goal.loop-e-preserved
loop-e-preserved c =
    let (is, low) = c.times-r.ensures in
    descent_more c.requires.0 c.loop-e.invariant c.loop-e-test.true is low
