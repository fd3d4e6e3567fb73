-- `residues::inverse` meets its contract, by descent from e to p % e.
-- Assumes nothing.
use Rattle.residues.proofs.InverseDescent.{Descent}
use Rattle.residues.proofs.inverse.Given as goal

abbrev pub invariant-loop-e : goal.invariant-loop-e
invariant-loop-e l = Descent l.p l.c l.r l.e

abbrev pub decreases-loop-e : goal.decreases-loop-e
decreases-loop-e l = l.e
