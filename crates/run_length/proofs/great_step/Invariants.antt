-- `run_length::great_step` meets its contract.
-- Assumes nothing.
use Rattle.run_length.proofs.RowSum.{PartialStep}
use Rattle.run_length.proofs.great_step.Given as goal

abbrev pub invariant-loop-i : goal.invariant-loop-i
invariant-loop-i l = PartialStep l.f.n l.f.degree l.rows l.g l.i l.r
