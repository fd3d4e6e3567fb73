-- `run_length::mark` meets its contract: the sum has 38 bits.
-- Assumes nothing.
use Rattle.run_length.proofs.MarkSum.{Sum}
use Rattle.run_length.proofs.mark.Given as goal

abbrev pub invariant-loop-i : goal.invariant-loop-i
invariant-loop-i l = Sum l.w l.a l.s l.i
