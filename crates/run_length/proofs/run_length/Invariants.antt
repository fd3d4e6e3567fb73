-- `run_length::run_length` meets its contract.
-- Assumes nothing.
use Rattle.run_length.proofs.GreatSteps.{Steps}
use Rattle.run_length.proofs.run_length.Given as goal

abbrev pub invariant-loop-j : goal.invariant-loop-j
invariant-loop-j l = Steps l.q.n l.q.coefs l.q.degree l.g l.j
