-- `run_length::meeting` meets its contract.
-- Assumes nothing.
use Rattle.run_length.specs.Meetings.{NoneFrom}
use Rattle.run_length.proofs.meeting.Given as goal

abbrev pub invariant-loop-i : goal.invariant-loop-i
invariant-loop-i l = NoneFrom l.f.n l.f.coefs l.g l.i
