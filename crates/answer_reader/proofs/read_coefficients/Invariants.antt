-- `answer_reader::read_coefficients` meets its contract.
-- Assumes nothing.
use Rattle.std.proofs.Common.{◌-◌, length}
use Rattle.answer_reader.proofs.ReadingCoefficients.{Underway}
use Rattle.answer_reader.proofs.read_coefficients.Given as goal

abbrev pub invariant-loop-next : goal.invariant-loop-next
invariant-loop-next l = Underway l.answer l.at l.degree l.prime.value l.coefs l.next

abbrev pub decreases-loop-next : goal.decreases-loop-next
decreases-loop-next l = length l.answer - l.next
