-- `answer_reader::find` meets its contract.
-- Assumes nothing.
use Rattle.std.proofs.Common.{◌-◌, length}
use Rattle.answer_reader.proofs.Finding.{Searching}
use Rattle.answer_reader.proofs.find.Given as goal

abbrev pub invariant-loop-at : goal.invariant-loop-at
invariant-loop-at l = Searching l.answer l.code l.at

abbrev pub decreases-loop-at : goal.decreases-loop-at
decreases-loop-at l = length l.answer - l.at
