-- The loop of `line_reader::read_digits`: the number so far, up to the next place.
-- Assumes nothing.
use Rattle.std.proofs.Common.{length, ◌-◌}
use Rattle.line_reader.specs.LineContracts.{Counted}
use Rattle.line_reader.proofs.read_digits.Given as goal

abbrev pub invariant-loop-d : goal.invariant-loop-d
invariant-loop-d l = Counted l.s l.at l.next l.value

abbrev pub decreases-loop-d : goal.decreases-loop-d
decreases-loop-d l = length l.s - l.next
