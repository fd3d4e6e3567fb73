-- The loop of `line_reader::skip`: blanks up to the place that it looks at.
-- Assumes nothing.
use Rattle.specification.specs.Grammar.{Blanks}
use Rattle.line_reader.proofs.skip.Given as goal

abbrev pub invariant-loop-i : goal.invariant-loop-i
invariant-loop-i l = Blanks l.s l.fn.at l.i
