-- `answer_reader::read_factor` meets its contract.
-- Assumes nothing.
use Rattle.answer_reader.proofs.ReadingFactors.{short, degree_high, not_read, factor_read}
use Rattle.answer_reader.proofs.read_factor.Goals as goal

pub returns-then-answer-at-lt3 : goal.returns-then-answer-at-lt3
returns-then-answer-at-lt3 c = let (code, l) = c.requires in short _ _ _ code l c.if-answer-at-lt3.true

pub returns-then-degree-gt-LIMIT : goal.returns-then-degree-gt-LIMIT
returns-then-degree-gt-LIMIT c = let (code, l) = c.requires in degree_high _ _ _ code l c.if-degree-gt-LIMIT.true

pub returns-in_err-poly : goal.returns-in_err-poly
returns-in_err-poly c = let (code, l) = c.requires in rw c.from_residual.ensures (not_read _ _ _ code l c.in_err-poly.ensures)

pub returns : goal.returns
returns c = let (code, l) = c.requires in factor_read _ _ _ code l c.in_ok-poly.ensures
