-- `answer_reader::value_at` meets its contract.
-- Assumes nothing.
use mathlib.Core.Path.{◌∙◌}
use native.Mathlib.Omega.{arith}
use Rattle.answer_reader.proofs.ReadingCoefficients.{has_value, has_two, value_of_two, value_of_one}
use Rattle.answer_reader.proofs.value_at.Goals as goal

pub bounds-answer-at-then-answer-at : goal.bounds-answer-at-then-answer-at
bounds-answer-at-then-answer-at c = omega (arith, has_value c.args.answer.now c.args.at c.requires.0)

pub bounds-answer-at-then-answer-at-2 : goal.bounds-answer-at-then-answer-at-2
bounds-answer-at-then-answer-at-2 c = omega (arith, has_two c.args.answer.now c.args.at c.requires.0 c.if-answer-at.true)

pub bounds-answer-at-else-answer-at : goal.bounds-answer-at-else-answer-at
bounds-answer-at-else-answer-at c = omega (arith, has_value c.args.answer.now c.args.at c.requires.0)

pub returns-then-answer-at : goal.returns-then-answer-at
returns-then-answer-at c = c.from_le_bytes.ensures ∙ value_of_two c.args.answer.now c.args.at c.requires.0 c.if-answer-at.true

pub returns-else-answer-at : goal.returns-else-answer-at
returns-else-answer-at c = c.from.ensures ∙ value_of_one c.args.answer.now c.args.at c.requires.0 c.if-answer-at.false
