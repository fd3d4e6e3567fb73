-- `answer_reader::read_coefficient` meets its contract.
-- Assumes nothing.
use native.Mathlib.Omega.{arith}
use Rattle.answer_reader.proofs.ReadingCoefficients.{has_value, operands_missing, index_high, value_high, coefficient_read}
use Rattle.answer_reader.proofs.read_coefficient.Goals as goal

pub returns-then-answer-at : goal.returns-then-answer-at
returns-then-answer-at c = operands_missing _ _ c.requires.0 c.requires.1 (omega (arith, c.operand_count.ensures))

pub bounds-answer-at-2 : goal.bounds-answer-at-2
bounds-answer-at-2 c = omega (arith, c.operand_count.ensures, has_value c.args.answer.now c.args.at c.requires.0)

pub returns-then-degree-index : goal.returns-then-degree-index
returns-then-degree-index c = index_high _ _ c.requires.0 c.if-degree-index.true

pub returns-then-square-value : goal.returns-then-square-value
returns-then-square-value c = value_high _ _ c.requires.0 (omega (arith, c.value_at-value.ensures, c.square.ensures))

pub returns : goal.returns
returns c =
    coefficient_read _ _ c.requires.0 (omega (arith, c.operand_count.ensures)) c.if-degree-index.false c.value_at-value.ensures
    (omega (arith, c.square.ensures))
