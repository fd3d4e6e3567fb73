-- `answer_reader::find` meets its contract.
-- Assumes nothing.
use native.Mathlib.Omega.{arith}
use Rattle.commands.proofs.OperandCounts.{count_low}
use Rattle.answer_reader.proofs.Finding.{searching_first, searching_more, place_found, code_missing}
use Rattle.answer_reader.proofs.find.Goals as goal

pub loop-at-init : goal.loop-at-init
loop-at-init c = searching_first _ _

pub returns-then-here-code : goal.returns-then-here-code
returns-then-here-code c = place_found _ _ c.loop-at.invariant c.loop-at-test.true c.if-here-code.true

pub overflow_add-at : goal.overflow_add-at
overflow_add-at c = omega (arith, c.operand_count.ensures, count_low)

pub overflow_add-at-in-loop-at : goal.overflow_add-at-in-loop-at
overflow_add-at-in-loop-at c = omega (arith, c.operand_count.ensures, count_low)

pub loop-at-preserved : goal.loop-at-preserved
loop-at-preserved c = searching_more _ _ c.loop-at.invariant c.loop-at-test.true c.if-here-code.false c.operand_count.ensures

pub returns : goal.returns
returns c = code_missing _ _ c.loop-at.invariant c.loop-at-test.false
