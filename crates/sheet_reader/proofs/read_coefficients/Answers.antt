-- `sheet_reader::read_coefficients` meets its contract.
-- Assumes nothing.
use Rattle.sheet_steps.specs.Steps.{handed_on}
use Rattle.sheet_reader.specs.Underway.{underway_first, coefficients_end, index_due, index_fault, value_due, value_fault, underway_more}
use Rattle.sheet_reader.proofs.read_coefficients.Goals as goal

pub loop-part-init : goal.loop-part-init
loop-part-init c = underway_first _ _ _ _ c.monomial-coefs.ensures

pub returns-in_err-index : goal.returns-in_err-index
returns-in_err-index c =
    let next = index_due c.loop-part.invariant c.comes.ensures c.coefficient_code-code.ensures c.loop-part-test.true in
    handed_on c.from_residual.ensures.1 (index_fault next c.in_err-index.ensures)

pub returns-in_err-value : goal.returns-in_err-value
returns-in_err-value c =
    let next = index_due c.loop-part.invariant c.comes.ensures c.coefficient_code-code.ensures c.loop-part-test.true in
    handed_on c.from_residual-in_err-value.ensures.1 (value_fault (value_due next c.in_ok-index.ensures) c.in_err-value.ensures)

pub loop-part-preserved : goal.loop-part-preserved
loop-part-preserved c =
    let next = index_due c.loop-part.invariant c.comes.ensures c.coefficient_code-code.ensures c.loop-part-test.true in
    underway_more (value_due next c.in_ok-index.ensures) c.in_ok-index.ensures.inside.good c.in_ok-value.ensures

pub returns : goal.returns
returns c = coefficients_end c.loop-part.invariant c.comes.ensures c.coefficient_code-code.ensures c.loop-part-test.false
