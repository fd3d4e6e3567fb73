-- `sheet_steps::index_at` meets its contract.
-- Assumes nothing.
use mathlib.Core.Path.{refl}
use native.Mathlib.Omega.{arith}
use Rattle.specification.specs.Coefficients.{index_taken}
use Rattle.layouts.specs.Operands.{index_passes, index_within}
use Rattle.refusals.specs.declared.Refusal.TheVariants as refusal
use Rattle.sheet_steps.specs.Steps.{handed_on, judged_taken, judged_wrong, judged_ends}
use Rattle.sheet_steps.proofs.index_at.Goals as goal

pub returns-in_err-operand : goal.returns-in_err-operand
returns-in_err-operand c = handed_on c.from_residual.ensures.1 (judged_ends _ _ c.in_err-operand.ensures)

pub returns-then-degree-index : goal.returns-then-degree-index
returns-then-degree-index c =
    let a = c.args in
    judged_wrong refusal.WrongIndex (index_taken a.degree a.least) c.in_ok-operand.ensures
    (λ t. let within = index_within a.degree a.least _ t in omega (arith, within.0, within.1)) c.at.ensures refl

pub returns : goal.returns
returns c =
    let a = c.args in
    judged_taken _ (index_taken a.degree a.least) c.in_ok-operand.ensures (omega arith)
    (index_passes a.degree a.least _ (omega arith) (omega arith))
