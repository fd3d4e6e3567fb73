-- `sheet_steps::value_at` meets its contract.
-- Assumes nothing.
use mathlib.Core.Path.{refl}
use native.Mathlib.Omega.{arith}
use Rattle.specification.specs.Coefficients.{value_taken}
use Rattle.layouts.specs.Operands.{value_passes, value_within}
use Rattle.refusals.specs.declared.Refusal.TheVariants as refusal
use Rattle.sheet_steps.specs.Steps.{handed_on, judged_taken, judged_wrong, judged_ends}
use Rattle.sheet_steps.proofs.value_at.Goals as goal
use Rattle.sheet_steps.proofs.value_at.Goals.{then-value-eq0-via-then-value-eq0, then-value-eq0-via-else-value-eq0+then-square-value}

pub returns-in_err-value : goal.returns-in_err-value
returns-in_err-value c = handed_on c.from_residual.ensures.1 (judged_ends _ _ c.in_err-value.ensures)

pub returns-then-value-eq0 : goal.returns-then-value-eq0
returns-then-value-eq0 c =
    let p = c.args.prime in
    judged_wrong refusal.WrongValue (value_taken p) c.in_ok-value.ensures
    (λ t.
    let (positive, below) = value_within p c.in_ok-value.value t in
    elim c.then-value-eq0.branch [
      | then-value-eq0-via-then-value-eq0 w ↦ omega arith
      | then-value-eq0-via-else-value-eq0+then-square-value w ↦ omega (arith, w.square.ensures)
    ]) c.at.ensures refl

pub returns : goal.returns
returns c =
    let p = c.args.prime in
    judged_taken _ (value_taken p) c.in_ok-value.ensures (omega arith) (value_passes p _ (omega arith) (omega arith))
