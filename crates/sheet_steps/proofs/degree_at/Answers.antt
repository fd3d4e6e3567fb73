-- `sheet_steps::degree_at` meets its contract.
-- Assumes nothing.
use mathlib.Core.Path.{refl}
use native.Mathlib.Omega.{arith}
use Rattle.specification.specs.Sheets.{degree_taken, degree_operand}
use Rattle.layouts.specs.Operands.{degree_passes, degree_within}
use Rattle.refusals.specs.declared.Refusal.TheVariants as refusal
use Rattle.sheet_steps.specs.Steps.{handed_on, with_command_ends, past_command, operand_ends, operand_taken, operand_wrong}
use Rattle.sheet_steps.proofs.degree_at.Goals as goal

pub returns-in_err-place : goal.returns-in_err-place
returns-in_err-place c = handed_on c.from_residual.ensures.1 (with_command_ends _ degree_operand c.in_err-place.ensures)

pub returns-in_err-operand : goal.returns-in_err-operand
returns-in_err-operand c =
    handed_on c.from_residual-in_err-operand.ensures.1 (operand_ends (past_command c.in_ok-place.ensures refl c.in_err-operand.ensures) _ degree_taken refl)

pub returns-then-degree-eq0 : goal.returns-then-degree-eq0
returns-then-degree-eq0 c =
    operand_wrong (past_command c.in_ok-place.ensures refl c.in_ok-operand.ensures) refusal.WrongDegree degree_taken refl
    (λ t. let within = degree_within c.in_ok-operand.operand t in omega (arith, within.0, within.1)) c.at.ensures

pub returns : goal.returns
returns c =
    operand_taken (past_command c.in_ok-place.ensures refl c.in_ok-operand.ensures) _ degree_taken refl (omega arith)
    (degree_passes c.in_ok-operand.operand (omega arith) (omega arith))
