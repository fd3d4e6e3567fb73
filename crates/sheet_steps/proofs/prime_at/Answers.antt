-- `sheet_steps::prime_at` meets its contract.
-- Assumes nothing.
use mathlib.Core.Path.{refl, sym, ◌∙◌}
use Rattle.specification.specs.Limits.{taken}
use Rattle.specification.specs.Sheets.{prime_operand}
use Rattle.refusals.specs.declared.Refusal.TheVariants as refusal
use Rattle.sheet_steps.specs.Steps.{handed_on, with_command_ends, past_command, operand_ends, operand_taken, operand_wrong}
use Rattle.sheet_steps.proofs.prime_at.Goals as goal

pub returns-in_err-place : goal.returns-in_err-place
returns-in_err-place c = handed_on c.from_residual.ensures.1 (with_command_ends _ prime_operand c.in_err-place.ensures)

pub returns-in_err-prime : goal.returns-in_err-prime
returns-in_err-prime c =
    handed_on c.from_residual-in_err-prime.ensures.1 (operand_ends (past_command c.in_ok-place.ensures refl c.in_err-prime.ensures) _ taken refl)

pub returns-then-not-taken : goal.returns-then-not-taken
returns-then-not-taken c =
    operand_wrong (past_command c.in_ok-place.ensures refl c.in_ok-prime.ensures) refusal.NoPrime taken refl
    (λ t. rw (sym c.taken.ensures ∙ c.if-not-taken.true) at t) c.at.ensures

pub returns : goal.returns
returns c =
    let w = c.in_ok-prime.ensures in
    operand_taken (past_command c.in_ok-place.ensures refl w) _ taken refl w.inside.good (rw (sym c.taken.ensures ∙ c.if-not-taken.false) tt)
