-- `sheet_steps::command_at` meets its contract.
-- Assumes nothing.
use mathlib.Core.Path.{refl}
use borrow.Author.Tests.{eq-eqb}
use lib.Dec.{eqb, eqb→eq}
use Rattle.specification.specs.Reading.{command_byte}
use Rattle.refusals.specs.declared.Refusal.TheVariants as refusal
use Rattle.sheet_steps.specs.Steps.{handed_on, judged_taken, judged_wrong, judged_ends}
use Rattle.sheet_steps.proofs.command_at.Goals as goal

pub returns-in_err-command : goal.returns-in_err-command
unfolding command_byte
returns-in_err-command c = handed_on c.from_residual.ensures.1 (judged_ends _ _ c.in_err-command.ensures)

pub returns-then-command-code : goal.returns-then-command-code
unfolding command_byte
returns-then-command-code c =
    judged_wrong refusal.NoCommand (λ b. eqb b _) c.in_ok-command.ensures (λ t. c.if-command-code.true (eqb→eq _ _ t)) c.at.ensures refl

pub returns : goal.returns
unfolding command_byte
returns c =
    let w = c.in_ok-command.ensures in
    judged_taken _ (λ b. eqb b _) w w.inside.good (rw (eq-eqb _ _ c.if-command-code.false) tt)
