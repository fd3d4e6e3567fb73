-- `answer_reader::multiply_at` meets its contract.
-- Assumes nothing.
use mathlib.Core.Path.{sym, ◌∙◌}
use Rattle.answer_reader.proofs.Multiplying.{factor_missing, multiplied_by}
use Rattle.answer_reader.proofs.multiply_at.Goals as goal

pub returns-in_err-read_factor : goal.returns-in_err-read_factor
returns-in_err-read_factor c = rw c.from_residual.ensures (factor_missing _ _ _ _ c.in_err-read_factor.ensures)

pub grow-requires : goal.grow-requires
grow-requires c = c.in_ok-read_factor.ensures.sound.0 ∙ sym c.requires.2

pub returns : goal.returns
returns c = multiplied_by _ _ _ _ c.in_ok-read_factor.ensures c.requires.2 _ c.grow.ensures
