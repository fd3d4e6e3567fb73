-- `answer_reader::shows_run` meets its contract.
-- Assumes nothing.
use mathlib.Core.Path.{◌∙◌}
use Rattle.answer_reader.proofs.Finding.{has_by_place}
use Rattle.answer_reader.proofs.shows_run.Goals as goal

pub returns : goal.returns
returns c = c.is_some.ensures ∙ has_by_place _ _ _ c.find.ensures
