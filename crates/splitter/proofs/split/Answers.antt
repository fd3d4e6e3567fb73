-- `splitter::split` meets its contract.
-- Assumes nothing.
use Rattle.splitter.specs.Outcomes.{called_refused, called_wrote, split_short, split_refused, split_answered}
use Rattle.splitter.proofs.split.Goals as goal

pub returns-then-area-lt-AREA : goal.returns-then-area-lt-AREA
returns-then-area-lt-AREA c = called_refused (split_short _ _ c.if-area-lt-AREA.true) (rw c.at.ensures at c.from.ensures)

pub returns-in-Ok : goal.returns-in-Ok
returns-in-Ok c = called_wrote (split_answered _ _ c.if-area-lt-AREA.false c.in-Ok.ensures.0) c.success.ensures c.answer_to.ensures

pub returns-in-Err : goal.returns-in-Err
returns-in-Err c = called_refused (split_refused _ _ c.if-area-lt-AREA.false c.in-Err.ensures) c.from-in-Err.ensures
