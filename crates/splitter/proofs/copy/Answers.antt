-- `splitter::copy` meets its contract.
-- Assumes nothing.
use Rattle.copies.specs.CopiesHold.{call_short}
use Rattle.splitter.specs.Outcomes.{called_refused, called_wrote, copy_refused, copy_given}
use Rattle.splitter.proofs.copy.Goals as goal

pub returns-then-area-lt-AREA : goal.returns-then-area-lt-AREA
returns-then-area-lt-AREA c = called_refused (call_short _ _ c.if-area-lt-AREA.true) (rw c.at.ensures at c.from.ensures)

pub returns-in-Ok : goal.returns-in-Ok
returns-in-Ok c = called_wrote (copy_given _ _ c.if-area-lt-AREA.false c.in-Ok.ensures.0) c.success.ensures c.copy_to.ensures

pub returns-in-Err : goal.returns-in-Err
returns-in-Err c =
    called_refused (copy_refused _ _ c.if-area-lt-AREA.false c.in-Err.ensures) (rw c.at-in-Err.ensures at c.from-in-Err.ensures)
