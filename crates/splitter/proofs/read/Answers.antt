-- `splitter::read` meets its contract.
-- Assumes nothing.
use native.Mathlib.Omega.{arith}
use Rattle.sheet_writer.proofs.SheetWritten.{sheet_room}
use Rattle.splitter.specs.Outcomes.{called_refused, called_wrote}
use Rattle.splitter.proofs.ReadCall.{read_short, read_none, read_other, read_found}
use Rattle.splitter.proofs.read.Goals as goal
use Rattle.splitter.proofs.read.Goals.{in_default-via-in-Some+else-is_answer, in_default-via-in_default}

pub returns-then-area-lt-AREA : goal.returns-then-area-lt-AREA
returns-then-area-lt-AREA c = called_refused (read_short _ _ c.if-area-lt-AREA.true) (rw c.at.ensures at c.from.ensures)

pub write_sheet-requires : goal.write_sheet-requires
write_sheet-requires c =
    let h = c.in-Some.ensures in
    (omega (arith, h.sound.array.fits), sheet_room _ h.good (omega (arith, c.if-area-lt-AREA.false)))

pub returns-in-Some : goal.returns-in-Some
returns-in-Some c =
    let is = c.is_answer.ensures.yes c.if-is_answer.true in
    called_wrote (read_found _ _ c.if-area-lt-AREA.false c.in-Some.ensures is) c.success.ensures c.write_sheet.ensures

pub returns-in_default : goal.returns-in_default
returns-in_default c =
    elim c.in_default.branch [
      | in_default-via-in-Some+else-is_answer w ↦
          called_refused (read_other _ _ c.if-area-lt-AREA.false w.in-Some.ensures (w.is_answer.ensures.no w.if-is_answer.false))
          (rw c.at-in_default.ensures at c.from-in_default.ensures)
      | in_default-via-in_default w ↦
          called_refused (read_none _ _ c.if-area-lt-AREA.false w.in_default.ensures) (rw c.at-in_default.ensures at c.from-in_default.ensures)
    ]
