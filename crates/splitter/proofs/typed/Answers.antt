-- `splitter::typed` meets its contract.
-- Assumes nothing.
use Rattle.std.proofs.Common.{arith}
use Rattle.sheet_writer.proofs.SheetWritten.{sheet_room}
use Rattle.splitter.proofs.TypedCalls.{typed_short, typed_turned, typed_written}
use Rattle.splitter.proofs.typed.Goals as goal

pub returns-then-area-lt-AREA : goal.returns-then-area-lt-AREA
returns-then-area-lt-AREA c = typed_short c.if-area-lt-AREA.true (rw c.at.ensures at c.from.ensures)

pub write_sheet-requires : goal.write_sheet-requires
write_sheet-requires c =
    let gives = c.in-Ok.ensures.gives in
    (gives.2, sheet_room _ gives.1 (omega (arith, c.if-area-lt-AREA.false)))

pub returns-in-Ok : goal.returns-in-Ok
returns-in-Ok c = typed_written c.if-area-lt-AREA.false c.in-Ok.ensures c.success.ensures c.write_sheet.ensures

pub returns-in-Err : goal.returns-in-Err
returns-in-Err c = typed_turned c.if-area-lt-AREA.false c.in-Err.ensures c.from-in-Err.ensures
