-- `sheet_writer::write_sheet` meets its contract: head, coefficients, and what follows them.
-- Assumes nothing.
use borrow.Author.Rules.{rules}
use Rattle.area.specs.Cursors.{puts_more, puts_as, fits_as, fits_first, fits_next}
use Rattle.sheet_writer.proofs.SheetWritten.{sheet_is}
use Rattle.sheet_writer.proofs.write_sheet.Goals as goal

pub write_head-requires : goal.write_head-requires
write_head-requires c = (c.requires.0, fits_first _ _ (fits_as (sheet_is c.args.s (search rules) c.requires.0) (record { room = c.requires.1 })))

pub write_coefficients-requires : goal.write_coefficients-requires
write_coefficients-requires c =
    fits_first _ _ (fits_next _ _ (fits_as (sheet_is c.args.s (search rules) c.requires.0) (record { room = c.requires.1 })) c.write_head.ensures)

pub write_last-requires : goal.write_last-requires
write_last-requires c =
    fits_next _ _ (fits_next _ _ (fits_as (sheet_is c.args.s (search rules) c.requires.0) (record { room = c.requires.1 })) c.write_head.ensures)
    c.write_coefficients.ensures

pub returns : goal.returns
returns c =
    let w = puts_as (sheet_is c.args.s (search rules) c.requires.0)
    (puts_more c.write_head.ensures (puts_more c.write_coefficients.ensures c.write_last.ensures)) in
    search rules
