-- `sheet_writer::write_head` meets its contract.
-- Assumes nothing.
use native.Mathlib.Omega.{arith}
use borrow.Author.Rules.{rules}
use Rattle.area.specs.Cursors.{puts_as, fits_as}
use Rattle.sheet_writer.proofs.SheetWritten.{head_is}
use Rattle.sheet_writer.proofs.write_head.Goals as goal

pub put_all-requires : goal.put_all-requires
put_all-requires c = omega (arith, (fits_as (head_is c.args.s (search rules) c.requires.0) c.requires.1).room.fits)

pub returns : goal.returns
returns c = puts_as (head_is c.args.s (search rules) c.requires.0) c.put_all.ensures
