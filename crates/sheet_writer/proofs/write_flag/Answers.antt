-- `sheet_writer::write_flag` meets its contract.
-- Assumes nothing.
use native.Mathlib.Omega.{arith}
use Rattle.area.specs.Cursors.{puts_none, puts_as, fits_as}
use Rattle.layouts.specs.CommandBytes.{flag_is, no_flag}
use Rattle.sheet_writer.proofs.write_flag.Goals as goal

pub put-requires : goal.put-requires
put-requires c = omega (arith, (fits_as (flag_is _ c.if-asked.true) c.requires).room.fits)

pub returns-then-asked : goal.returns-then-asked
returns-then-asked c = puts_as (flag_is _ c.if-asked.true) c.put.ensures

pub returns-else-asked : goal.returns-else-asked
returns-else-asked c = puts_as (no_flag _ c.if-asked.false) (puts_none _ (omega (arith, c.requires.room.fits)))
