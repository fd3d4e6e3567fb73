-- `sheet_writer::write_last` meets its contract: what is asked for, and the end.
-- Assumes nothing.
use mathlib.Core.Path.{sym}
use mathlib.Core.List.{[], ◌∷◌}
use Rattle.layouts.specs.SheetLayout.{last_bytes_is}
use Rattle.area.specs.Cursors.{puts_more, puts_as, fits_as, fits_first, fits_byte}
use Rattle.sheet_writer.proofs.write_last.Goals as goal

pub write_flag-requires : goal.write_flag-requires
write_flag-requires c = fits_first _ (0x0F ∷ []) (fits_as (sym (last_bytes_is _)) c.requires)

pub put-requires : goal.put-requires
put-requires c = fits_byte _ 0x0F (fits_as (sym (last_bytes_is _)) c.requires) c.write_flag.ensures

pub returns : goal.returns
returns c = puts_as (sym (last_bytes_is _)) (puts_more c.write_flag.ensures c.put.ensures)
