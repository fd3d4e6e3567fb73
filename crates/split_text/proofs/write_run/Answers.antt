-- `split_text::write_run` meets its contract.
-- Assumes nothing.
use native.Mathlib.Omega.{arith}
use Rattle.specification.specs.Text.{ascii, item}
use Rattle.area.specs.Cursors.{puts_none, puts_more, puts_as, fits_byte, fits_as, fits_first}
use Rattle.split_text.specs.TextArrays.{run_text_asked, run_text_none}
use Rattle.split_text.proofs.write_run.Goals as goal

pub write_item-requires : goal.write_item-requires
write_item-requires c =
    fits_first (item "run " c.run_asked-run.result) (ascii "\n") (fits_as (run_text_asked _ c.run_asked-run.ensures c.if-s.true) c.requires)

pub put-requires : goal.put-requires
put-requires c =
    fits_byte (item "run " c.run_asked-run.result) _ (fits_as (run_text_asked _ c.run_asked-run.ensures c.if-s.true) c.requires) c.write_item.ensures

pub returns-then-s : goal.returns-then-s
returns-then-s c =
    puts_as (run_text_asked _ c.run_asked-run.ensures c.if-s.true) (puts_more {bytes = item "run " c.run_asked-run.result} c.write_item.ensures c.put.ensures)

pub returns-else-s : goal.returns-else-s
returns-else-s c = puts_as (run_text_none _ c.if-s.false) (puts_none _ (omega (arith, c.requires.room.fits)))
