-- `split_text::write_head` meets its contract.
-- Assumes nothing.
use mathlib.Core.List.{◌++◌}
use Rattle.specification.specs.Text.{ascii, item}
use Rattle.area.specs.Cursors.{puts_more, puts_as, fits_byte, fits_as, fits_first}
use Rattle.split_text.specs.TextArrays.{head_is}
use Rattle.split_text.proofs.write_head.Goals as goal

pub write_items-requires : goal.write_items-requires
write_items-requires c = fits_first (item "prime " c.args.p ++ item " degree " c.args.d) (ascii "\n") (fits_as (head_is _ _) c.requires)

pub put-requires : goal.put-requires
put-requires c = fits_byte (item "prime " c.args.p ++ item " degree " c.args.d) _ (fits_as (head_is _ _) c.requires) c.write_items.ensures

pub returns : goal.returns
returns c = puts_as (head_is _ _) (puts_more {bytes = item "prime " c.args.p ++ item " degree " c.args.d} c.write_items.ensures c.put.ensures)
