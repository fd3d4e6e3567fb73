-- `split_text::write_item` meets its contract.
-- Assumes nothing.
use Rattle.area.specs.Cursors.{puts_more, fits_next}
use Rattle.split_text.proofs.write_item.Goals as goal

pub write_decimal-requires : goal.write_decimal-requires
write_decimal-requires c = fits_next _ _ c.requires c.put_all.ensures

pub returns : goal.returns
returns c = puts_more c.put_all.ensures c.write_decimal.ensures
