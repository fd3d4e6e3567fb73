-- `split_text::write_items` meets its contract.
-- Assumes nothing.
use Rattle.area.specs.Cursors.{puts_more, fits_next, fits_first}
use Rattle.split_text.proofs.write_items.Goals as goal

pub write_item-requires : goal.write_item-requires
write_item-requires c = fits_first _ _ c.requires

pub write_item-requires-2 : goal.write_item-requires-2
write_item-requires-2 c = fits_next _ _ c.requires c.write_item.ensures

pub returns : goal.returns
returns c = puts_more c.write_item.ensures c.write_item-2.ensures
