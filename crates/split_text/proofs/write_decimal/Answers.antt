-- `split_text::write_decimal` meets its contract.
-- Assumes nothing.
use Rattle.std.proofs.Common.{◌∙◌}
use Rattle.area.specs.Cursors.{puts_as, fits_as}
use Rattle.split_text.specs.Decimal.{printed_decimal}
use Rattle.split_text.proofs.write_decimal.Goals as goal

pub put_all-requires : goal.put_all-requires
put_all-requires c = (fits_as (c.as_bytes.ensures.value ∙ c.format.ensures.text ∙ printed_decimal c.args.n c.ranges.n.fits) c.requires).room.fits

pub returns : goal.returns
returns c = puts_as (c.as_bytes.ensures.value ∙ c.format.ensures.text ∙ printed_decimal c.args.n c.ranges.n.fits) c.put_all.ensures
