-- `split_text::refusal_text` meets its contract.
-- Assumes nothing.
use mathlib.Core.List.{◌++◌}
use borrow.Author.Rules.{rules}
use Rattle.specification.specs.Text.{ascii, item}
use Rattle.area.specs.Cursors.{puts_more, puts_as, fits_byte, fits_as, fits_first}
use Rattle.split_text.specs.TextArrays.{refusal_is}
use Rattle.split_text.proofs.refusal_text.Goals as goal

pub write_items-requires : goal.write_items-requires
write_items-requires c = fits_first (item "refused " c.args.number ++ item " at " c.args.place) (ascii "\n") (fits_as (refusal_is _ _) (record { room = c.requires }))

pub put-requires : goal.put-requires
put-requires c = fits_byte (item "refused " c.args.number ++ item " at " c.args.place) _ (fits_as (refusal_is _ _) (record { room = c.requires })) c.write_items.ensures

pub returns : goal.returns
returns c =
    let w = puts_as (refusal_is _ _) (puts_more {bytes = item "refused " c.args.number ++ item " at " c.args.place} c.write_items.ensures c.put.ensures) in
    search rules
