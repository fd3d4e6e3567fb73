-- `split_text::write_totals` meets its contract.
-- Assumes nothing.
use mathlib.Core.List.{List, ◌++◌}
use Prim.Native.Nat.{ℕ}
use Rattle.specification.specs.Text.{ascii, item}
use Rattle.answer_writer.specs.declared.Totals.{Totals}
use Rattle.area.specs.Cursors.{puts_more, puts_as, fits_next, fits_byte, fits_as, fits_first}
use Rattle.split_text.specs.TextArrays.{totals_are}
use Rattle.split_text.proofs.write_totals.Goals as goal

abbrev items : Totals → List ℕ
items t = item "total " t.factors ++ item " different " t.different

abbrev free : Totals → List ℕ
free t = item " free " t.free

pub write_items-requires : goal.write_items-requires
write_items-requires c =
    let t = c.args.t in fits_first (items t) (free t) (fits_first (items t ++ free t) (ascii "\n") (fits_as (totals_are t) c.requires))

pub write_item-requires : goal.write_item-requires
write_item-requires c =
    let t = c.args.t in
    fits_next (items t) (free t) (fits_first (items t ++ free t) (ascii "\n") (fits_as (totals_are t) c.requires)) c.write_items.ensures

pub put-requires : goal.put-requires
put-requires c =
    let t = c.args.t in
    fits_byte (items t ++ free t) _ (fits_as (totals_are t) c.requires)
    (puts_more {bytes = items t} c.write_items.ensures c.write_item.ensures)

pub returns : goal.returns
returns c =
    let t = c.args.t in
    puts_as (totals_are t)
    (puts_more {bytes = items t ++ free t} (puts_more {bytes = items t} c.write_items.ensures c.write_item.ensures) c.put.ensures)
