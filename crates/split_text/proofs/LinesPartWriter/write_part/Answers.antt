-- `split_text::Lines::write_part` meets its contract.
-- Assumes nothing.
use mathlib.Core.List.{List, ◌++◌, flat_map}
use Prim.Native.Nat.{ℕ}
use borrow.Author.Rules.{rules}
use Rattle.specification.specs.Text.{item, verdict_text, factor_text}
use Rattle.part_verdict.specs.declared.Part.{Part}
use Rattle.part_verdict.specs.AsPart.{as_verdict, as_factors}
use Rattle.area.specs.Cursors.{puts_more, puts_as, fits_next, fits_as, fits_first}
use Rattle.split_text.specs.TextArrays.{part_is_lem}
use Rattle.split_text.proofs.LinesPartWriter.write_part.Goals as goal

-- the three that are written
abbrev items : Part → List ℕ
items x = item "part " x.degree ++ item " " x.exponent

abbrev word : Part → List ℕ
word x = verdict_text (as_verdict x.verdict)

abbrev factors : Part → List ℕ
factors x = flat_map factor_text (as_factors x.first x.second)

pub write_items-requires : goal.write_items-requires
write_items-requires c =
    let x = c.args.part in
    fits_first (items x) (word x)
    (fits_first (items x ++ word x) (factors x) (fits_as (part_is_lem x (search rules) c.requires.0.base) c.requires.1))

pub put_all-requires : goal.put_all-requires
put_all-requires c =
    let x = c.args.part in
    (fits_as c.verdict_word-word.ensures
    (fits_next (items x) (word x)
    (fits_first (items x ++ word x) (factors x) (fits_as (part_is_lem x (search rules) c.requires.0.base) c.requires.1))
    c.write_items.ensures)).room.fits

pub write_factors-requires : goal.write_factors-requires
write_factors-requires c =
    let x = c.args.part in (
      c.requires.0.first,
      c.requires.0.second,
      fits_next (items x ++ word x) (factors x) (fits_as (part_is_lem x (search rules) c.requires.0.base) c.requires.1)
          (puts_more {bytes = items x} c.write_items.ensures (puts_as c.verdict_word-word.ensures c.put_all.ensures)),
    )

pub returns : goal.returns
returns c =
    let x = c.args.part in
    puts_as (part_is_lem x (search rules) c.requires.0.base)
    (puts_more {bytes = items x ++ word x}
    (puts_more {bytes = items x} c.write_items.ensures (puts_as c.verdict_word-word.ensures c.put_all.ensures))
    c.write_factors.ensures)
