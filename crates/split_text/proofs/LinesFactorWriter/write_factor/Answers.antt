-- `split_text::Lines::write_factor` meets its contract.
-- Assumes nothing.
use mathlib.Core.List.{List, ◌++◌}
use Prim.Native.Nat.{ℕ, ◌+◌}
use lib.ListN.{take}
use Rattle.specification.specs.Text.{ascii, item, coefficient_text}
use Rattle.part_verdict.specs.declared.Factor.{Factor}
use Rattle.area.specs.Cursors.{puts_more, puts_as, fits_next, fits_byte, fits_as, fits_first}
use Rattle.split_text.specs.TextArrays.{factor_is}
use Rattle.split_text.proofs.LinesFactorWriter.write_factor.Goals as goal

-- the two that stand before the end of the line
abbrev times : Factor → List ℕ
times q = item "factor " q.times

abbrev coefficients : Factor → List ℕ
coefficients q = coefficient_text (take (q.degree + 1) q.coefs)

pub write_item-requires : goal.write_item-requires
write_item-requires c =
    let q = c.args.q in fits_first (times q) (coefficients q) (fits_first (times q ++ coefficients q) (ascii "\n") (fits_as (factor_is q) c.requires.1))

pub write_coefficients-requires : goal.write_coefficients-requires
write_coefficients-requires c =
    let q = c.args.q in
    fits_next (times q) (coefficients q) (fits_first (times q ++ coefficients q) (ascii "\n") (fits_as (factor_is q) c.requires.1))
    c.write_item.ensures

pub put-requires : goal.put-requires
put-requires c =
    let q = c.args.q in
    fits_byte (times q ++ coefficients q) _ (fits_as (factor_is q) c.requires.1)
    (puts_more {bytes = times q} c.write_item.ensures c.write_coefficients.ensures)

pub returns : goal.returns
returns c =
    let q = c.args.q in
    puts_as (factor_is q)
    (puts_more {bytes = times q ++ coefficients q} (puts_more {bytes = times q} c.write_item.ensures c.write_coefficients.ensures)
    c.put.ensures)
