-- `split_text::write_lines` meets its contract: the head, the parts, the totals that were counted, and the run.
-- Assumes nothing.
use mathlib.Core.Path.{ap}
use mathlib.Core.List.{List, ◌++◌}
use Prim.Native.Nat.{ℕ}
use native.Mathlib.Omega.{arith}
use borrow.Author.Rules.{rules}
use Rattle.specification.specs.Totals.{totals_of}
use Rattle.specification.specs.Text.{head_text, total_text, run_text}
use Rattle.layouts.specs.AnswerLayout.{sheet_parts}
use Rattle.commands.specs.declared.Sheet.{Sheet}
use Rattle.commands.specs.AsSheet.{as_sheet}
use Rattle.area.specs.Cursors.{puts_more, puts_as, fits_next, fits_as, fits_first}
use Rattle.split_text.specs.TextArrays.{part_lines, lines_are}
use Rattle.split_text.specs.TextSize.{sized_room, answer_sized}
use Rattle.split_text.proofs.write_lines.Goals as goal

-- the four that are written
abbrev head : Sheet → List ℕ
head s = head_text s.prime s.degree

abbrev parts : Sheet → List ℕ
parts s = part_lines (as_sheet s)

abbrev totals : Sheet → List ℕ
totals s = total_text (totals_of (sheet_parts (as_sheet s)))

abbrev run : Sheet → List ℕ
run s = run_text (as_sheet s)

pub write_head-requires : goal.write_head-requires
write_head-requires c =
    let (F, long) = c.requires in
    let s = c.args.s.sheet in
    let whole = lines_are s (search rules) (omega (arith, F.left.monic.array.fits)) in
    fits_first (head s) (parts s)
    (fits_first (head s ++ parts s) (totals s)
    (fits_first (head s ++ parts s ++ totals s) (run s) (fits_as whole (record { room = sized_room (answer_sized (as_sheet s) c.args.s.good) long }))))

pub write_parts-totals-requires : goal.write_parts-totals-requires
write_parts-totals-requires c =
    let (F, long) = c.requires in
    let s = c.args.s.sheet in
    let whole = lines_are s (search rules) (omega (arith, F.left.monic.array.fits)) in (
      F,
      fits_next (head s) (parts s)
          (fits_first (head s ++ parts s) (totals s)
          (fits_first (head s ++ parts s ++ totals s) (run s) (fits_as whole (record { room = sized_room (answer_sized (as_sheet s) c.args.s.good) long }))))
          c.write_head.ensures,
    )

pub write_totals-requires : goal.write_totals-requires
write_totals-requires c =
    let (F, long) = c.requires in
    let s = c.args.s.sheet in
    let whole = lines_are s (search rules) (omega (arith, F.left.monic.array.fits)) in
    fits_as (ap total_text c.write_parts-totals.ensures.1)
    (fits_next (head s ++ parts s) (totals s)
    (fits_first (head s ++ parts s ++ totals s) (run s) (fits_as whole (record { room = sized_room (answer_sized (as_sheet s) c.args.s.good) long })))
    (puts_more {bytes = head s} c.write_head.ensures c.write_parts-totals.ensures.0))

pub write_run-requires : goal.write_run-requires
write_run-requires c =
    let (F, long) = c.requires in
    let s = c.args.s.sheet in
    let whole = lines_are s (search rules) (omega (arith, F.left.monic.array.fits)) in
    fits_next (head s ++ parts s ++ totals s) (run s) (fits_as whole (record { room = sized_room (answer_sized (as_sheet s) c.args.s.good) long }))
    (puts_more {bytes = head s ++ parts s} (puts_more {bytes = head s} c.write_head.ensures c.write_parts-totals.ensures.0)
    (puts_as (ap total_text c.write_parts-totals.ensures.1) c.write_totals.ensures))

pub returns : goal.returns
returns c =
    let s = c.args.s.sheet in
    let w = puts_as (lines_are s (search rules) (omega (arith, c.requires.0.left.monic.array.fits)))
    (puts_more {bytes = head s ++ parts s ++ totals s}
    (puts_more {bytes = head s ++ parts s} (puts_more {bytes = head s} c.write_head.ensures c.write_parts-totals.ensures.0)
    (puts_as (ap total_text c.write_parts-totals.ensures.1) c.write_totals.ensures))
    c.write_run.ensures) in
    search rules
