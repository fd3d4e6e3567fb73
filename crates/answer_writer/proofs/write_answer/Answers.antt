-- `answer_writer::write_answer` meets its contract: the head, the parts, and the end with the totals counted.
-- Assumes nothing.
use mathlib.Core.Path.{ap}
use native.Mathlib.Omega.{arith}
use borrow.Author.Rules.{rules}
use Rattle.layouts.specs.AnswerLayout.{end_bytes}
use Rattle.area.specs.Cursors.{puts_more, puts_as, fits_as, fits_first, fits_next}
use Rattle.answer_writer.specs.SheetAnswers.{answer_written, answer_room}
use Rattle.answer_writer.proofs.write_answer.Goals as goal

pub write_head-requires : goal.write_head-requires
write_head-requires c =
    let (F, long) = c.requires in (omega (arith, F.left.monic.array.fits), fits_first _ _ (record { room = answer_room _ c.args.s.good long }))

pub write_parts-totals-requires : goal.write_parts-totals-requires
write_parts-totals-requires c =
    let (F, long) = c.requires in (F, fits_first _ _ (fits_next _ _ (record { room = answer_room _ c.args.s.good long }) c.write_head.ensures))

pub write_end-requires : goal.write_end-requires
write_end-requires c =
    fits_as (ap (end_bytes _) c.write_parts-totals.ensures.1)
    (fits_next _ _ (fits_next _ _ (record { room = answer_room _ c.args.s.good c.requires.1 }) c.write_head.ensures) c.write_parts-totals.ensures.0)

pub returns : goal.returns
returns c =
    let w = puts_as (answer_written _)
    (puts_more c.write_head.ensures
    (puts_more c.write_parts-totals.ensures.0 (puts_as (ap (end_bytes _) c.write_parts-totals.ensures.1) c.write_end.ensures))) in
    search rules
