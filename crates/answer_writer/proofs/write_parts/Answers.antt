-- `answer_writer::write_parts` meets its contract: after i turns the first i parts are written and counted.
-- Assumes nothing.
use Rattle.answer_writer.proofs.PartsWriting.{
  writing_none,
  writing_done,
  writing_asks,
  writing_fits,
  writing_room,
  writing_low,
  writing_repeated,
  writing_more,
}
use Rattle.answer_writer.proofs.write_parts.Goals as goal

pub loop-i-init : goal.loop-i-init
loop-i-init g c = let (F, room) = c.requires in writing_none _ F c.args.s.good room c.as_slice-powers.ensures.value

pub next_part-next-requires : goal.next_part-next-requires
next_part-next-requires g c =
    let (F, room) = c.requires in
    writing_asks _ F c.args.s.good room c.as_slice-powers.ensures.value c.loop-i.invariant c.loop-i-test.true

pub write_part-requires : goal.write_part-requires
write_part-requires g c =
    let (F, room) = c.requires in (
      writing_fits _ F c.args.s.good room c.as_slice-powers.ensures.value c.loop-i.invariant c.loop-i-test.true c.next_part-next.ensures,
      writing_room _ F c.args.s.good room c.as_slice-powers.ensures.value c.loop-i.invariant c.loop-i-test.true c.next_part-next.ensures,
    )

pub with_part-totals-requires : goal.with_part-totals-requires
with_part-totals-requires g c =
    let (F, room) = c.requires in (
      (writing_fits _ F c.args.s.good room c.as_slice-powers.ensures.value c.loop-i.invariant c.loop-i-test.true c.next_part-next.ensures).base,
      writing_repeated _ F c.args.s.good room c.as_slice-powers.ensures.value c.loop-i.invariant c.loop-i-test.true c.next_part-next.ensures,
      writing_low _ F c.args.s.good room c.as_slice-powers.ensures.value c.loop-i.invariant c.loop-i-test.true c.next_part-next.ensures,
    )

pub loop-i-preserved : goal.loop-i-preserved
loop-i-preserved g c =
    let (F, room) = c.requires in
    writing_more _ F c.args.s.good room c.as_slice-powers.ensures.value c.loop-i.invariant c.loop-i-test.true c.next_part-next.ensures
    c.write_part.ensures c.with_part-totals.ensures

pub returns : goal.returns
returns g c =
    let (F, room) = c.requires in
    writing_done _ F c.args.s.good room c.as_slice-powers.ensures.value c.loop-i.invariant c.loop-i-test.false
