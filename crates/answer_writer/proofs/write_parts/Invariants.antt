-- `answer_writer::write_parts` meets its contract: after i turns the first i parts are written and counted.
-- Assumes nothing.
use Rattle.answer_writer.proofs.PartsWriting.{Writing}
use Rattle.answer_writer.proofs.write_parts.Given as goal

abbrev pub invariant-loop-i : goal.invariant-loop-i
invariant-loop-i g l =
    Writing (g.W.PartWriter.part_written l.writer) l.fn.s.sheet.prime l.fn.s.sheet.coefs l.fn.s.sheet.degree l.fn.found l.fn.out l.out l.i l.totals l.rest
    l.degree
