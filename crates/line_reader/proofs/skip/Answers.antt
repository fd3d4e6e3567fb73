-- `line_reader::skip` meets its contract.
-- Assumes nothing.
use Rattle.std.proofs.Common.{rules}
use Rattle.grammar.proofs.Standing.{no_blanks}
use Rattle.line_reader.proofs.Bytes.{one_blank}
use Rattle.line_reader.proofs.skip.Goals as goal

pub loop-i-init : goal.loop-i-init
loop-i-init c = no_blanks

pub loop-i-preserved : goal.loop-i-preserved
loop-i-preserved c = one_blank c.loop-i.invariant (search rules) (search rules)
