-- `line_reader::read_line` meets its contract.
-- Assumes nothing.
use Rattle.std.proofs.Common.{arith}
use Rattle.line_reader.proofs.Lines.{as_read}
use Rattle.line_reader.proofs.read_line.Goals as goal

pub returns : goal.returns
returns c = as_read (c.read_short.ensures.read (omega arith))
