-- `splitter::same_bytes` meets its contract: the slice of a that is compared is all of a, however it is written.
-- Assumes nothing.
use Rattle.std.proofs.Common.{rules}
use lib.Seq.{take-length}
use Rattle.splitter.proofs.same_bytes.Goals as goal

pub returns : goal.returns
returns c = search (rules, take-length)
