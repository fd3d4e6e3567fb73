-- `inverses::offset` meets its contract: antt computes that the offsets are those of the list of primes.
-- Assumes nothing.
use borrow.Author.Rules.{rules}
use Rattle.specification.specs.Limits.{primes}
use Rattle.inverses.specs.InverseTable.{offsets_from, offset_is}
use Rattle.inverses.proofs.offset.Goals as goal

pub returns : goal.returns
unfolding primes offsets_from
returns c = offset_is _ (search rules)
