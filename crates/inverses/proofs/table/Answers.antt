-- `inverses::table` meets its contract: antt computes the test of the table's rule over the whole table, and counts the entries.
-- Assumes nothing.
use mathlib.Core.Path.{refl}
use Rattle.specification.specs.Limits.{primes}
use Rattle.inverses.specs.Rule.{keeps}
use Rattle.inverses.specs.InverseTable.{row_passes, passes, inverses}
use Rattle.inverses.proofs.table.Goals as goal

pub returns : goal.returns
unfolding primes passes row_passes keeps
returns c = inverses tt refl
