-- `arrays::equal` meets its contract: what is compared with a is b, entry by entry, however it is written.
-- Assumes nothing.
use Rattle.std.proofs.Common.{rules}
use Rattle.std.proofs.lemmas.List.{set-get_or}
use Rattle.arrays.proofs.equal.Goals as goal

pub returns : goal.returns
returns c = search (rules, set-get_or)
