-- `modp_roots::move_down` meets its contract.
-- Assumes nothing.
use Rattle.std.proofs.Common.{rules}
use Rattle.modp_roots.specs.BinomialDivision.{moved_copy}
use Rattle.modp_roots.proofs.move_down.Goals as goal

pub returns : goal.returns
returns c = moved_copy (search rules) c.requires c.copy_from_slice.ensures.after
