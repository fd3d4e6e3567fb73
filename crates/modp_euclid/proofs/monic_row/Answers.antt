-- `modp_euclid::monic_row` meets its contract.
-- Assumes nothing.
use Rattle.modp_euclid.specs.RemainderRows.{monic_row}
use Rattle.modp_euclid.proofs.monic_row.Goals as goal

pub returns : goal.returns
returns c = let m = c.monic_multiple-m.ensures in (monic_row c.requires.2 m.0 c.multiple-v.ensures, m.1, m.2)
