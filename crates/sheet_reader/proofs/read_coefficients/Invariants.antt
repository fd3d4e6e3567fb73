-- `sheet_reader::read_coefficients` meets its contract.
-- Assumes nothing.
use Prim.Native.Nat.{◌-◌}
use lib.ListN.{length}
use Rattle.sheet_reader.specs.Underway.{Underway}
use Rattle.sheet_reader.proofs.read_coefficients.Given as goal

abbrev pub invariant-loop-part : goal.invariant-loop-part
invariant-loop-part l = Underway l.part.bytes.now l.part.start l.prime l.degree l.coefs l.least l.at

abbrev pub decreases-loop-part : goal.decreases-loop-part
decreases-loop-part l = length l.part.bytes.now - l.at
