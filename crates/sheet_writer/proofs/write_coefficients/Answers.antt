-- `sheet_writer::write_coefficients` meets its contract: after i turns the commands of the first i coefficients are written.
-- Assumes nothing.
use Rattle.area.proofs.Turns.{putting_none, putting_room, putting_more}
use Rattle.sheet_writer.proofs.CoefficientsWritten.{coefficient_turns}
use Rattle.sheet_writer.proofs.write_coefficients.Goals as goal

pub loop-i-init : goal.loop-i-init
loop-i-init c = putting_none (coefficient_turns _ _) c.requires

pub write_coefficient-requires : goal.write_coefficient-requires
write_coefficient-requires c = putting_room (coefficient_turns _ _) c.loop-i.invariant c.loop-i-test.true c.requires

pub loop-i-preserved : goal.loop-i-preserved
loop-i-preserved c = putting_more (coefficient_turns _ _) c.loop-i.invariant c.loop-i-test.true c.write_coefficient.ensures
