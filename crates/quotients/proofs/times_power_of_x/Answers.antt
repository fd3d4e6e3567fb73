-- `quotients::times_power_of_x` meets its contract.
-- Assumes nothing.
use Rattle.quotients.specs.Shift.{shifts_none, shifts_more}
use Rattle.quotients.proofs.times_power_of_x.Goals as goal

pub loop-init : goal.loop-init
loop-init c = shifts_none _ c.requires.0 c.requires.1

pub loop-preserved : goal.loop-preserved
loop-preserved c = shifts_more _ _ c.loop.invariant c.shift.ensures
