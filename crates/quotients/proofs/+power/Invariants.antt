-- `quotients::power` meets its contract. The measure is k.
-- Assumes nothing.
use Rattle.quotients.proofs.+power.Given as goal

abbrev pub decreases-power : goal.decreases-power
decreases-power l = l.k
