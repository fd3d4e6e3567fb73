-- `part_values::power`: k goes down.
use Rattle.part_values.proofs.+power.Given as goal

abbrev pub decreases-power : goal.decreases-power
decreases-power l = l.k
