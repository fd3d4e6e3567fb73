-- `part_values::last_factor` meets its contract.
-- Assumes nothing.
use Rattle.algebra.specs.TakenPrimes.{is_prime_lem}
use Rattle.part_values.proofs.Lifts.{lift_power}
use Rattle.part_values.proofs.last_factor.Goals as goal

pub returns : goal.returns
returns c = lift_power _ (is_prime_lem c.requires.0).large _ _ _ (rw c.requires.1 at c.power-q.ensures) c.lifted.ensures
