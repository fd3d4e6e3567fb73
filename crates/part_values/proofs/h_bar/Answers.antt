-- `part_values::h_bar` meets its contract.
-- Assumes nothing.
use Rattle.std.proofs.Common.{arith}
use Rattle.algebra.specs.TakenPrimes.{square_small}
use Rattle.part_values.specs.Given.{large, g_is_monic}
use Rattle.part_values.proofs.HBar.{h_bar_lem, is_h_bar}
use Rattle.part_values.proofs.h_bar.Goals as goal

pub overflow_mul-n : goal.overflow_mul-n
overflow_mul-n c = omega (arith, square_small _ c.requires.given.prime)

pub returns : goal.returns
returns c P =
    is_h_bar P.given P.chosen
    (rw c.over.ensures
    (h_bar_lem (large P.given) _ _ _ _ (g_is_monic P.given P.chosen) P.given.part_held P.is c.difference-e.ensures))
