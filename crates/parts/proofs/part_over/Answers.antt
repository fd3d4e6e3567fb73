-- `parts::part_over` meets its contract.
-- Assumes nothing.
use Rattle.std.proofs.Common.{arith}
use Rattle.part_values.specs.Given.{degree_room, base_is_monic}
use Rattle.parts.proofs.part_over.Goals as goal

pub invariant_of-base : goal.invariant_of-base
invariant_of-base c =
    let given = c.requires.0 in
    record { monic = record { fits = omega (arith, degree_room given); reduced = given.base_held.reduced; monic = base_is_monic given } }
