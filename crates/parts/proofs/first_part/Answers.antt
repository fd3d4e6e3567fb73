-- `parts::first_part` meets its contract.
-- Assumes nothing.
use Rattle.std.proofs.Common.{arith}
use Rattle.parts.specs.PowersLeft.{first_held, first_lifted, first_fits, first_less, first_cuttable, first_given, first_found}
use Rattle.parts.proofs.first_part.Goals as goal

pub lifted_power-whole-requires : goal.lifted_power-whole-requires
lifted_power-whole-requires c = let w = c.requires.2 in (w.monic.prime, first_lifted w, (first_held w).positive, first_fits w)

pub invariant_of-all : goal.invariant_of-all
invariant_of-all c = record { monic = rw c.lifted_power-whole.ensures.2 c.requires.2.monic.array }

pub cut_off-cut-requires : goal.cut_off-cut-requires
cut_off-cut-requires c =
    let (power, degree, n) = c.lifted_power-whole.ensures in
    (rw degree (first_cuttable c.requires.2 power), n, n)

pub part_over-requires : goal.part_over-requires
part_over-requires c =
    let (power, degree, n) = c.lifted_power-whole.ensures in
    (first_given c.requires.2 power (rw degree at c.cut_off-cut.ensures.0), power)

pub overflow_sub-result : goal.overflow_sub-result
overflow_sub-result c = omega (arith, first_less c.requires.2, c.lifted_power-whole.ensures.1)

pub returns : goal.returns
returns c =
    let (power, degree, n) = c.lifted_power-whole.ensures in
    rw degree (first_found c.requires.2 power (rw degree at c.cut_off-cut.ensures.0) c.part_over.ensures)
