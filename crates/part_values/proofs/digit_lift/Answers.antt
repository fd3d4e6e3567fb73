-- `part_values::digit_lift` meets its contract.
-- Assumes nothing.
use Rattle.std.proofs.Common.{refl}
use Rattle.part_values.specs.Given.{digit_chosen}
use Rattle.part_values.proofs.digit_lift.Goals as goal

pub returns : goal.returns
returns c p d m f given = record { is = refl; chosen = digit_chosen given }
