-- `sheet_writer::write_coefficient` meets its contract.
-- Assumes nothing.
use mathlib.Core.Path.{refl}
use mathlib.Core.List.{[], ◌∷◌}
use mathlib.Core.List.Memᴰ.{head as here}
use mathlib.Core.List.Memᴰ.{tail as there}
use native.Mathlib.Omega.{arith}
use Rattle.area.specs.Cursors.{puts_more, puts_as, fits_as, fits_next}
use Rattle.sheet_writer.proofs.CoefficientsWritten.{puts_zero, command_is}
use Rattle.sheet_writer.proofs.write_coefficient.Goals as goal

pub overflow_cast-i : goal.overflow_cast-i
overflow_cast-i c =
    omega (arith, (fits_as (command_is _ _ _ (omega arith) c.coefficient_code-code.ensures) c.requires).room.low _ (there (here refl)))

pub put_all-requires : goal.put_all-requires
put_all-requires c = omega (arith, (fits_as (command_is _ _ _ (omega arith) c.coefficient_code-code.ensures) c.requires).room.fits)

pub write_value-requires : goal.write_value-requires
write_value-requires c =
    fits_next (_ ∷ _ ∷ []) _ (fits_as (command_is _ _ _ (omega arith) c.coefficient_code-code.ensures) c.requires) c.put_all.ensures

pub returns-else-v-ne0 : goal.returns-else-v-ne0
returns-else-v-ne0 c = puts_zero _ _ _ _ (omega arith) c.requires

pub returns-then-v-ne0 : goal.returns-then-v-ne0
returns-then-v-ne0 c =
    puts_as (command_is _ _ _ (omega arith) c.coefficient_code-code.ensures) (puts_more c.put_all.ensures c.write_value.ensures)
