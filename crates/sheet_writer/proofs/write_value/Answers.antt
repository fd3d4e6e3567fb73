-- `sheet_writer::write_value` meets its contract.
-- Assumes nothing.
use mathlib.Core.Path.{refl, sym, ◌∙◌}
use mathlib.Core.List.Memᴰ.{head as here}
use native.Mathlib.Omega.{arith}
use Rattle.layouts.specs.CoefficientBytes.{value_one}
use Rattle.area.specs.Cursors.{fits_as}
use Rattle.sheet_writer.proofs.write_value.Goals as goal

pub overflow_cast-v : goal.overflow_cast-v
overflow_cast-v c = omega (arith, (fits_as (value_one _ _ (sym c.wide.ensures ∙ c.if-wide.false)) c.requires).room.low _ (here refl))
