-- `answer_writer::Sheet::write_factor` meets its contract: 0x12, and the coefficients.
-- Assumes nothing.
use mathlib.Core.Path.{refl}
use mathlib.Core.List.{[], ◌∷◌}
use mathlib.Core.List.Memᴰ.{head as here}
use mathlib.Core.List.Memᴰ.{tail as there}
use native.Mathlib.Omega.{arith}
use borrow.Author.Rules.{rules}
use Rattle.area.specs.Cursors.{puts_more, puts_as, fits_as, fits_next}
use Rattle.answer_writer.specs.AnswerArrays.{factor_is}
use Rattle.answer_writer.proofs.SheetFactorWriter.write_factor.Goals as goal

pub overflow_cast-q-2 : goal.overflow_cast-q-2
overflow_cast-q-2 c = omega (arith, (fits_as (factor_is _ c.args.q (search rules) c.requires.0) c.requires.1).room.low _ (there (there (here refl))))

pub put_all-requires : goal.put_all-requires
put_all-requires c = omega (arith, (fits_as (factor_is _ c.args.q (search rules) c.requires.0) c.requires.1).room.fits)

pub write_coefficients-requires : goal.write_coefficients-requires
write_coefficients-requires c =
    fits_next (_ ∷ _ ∷ _ ∷ []) _ (fits_as (factor_is _ c.args.q (search rules) c.requires.0) c.requires.1) c.put_all.ensures

pub returns : goal.returns
returns c = puts_as (factor_is _ c.args.q (search rules) c.requires.0) (puts_more c.put_all.ensures c.write_coefficients.ensures)
