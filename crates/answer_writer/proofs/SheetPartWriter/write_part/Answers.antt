-- `answer_writer::Sheet::write_part` meets its contract: 0x11, and the factors.
-- Assumes nothing.
use mathlib.Core.Path.{refl}
use mathlib.Core.List.{[], ◌∷◌}
use mathlib.Core.List.Memᴰ.{head as here}
use mathlib.Core.List.Memᴰ.{tail as there}
use native.Mathlib.Omega.{arith}
use borrow.Author.Rules.{rules}
use Rattle.layouts.specs.AnswerLayout.{factor_bytes}
use Rattle.area.specs.Cursors.{puts_more, puts_as, fits_as, fits_next}
use Rattle.answer_writer.specs.AnswerArrays.{part_is_lem}
use Rattle.answer_writer.specs.SheetAnswers.{factors_fit}
use Rattle.answer_writer.proofs.SheetPartWriter.write_part.Goals as goal

pub overflow_cast-part-2 : goal.overflow_cast-part-2
overflow_cast-part-2 c =
    let r = fits_as (part_is_lem _ c.args.part (search rules) c.requires.0.base c.from-verdict.ensures) c.requires.1 in
    omega (arith, r.room.low _ (there (there (here refl))))

pub put_all-requires : goal.put_all-requires
put_all-requires c =
    omega (arith, (fits_as (part_is_lem _ c.args.part (search rules) c.requires.0.base c.from-verdict.ensures) c.requires.1).room.fits)

pub write_factors-requires : goal.write_factors-requires
write_factors-requires c =
    let r = fits_as (part_is_lem _ c.args.part (search rules) c.requires.0.base c.from-verdict.ensures) c.requires.1 in
    search (rules, factors_fit (factor_bytes c.args.self.now.prime) c.args.part c.requires.0 (fits_next (_ ∷ _ ∷ _ ∷ _ ∷ []) _ r c.put_all.ensures))

pub returns : goal.returns
returns c =
    puts_as (part_is_lem _ c.args.part (search rules) c.requires.0.base c.from-verdict.ensures)
    (puts_more c.put_all.ensures (search (rules, c.write_factors.ensures)))
