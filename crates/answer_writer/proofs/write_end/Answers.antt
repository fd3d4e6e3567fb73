-- `answer_writer::write_end` meets its contract: the totals, the run if it is asked for, and the end.
-- Assumes nothing.
use mathlib.Core.Path.{refl, sym}
use mathlib.Core.List.{[], ◌∷◌}
use mathlib.Core.List.Memᴰ.{head as here}
use mathlib.Core.List.Memᴰ.{tail as there}
use native.Mathlib.Omega.{arith}
use Rattle.layouts.specs.AnswerLayout.{end_bytes_is}
use Rattle.area.specs.Cursors.{puts_more, puts_as, fits_as, fits_first, fits_next, fits_byte}
use Rattle.answer_writer.proofs.write_end.Goals as goal

pub overflow_cast-t : goal.overflow_cast-t
overflow_cast-t c = omega (arith, (fits_as (sym (end_bytes_is _ _)) c.requires).room.low _ (there (here refl)))

pub overflow_cast-t-2 : goal.overflow_cast-t-2
overflow_cast-t-2 c = omega (arith, (fits_as (sym (end_bytes_is _ _)) c.requires).room.low _ (there (there (here refl))))

pub overflow_cast-t-3 : goal.overflow_cast-t-3
overflow_cast-t-3 c = omega (arith, (fits_as (sym (end_bytes_is _ _)) c.requires).room.low _ (there (there (there (here refl)))))

pub put_all-requires : goal.put_all-requires
put_all-requires c = omega (arith, (fits_as (sym (end_bytes_is _ _)) c.requires).room.fits)

pub write_run-requires : goal.write_run-requires
write_run-requires c =
    fits_first _ (0x0F ∷ []) (fits_next _ _ (fits_as (sym (end_bytes_is _ _)) c.requires) c.put_all.ensures)

pub put-requires : goal.put-requires
put-requires c =
    fits_byte _ 0x0F (fits_next _ _ (fits_as (sym (end_bytes_is _ _)) c.requires) c.put_all.ensures) c.write_run.ensures

pub returns : goal.returns
returns c =
    puts_as (sym (end_bytes_is _ _)) (puts_more c.put_all.ensures (puts_more c.write_run.ensures c.put.ensures))
