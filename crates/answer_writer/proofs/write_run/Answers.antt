-- `answer_writer::write_run` meets its contract.
-- Assumes nothing.
use mathlib.Core.Path.{◌≡◌, sym, ◌∙◌, ap₂}
use mathlib.Core.List.{[], ◌∷◌}
use lib.ListN.{get_or}
use Rattle.std.specs.Prelude.{ℕ, ◌/◌, ◌%◌}
use borrow.Author.Rules.{rules}
use native.Mathlib.Omega.{arith}
use Rattle.layouts.specs.AnswerLayout.{run_bytes_none}
use Rattle.area.specs.Cursors.{puts_none, puts_as, fits_as}
use Rattle.answer_writer.specs.AnswerArrays.{run_written}
use Rattle.answer_writer.proofs.write_run.Goals as goal

pub put_all-requires : goal.put_all-requires
put_all-requires c = omega (arith, (fits_as (run_written _ c.run_asked-run.ensures c.if-s.true) c.requires).room.fits)

pub returns-then-s : goal.returns-then-s
returns-then-s c =
    let low : get_or c.to_le_bytes.result 0 0 ≡ c.run_asked-run.result % 256 = search rules in
    let high : get_or c.to_le_bytes.result 1 0 ≡ c.run_asked-run.result / 256 = search rules in
    puts_as (ap₂ (λ (a b : ℕ). 0x14 ∷ a ∷ b ∷ []) low high ∙ run_written _ c.run_asked-run.ensures c.if-s.true) c.put_all.ensures

pub returns-else-s : goal.returns-else-s
returns-else-s c = puts_as (sym (run_bytes_none _ c.if-s.false)) (puts_none _ (omega (arith, c.requires.room.fits)))
