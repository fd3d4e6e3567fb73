-- `sheet_reader::ended` meets its contract.
-- Assumes nothing.
use mathlib.Core.Path.{refl}
use mathlib.Core.List.{List}
use Prim.Native.Nat.{ℕ, ◌≤◌}
use lib.ListN.{length}
use Rattle.std.specs.Prelude.{Ok}
use Rattle.std.proofs.lemmas.Result.{err_from_is_err_and}
use Rattle.specification.specs.Reading.{command_byte, done}
use Rattle.specification.specs.Sheets as spec
use Rattle.layouts.specs.SheetStages.{only_end}
use Rattle.sheet_steps.specs.Steps.{StepOf, read_at, left_more}
use Rattle.sheet_reader.specs.Stages.{LeftOf, left_refused, byte_follows, nothing_follows}
use Rattle.sheet_reader.proofs.ended.Goals as goal

module _ (said : spec.Sheet) (bytes : List ℕ) (at : ℕ) (l : at ≤ length bytes) where
  -- nothing is read yet
  begun : LeftOf (read_at (only_end said) bytes 0 at) bytes (only_end said) at
  begun = record { reach = l; same = refl }

  -- the end command is read
  end : {t : ℕ × ℕ} → StepOf (command_byte 0x0F) 256 bytes 0 at (Ok t) → LeftOf (read_at (only_end said) bytes 0 at) bytes (done said) t.1
  end w = left_more (λ k. done said) begun w

pub returns-in_err-next : goal.returns-in_err-next
returns-in_err-next c = λ said.
    let (y, is, same) = err_from_is_err_and c.from_residual.result c.from_residual.ensures.1 in
    rw (is, same) (left_refused (λ k. done said) (begun said c.args.sheet.now c.args.at c.requires) c.in_err-next.ensures)

pub returns-then-next-sheet : goal.returns-then-next-sheet
returns-then-next-sheet c = λ said.
    rw c.at.ensures (byte_follows said (end said c.args.sheet.now c.args.at c.requires c.in_ok-next.ensures) c.if-next-sheet.true)

pub returns : goal.returns
returns c = λ said. nothing_follows said (end said c.args.sheet.now c.args.at c.requires c.in_ok-next.ensures) c.if-next-sheet.false
