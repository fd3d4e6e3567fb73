-- `split_text::write_text` meets its contract.
-- Assumes nothing.
use mathlib.Core.Path.{◌≡◌, sym}
use mathlib.Core.List.{List}
use Prim.Native.Nat.{ℕ}
use Rattle.specification.specs.Sheets.{read_sheet, fault}
use Rattle.specification.specs.Text.{refusal_text, printed}
use Rattle.area.specs.Wrote.{wrote_as, room_as}
use Rattle.split_text.specs.TextSize.{sized_room}
use Rattle.split_text.specs.Printed.{printed_accepted, printed_refused, printed_sized}
use Rattle.split_text.proofs.write_text.Goals as goal

-- the number that is printed is the fault's
refusal : (bytes : List ℕ) (number k at : ℕ) → number ≡ k → read_sheet bytes ≡ fault k at → refusal_text number at ≡ printed bytes
refusal bytes number k at e h = rw e (sym (printed_refused bytes h))

pub refusal_text-requires : goal.refusal_text-requires
refusal_text-requires c =
    room_as (refusal c.args.sheet.now _ _ _ c.from.ensures c.in-Err.ensures) (sized_room (printed_sized c.args.sheet.now) c.requires)

pub returns-in-Ok : goal.returns-in-Ok
returns-in-Ok c = wrote_as (sym (printed_accepted c.args.sheet.now c.in-Ok.ensures.0)) c.answer_text.ensures

pub returns-in-Err : goal.returns-in-Err
returns-in-Err c = wrote_as (refusal c.args.sheet.now _ _ _ c.from.ensures c.in-Err.ensures) c.refusal_text.ensures
