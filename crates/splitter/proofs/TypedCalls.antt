-- The call that makes a sheet of a typed line, by what the line's reader gives.
-- Proves what comes back where the area is too short, where the line is turned back, and where its sheet is written. Assumes nothing.
use mathlib.Core.Path.{refl}
use mathlib.Core.List.{List}
use Rattle.std.specs.Prelude.{Ok, Err}
use Prim.Native.Nat.{ℕ, ◌≤◌, ◌<◌}
use native.Mathlib.Nat.{le_refl}
use lib.ListN.{length}
use Rattle.specification.specs.Limits.{answer_area}
use Rattle.specification.specs.Sheets.{sheet_bytes}
use Rattle.specification.specs.TypedLines.{short_area}
use Rattle.grammar.specs.TypedOutcomes.{typed_area}
use Rattle.commands.specs.AsSheet.{as_sheet}
use Rattle.area.specs.Wrote.{Wrote}
use Rattle.commands.specs.declared.Sheet.{Sheet}
use Rattle.refusals.specs.declared.Refused.{Refused}
use Rattle.refusals.specs.Numbers.{number_of}
use Rattle.line_reader.specs.Gives.{LineRead}
use Rattle.splitter.specs.declared.Outcome.{Outcome}
use Rattle.splitter.specs.Outcomes.{IsSuccess, IsRefused, TypedCall, called_refused, called_wrote}

module _ {line : List ℕ} {r : Outcome} {old : List ℕ} where
  pub typed_short : length old < answer_area → IsRefused 1 0 r → TypedCall line r old old
  typed_short l h = record { outcome = _; typed = short_area l refl; called = called_refused refl h }

  module _ (l : answer_area ≤ length old) where
    pub typed_turned : {fault : Refused} → LineRead line (Err fault) → IsRefused (number_of fault.why) fault.place r → TypedCall line r old old
    typed_turned read h = record {
      outcome = read.outcome;
      typed = typed_area (le_refl answer_area) l read.typed;
      called = called_refused read.gives h;
    }

    pub typed_written : {given : Sheet} {n : ℕ} {new : List ℕ} → LineRead line (Ok given) → IsSuccess n r
        → Wrote old new 0 (sheet_bytes (as_sheet given)) n → TypedCall line r old new
    typed_written read h w = record {
      outcome = read.outcome;
      typed = typed_area (le_refl answer_area) l read.typed;
      called = called_wrote read.gives.0 h w;
    }
