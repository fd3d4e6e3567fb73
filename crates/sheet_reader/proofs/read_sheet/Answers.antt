-- `sheet_reader::read_sheet` meets its contract.
-- Assumes nothing.
use mathlib.Core.Path.{◌≡◌, sym, ◌∙◌, ap, subst}
use mathlib.Core.Bool.{Bool}
use mathlib.Core.List.{List, [], ◌∷◌}
use lib.ListN.{get_or}
use Prim.Native.Nat.{ℕ, ◌+◌}
use native.Mathlib.Omega.{arith}
use Rattle.std.specs.Prelude.{Result, Ok, IsErrAnd}
use Rattle.std.proofs.lemmas.Result.{err_from_is_err_and}
use Rattle.specification.specs.Reading.{with_operand}
use Rattle.specification.specs.RunLength.{has_run}
use Rattle.specification.specs.Sheets as spec
use Rattle.specification.specs.Sheets.{read_sheet}
use Rattle.arrays.specs.Listed.{listed}
use Rattle.algebra.specs.Fields.{taken_prime}
use Rattle.layouts.specs.Operands.{prime_exact}
use Rattle.layouts.specs.SheetStages.{after_prime, after_degree, after_coefficients, after_run}
use Rattle.refusals.specs.declared.Refused.{Refused}
use Rattle.refusals.specs.Numbers.{number_of}
use Rattle.commands.specs.declared.Sheet.{Sheet}
use Rattle.commands.specs.AsSheet.{as_sheet, constant_decides}
use Rattle.sheet_steps.specs.Steps.{StepOf, FlagOf, step_good, left_more}
use Rattle.sheet_reader.specs.AsSheetRead.{SheetRead, struct_back}
use Rattle.sheet_reader.specs.Underway.{CoefficientsOf}
use Rattle.sheet_reader.specs.Stages.{LeftOf, left_first, left_refused, part_from, from_part}
use Rattle.sheet_reader.proofs.read_sheet.Goals as goal

-- the fault that a `?` hands on is the sheet's
fault_read : (bytes : List ℕ) (s : Result Sheet Refused) (e : Refused) → IsErrAnd s (λ y. y ≡ e)
    → spec.whole (spec.sheet 0 bytes) ≡ spec.fault (number_of e.why) e.place → SheetRead (read_sheet bytes) s
unfolding read_sheet
fault_read bytes s e h w = let (y, is, same) = err_from_is_err_and s h in rw (is, same) w

-- 0x04 is looked for where the constant coefficient stands
run_step : (p n : ℕ) (coefs : List ℕ) {bytes : List ℕ} {at : ℕ} {s : Result (Bool × ℕ) Refused}
    → FlagOf 0x04 14 (has_run p (get_or coefs 0 0 ∷ [])) bytes 0 at s → FlagOf 0x04 14 (has_run p (listed n coefs)) bytes 0 at s
run_step p n coefs {bytes} {at} {s} w =
    subst (λ (allowed : Bool). FlagOf 0x04 14 allowed bytes 0 at s) (sym (constant_decides p n coefs)) w

module _ {bytes : List ℕ} {prime : ℕ × ℕ} (p : StepOf (with_operand 0x01 spec.prime_operand) 256 bytes 0 0 (Ok prime)) where
  prime_read : LeftOf (spec.sheet 0 bytes) bytes (after_prime prime.0) prime.1
  prime_read = left_more after_prime (left_first bytes) p

  module _ {degree : ℕ × ℕ} (d : StepOf (with_operand 0x02 spec.degree_operand) 33 bytes 0 prime.1 (Ok degree)) where
    degree_read : LeftOf (spec.sheet 0 bytes) bytes (after_degree prime.0 degree.0) degree.1
    degree_read = left_more (after_degree prime.0) prime_read d

    module _ {held : List ℕ × ℕ} (w : CoefficientsOf (part_from bytes degree.1) degree.1 prime.0 degree.0 (Ok held)) where
      coefficients_read : LeftOf (spec.sheet 0 bytes) bytes (after_coefficients prime.0 (listed degree.0 held.0)) (degree.1 + held.1)
      coefficients_read = left_more (after_coefficients prime.0) degree_read (from_part degree_read.reach w)

      run_read : {run : Bool × ℕ} → FlagOf 0x04 14 (has_run prime.0 (get_or held.0 0 0 ∷ [])) bytes 0 (degree.1 + held.1) (Ok run)
          → LeftOf (spec.sheet 0 bytes) bytes (after_run prime.0 (listed degree.0 held.0) run.0) run.1
      run_read r = left_more (after_run prime.0 (listed degree.0 held.0)) coefficients_read (run_step prime.0 degree.0 held.0 r)

pub returns-in_err-prime : goal.returns-in_err-prime
returns-in_err-prime c =
    fault_read c.args.sheet.now c.from_residual.result c.in_err-prime.field-0.0 c.from_residual.ensures.1
    (left_refused after_prime (left_first c.args.sheet.now) c.in_err-prime.ensures)

pub returns-in_err-degree : goal.returns-in_err-degree
returns-in_err-degree c =
    fault_read c.args.sheet.now c.from_residual-in_err-degree.result c.in_err-degree.field-0.0 c.from_residual-in_err-degree.ensures.1
    (left_refused (after_degree c.in_ok-prime.prime) (prime_read c.in_ok-prime.ensures) c.in_err-degree.ensures)

pub returns-in_err-coefs : goal.returns-in_err-coefs
returns-in_err-coefs c =
    let read = degree_read c.in_ok-prime.ensures c.in_ok-degree.ensures in
    fault_read c.args.sheet.now c.from_residual-in_err-coefs.result c.in_err-coefs.field-0.0 c.from_residual-in_err-coefs.ensures.1
    (left_refused (after_coefficients c.in_ok-prime.prime) read (from_part read.reach c.in_err-coefs.ensures))

pub run_at-requires : goal.run_at-requires
run_at-requires c =
    let read = coefficients_read c.in_ok-prime.ensures c.in_ok-degree.ensures c.in_ok-coefs.ensures in
    let good = taken_prime c.in_ok-prime.prime (step_good prime_exact c.in_ok-prime.ensures) in
    (read.reach, omega (arith, good.large))

pub returns-in_err-run : goal.returns-in_err-run
returns-in_err-run c =
    let p = c.in_ok-prime.prime in
    let d = c.in_ok-degree.degree in
    let coefs = c.in_ok-coefs.coefs in
    fault_read c.args.sheet.now c.from_residual-in_err-run.result c.in_err-run.field-0.0 c.from_residual-in_err-run.ensures.1
    (left_refused (after_run p (listed d coefs)) (coefficients_read c.in_ok-prime.ensures c.in_ok-degree.ensures c.in_ok-coefs.ensures)
    (run_step p d coefs c.in_err-run.ensures))

pub returns-in_err-ended : goal.returns-in_err-ended
returns-in_err-ended c =
    let read = run_read c.in_ok-prime.ensures c.in_ok-degree.ensures c.in_ok-coefs.ensures c.in_ok-run.ensures in
    fault_read c.args.sheet.now c.from_residual-in_err-ended.result c.in_err-ended.field-0.0 c.from_residual-in_err-ended.ensures.1
    (ap spec.whole read.same ∙ c.in_err-ended.ensures _)

pub returns : goal.returns
unfolding read_sheet
returns c =
    let read = run_read c.in_ok-prime.ensures c.in_ok-degree.ensures c.in_ok-coefs.ensures c.in_ok-run.ensures in
    let said : Sheet = record {
      prime = c.in_ok-prime.prime;
      degree = c.in_ok-degree.degree;
      coefs = c.in_ok-coefs.coefs;
      run = c.in_ok-run.run';
    } in
    let whole : read_sheet c.args.sheet.now ≡ spec.accepted (as_sheet said) = ap spec.whole read.same ∙ c.in_ok-ended.ensures (as_sheet said) in
    (whole, sym (struct_back said c.in_ok-coefs.ensures.inside.good))
