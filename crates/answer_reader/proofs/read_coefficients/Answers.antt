-- `answer_reader::read_coefficients` meets its contract.
-- Assumes nothing.
use mathlib.Core.Path.{refl, sym, ◌∙◌}
use Rattle.algebra.specs.TakenPrimes.{square_above_one}
use Rattle.answer_reader.proofs.ReadingCoefficients.{underway_first, underway_more, underway_monic, found_at_end, found_before, not_read}
use Rattle.answer_reader.proofs.read_coefficients.Goals as goal
use Rattle.answer_reader.proofs.read_coefficients.Goals.{else-loop-next-test, then-loop-next-test+then-not-is_coefficient}

pub loop-next-init : goal.loop-next-init
loop-next-init c = underway_first _ _ _ _ (square_above_one _ c.args.prime.taken) c.monomial-coefs.ensures

pub read_coefficient-requires : goal.read_coefficient-requires
read_coefficient-requires c = (sym c.is_coefficient.ensures ∙ c.if-not-is_coefficient.false, c.loop-next-test.true)

pub returns-in_err-read : goal.returns-in_err-read
returns-in_err-read c =
    rw c.from_residual.ensures
    (not_read _ _ _ _ c.loop-next.invariant c.loop-next-test.true (sym c.is_coefficient.ensures ∙ c.if-not-is_coefficient.false) c.in_err-read.ensures)

pub loop-next-preserved : goal.loop-next-preserved
loop-next-preserved c =
    underway_more _ _ _ _ c.loop-next.invariant c.loop-next-test.true (sym c.is_coefficient.ensures ∙ c.if-not-is_coefficient.false) c.in_ok-read.ensures
    c.operand_count.ensures

pub invariant_of-result : goal.invariant_of-result
invariant_of-result c = record { monic = rw c.square.ensures (underway_monic _ _ _ _ c.loop-next.invariant) }

pub returns : goal.returns
returns c =
    elim c.loop-next-test.branch [
      | else-loop-next-test w ↦ found_at_end _ _ _ _ c.loop-next.invariant c.square.ensures refl refl w.loop-next-test.false
      | then-loop-next-test+then-not-is_coefficient w ↦
          found_before _ _ _ _ c.loop-next.invariant c.square.ensures refl refl w.loop-next-test.true
          (sym w.is_coefficient.ensures ∙ w.if-not-is_coefficient.true)
    ]
