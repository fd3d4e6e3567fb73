-- `answer_reader::multiply` meets its contract.
-- Assumes nothing.
use Rattle.std.proofs.Common.{◌≡◌, Some, None, arith, rules}
use Rattle.algebra.specs.TakenPrimes.{square_above_one}
use Rattle.arrays.specs.declared.MonicPoly.{MonicPoly}
use Rattle.commands.proofs.OperandCounts.{count_low}
use Rattle.answer_reader.proofs.Multiplying.{multiplied_other, multiplying_first, multiplying_more, product_found, given_up}
use Rattle.answer_reader.proofs.multiply.Goals as goal
use Rattle.answer_reader.proofs.multiply.Goals.{then-answer-at+in_ok-grown, else-answer-at}

pub loop-at-init : goal.loop-at-init
loop-at-init c = (multiplying_first _ _ (square_above_one _ c.args.prime.taken) c.monomial.ensures, c.square.ensures)

pub invariant_of-grown : goal.invariant_of-grown
invariant_of-grown c = record { monic = rw c.loop-at.invariant.1 c.loop-at.invariant.0.array }

pub multiply_at-requires : goal.multiply_at-requires
multiply_at-requires c = (search rules, c.loop-at-test.true, c.loop-at.invariant.1)

pub returns-in_err-grown : goal.returns-in_err-grown
returns-in_err-grown c =
    let none : c.multiply_at.result ≡ None = grind arith in
    rw c.from_residual.ensures (given_up _ _ c.loop-at.invariant.0 c.loop-at-test.true (rw none at c.multiply_at.ensures))

pub overflow_add-at : goal.overflow_add-at
overflow_add-at c = omega (arith, c.operand_count.ensures, count_low)

pub overflow_add-at-in-loop-at : goal.overflow_add-at-in-loop-at
overflow_add-at-in-loop-at c = omega (arith, c.operand_count.ensures, count_low)

pub loop-at-preserved : goal.loop-at-preserved
loop-at-preserved c =
    let (w, same) = c.loop-at.invariant in
    elim c.if-answer-at.branch [
      | then-answer-at+in_ok-grown u ↦
          let is : u.multiply_at.result ≡ Some u.in_ok-grown.grown = grind arith in
          let more = rw is at u.multiply_at.ensures in
          rw u.grown-is (multiplying_more _ _ w c.loop-at-test.true more c.operand_count.ensures, more.sound.0)
      | else-answer-at u ↦
          let (coefs, (degree, (n, _))) = c.loop-at.grown in
          let so_far : MonicPoly = record { coefs = coefs; degree = degree; n = n; monic = rw same w.array } in
          let as_it_is = multiplied_other _ _ _ so_far c.loop-at-test.true u.if-answer-at.false same in
          rw u.grown-is (multiplying_more _ _ w c.loop-at-test.true as_it_is c.operand_count.ensures, same)
    ]

pub returns : goal.returns
returns c = product_found _ _ c.loop-at.invariant.0 c.loop-at.invariant.1 c.loop-at-test.false
