-- `line_reader::expression`, `product` and `term`, which call each other, meet their contracts.
-- Assumes nothing.
use Rattle.std.proofs.Common.{arith, rules, ◌∙◌}
use Rattle.line_values.proofs.Judging.{passed_on}
use Rattle.line_reader.specs.LineContracts.{PowerTook, ProductTook, ExpressionTook}
use Rattle.line_reader.proofs.Bytes.{sign_at, sum_at, between}
use Rattle.line_reader.proofs.Judging.{missing_is}
use Rattle.line_reader.proofs.Pieces as pieces
use Rattle.line_reader.proofs.+expression_product_term.Goals as goal

-- ---- expression

pub expression-returns-in_err-all : goal.expression-returns-in_err-all
expression-returns-in_err-all t c =
    passed_on (ExpressionTook c.args.s.now c.args.at c.args.p.value) c.from_residual.result c.from_residual.ensures.1
    (pieces.halts_product c.in_err-all.ensures)

pub expression-loop-sign-init : goal.expression-loop-sign-init
expression-loop-sign-init t c = record { stands = pieces.summands_one c.in_ok-all.ensures; blanks = c.skip-place.ensures }

pub expression-returns-in_err-part : goal.expression-returns-in_err-part
expression-returns-in_err-part t c =
    let inv = c.loop-sign.invariant in
    passed_on (ExpressionTook c.args.s.now c.args.at c.args.p.value) c.from_residual-in_err-part.result c.from_residual-in_err-part.ensures.1
    (pieces.halts_summand inv.stands inv.blanks c.skip-from.ensures c.in-Some.sign (sum_at c.in-Some.sign c.byte.ensures c.in-Some.ensures)
    c.in_err-part.ensures)

pub expression-loop-sign-preserved : goal.expression-loop-sign-preserved
expression-loop-sign-preserved t c =
    let inv = c.loop-sign.invariant in
    record {
      stands = pieces.summands_more inv.stands inv.blanks c.skip-from.ensures c.in-Some.sign
          (sum_at c.in-Some.sign c.byte.ensures c.in-Some.ensures) c.in_ok-part.ensures c.signed_sum.ensures;
      blanks = c.skip-place-in-Some.ensures;
    }

pub expression-returns : goal.expression-returns
expression-returns t c =
    let inv = c.loop-sign.invariant in
    pieces.expression_done inv.stands inv.blanks c.byte.ensures c.in_default.ensures

-- ---- product

pub product-loop-p-init : goal.product-loop-p-init
product-loop-p-init t c = record { stands = pieces.factors_one c.in_ok-all.ensures; blanks = c.skip-sign.ensures }

pub product-returns-in_err-factor : goal.product-returns-in_err-factor
product-returns-in_err-factor t c =
    let inv = c.loop-p.invariant in
    let star = between inv.blanks (sign_at 42 (omega arith) c.byte.ensures (omega arith)) c.skip-from.ensures in
    passed_on (ProductTook c.args.s.now c.args.at c.args.p.value) c.from_residual-in_err-factor.result c.from_residual-in_err-factor.ensures.1
    (pieces.halts_factor inv.stands star c.in_err-factor.ensures)

pub product-loop-p-preserved : goal.product-loop-p-preserved
product-loop-p-preserved t c =
    let inv = c.loop-p.invariant in
    let star = between inv.blanks (sign_at 42 (omega arith) c.byte.ensures (omega arith)) c.skip-from.ensures in
    record {
      stands = pieces.factors_more inv.stands star c.in_ok-factor.ensures c.of_product.ensures;
      blanks = c.skip-sign-in-loop-p.ensures;
    }

pub product-returns : goal.product-returns
product-returns t c =
    let inv = c.loop-p.invariant in
    pieces.product_done inv.stands inv.blanks c.byte.ensures c.loop-p-test.false

-- ---- term

pub term-returns-in_err-inner : goal.term-returns-in_err-inner
term-returns-in_err-inner t c =
    passed_on (PowerTook c.args.s.now c.args.at c.args.p.value) c.from_residual.result c.from_residual.ensures.1
    (pieces.halts_inner (sign_at 40 (omega arith) c.byte-b.ensures (omega arith)) c.skip-from.ensures c.in_err-inner.ensures)

pub term-returns-then-byte-ne-CLOSE : goal.term-returns-then-byte-ne-CLOSE
term-returns-then-byte-ne-CLOSE t c =
    pieces.halts_close (sign_at 40 (omega arith) c.byte-b.ensures (omega arith)) c.skip-from.ensures c.in_ok-inner.ensures c.skip-close.ensures
    c.byte.ensures c.if-byte-ne-CLOSE.true c.at.ensures

pub term-returns-in_err-digits : goal.term-returns-in_err-digits
term-returns-in_err-digits t c =
    let none = missing_is c.read_digits.result c.in_err-digits.ensures.value in
    passed_on (PowerTook c.args.s.now c.args.at c.args.p.value) c.from_residual-in_err-digits.result c.from_residual-in_err-digits.ensures.1
    (pieces.halts_term c.requires c.byte-b.ensures (search rules) (search rules) (rw none.0 at c.read_digits.ensures)
    (none.1 ∙ c.at-else-b-eq-VARIABLE.ensures))

pub term-returns-else-byte-ne-CLOSE : goal.term-returns-else-byte-ne-CLOSE
term-returns-else-byte-ne-CLOSE t c =
    c.raise.ensures.took c.args.at
    (pieces.term_brackets (sign_at 40 (omega arith) c.byte-b.ensures (omega arith)) c.skip-from.ensures c.in_ok-inner.ensures
    c.skip-close.ensures (sign_at 41 (omega arith) c.byte.ensures (omega arith)))

pub term-returns-then-b-eq-VARIABLE : goal.term-returns-then-b-eq-VARIABLE
term-returns-then-b-eq-VARIABLE t c =
    c.raise-then-b-eq-VARIABLE.ensures.took c.args.at (pieces.term_x c.args.p.taken (sign_at 120 (omega arith) c.byte-b.ensures (omega arith)) c.of_x.ensures)

pub term-returns-in_ok-digits : goal.term-returns-in_ok-digits
term-returns-in_ok-digits t c =
    c.raise-else-b-eq-VARIABLE.ensures.took c.args.at (pieces.term_number (rw c.in_ok-digits.ensures.ok_part at c.read_digits.ensures) c.of_number.ensures)
