-- `line_reader::read_short` meets its contract.
-- Assumes nothing.
use Rattle.std.proofs.Common.{refl, arith, ◌∙◌}
use Rattle.line_reader.specs.Gives.{ShortRead}
use Rattle.line_reader.proofs.Bytes.{sign_at}
use Rattle.line_reader.proofs.Judging.{two_taken, stand_in_is, missing_is}
use Rattle.line_values.proofs.Judging.{passed_on}
use Rattle.line_reader.proofs.Lines.{no_prime_read, no_colon_read, no_expression_read, more_read, line_read}
use Rattle.line_reader.proofs.read_short.Goals as goal

pub returns-in_err-number : goal.returns-in_err-number
returns-in_err-number c =
    let none = missing_is c.read_digits.result c.in_err-number.ensures.value in
    passed_on (ShortRead c.args.s.now) c.from_residual.result c.from_residual.ensures.1
    (record { read = no_prime_read (rw none.0 at c.read_digits.ensures) (none.1 ∙ c.at.ensures) })

pub returns-then-byte-ne-COLON : goal.returns-then-byte-ne-COLON
returns-then-byte-ne-COLON c =
    let number = rw c.in_ok-number.ensures.ok_part at c.read_digits.ensures in
    record { read = no_colon_read number.0 number.1 c.skip-colon.ensures c.byte.ensures c.if-byte-ne-COLON.true c.at-then-byte-ne-COLON.ensures }

pub expression-requires : goal.expression-requires
expression-requires c =
    let from = c.skip-from.ensures in
    record { place = from.within; sign = from.ends }

pub returns-in_err-whole : goal.returns-in_err-whole
returns-in_err-whole c =
    let number = rw c.in_ok-number.ensures.ok_part at c.read_digits.ensures in
    passed_on (ShortRead c.args.s.now) c.from_residual-in_err-whole.result c.from_residual-in_err-whole.ensures.1
    (record {
      read = no_expression_read number.0 c.skip-colon.ensures (sign_at 58 (omega arith) c.byte.ensures c.if-byte-ne-COLON.false)
          c.skip-from.ensures c.in_err-whole.ensures;
    })

pub returns-then-whole-s : goal.returns-then-whole-s
returns-then-whole-s c =
    let number = rw c.in_ok-number.ensures.ok_part at c.read_digits.ensures in
    record {
      read = more_read number.0 c.skip-colon.ensures (sign_at 58 (omega arith) c.byte.ensures c.if-byte-ne-COLON.false)
          c.skip-from.ensures c.in_ok-whole.ensures c.if-whole-s.true c.skip.ensures c.at-then-whole-s.ensures;
    }

pub invariant_of-unwrap_or : goal.invariant_of-unwrap_or
invariant_of-unwrap_or c = record { taken = two_taken }

pub returns : goal.returns
returns c =
    let number = rw c.in_ok-number.ensures.ok_part at c.read_digits.ensures in
    record {
      read = line_read number.0 c.skip-colon.ensures (sign_at 58 (omega arith) c.byte.ensures c.if-byte-ne-COLON.false)
          c.skip-from.ensures c.in_ok-whole.ensures c.prime_in-prime.result c.if-whole-s.false (stand_in_is _ refl c.prime_in-prime.result c.unwrap_or.result c.unwrap_or.ensures)
          c.prime_in-prime.ensures c.judge.ensures;
    }
