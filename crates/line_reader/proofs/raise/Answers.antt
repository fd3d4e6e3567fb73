-- `line_reader::raise` meets its contract.
-- Assumes nothing.
use Rattle.std.proofs.Common.{arith, rules, ◌∙◌}
use Rattle.line_values.proofs.Judging.{passed_on}
use Rattle.line_reader.specs.LineContracts.{Raises}
use Rattle.line_reader.proofs.Bytes.{sign_at}
use Rattle.line_reader.proofs.Judging.{missing_is}
use Rattle.line_reader.proofs.Pieces.{raises_bare, raises_halts, raises_power}
use Rattle.line_reader.proofs.raise.Goals as goal

pub returns-in_err-exponent : goal.returns-in_err-exponent
returns-in_err-exponent c =
    let none = missing_is c.read_digits.result c.in_err-exponent.ensures.value in
    passed_on (Raises c.args.s.now c.args.base c.args.p.value) c.from_residual.result c.from_residual.ensures.1
    (raises_halts c.skip-sign.ensures (sign_at 94 (omega arith) c.byte.ensures (omega arith)) c.skip-from.ensures (none.1 ∙ c.at.ensures)
    (rw none.0 at c.read_digits.ensures))

pub returns : goal.returns
returns c =
    raises_power c.skip-sign.ensures (sign_at 94 (omega arith) c.byte.ensures (omega arith)) c.skip-from.ensures
    (rw c.in_ok-exponent.ensures.ok_part at c.read_digits.ensures) c.of_power.ensures

pub returns-then-byte-ne-CARET : goal.returns-then-byte-ne-CARET
returns-then-byte-ne-CARET c = search (rules, raises_bare)
