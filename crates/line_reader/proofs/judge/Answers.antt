-- `line_reader::judge` meets its contract.
-- Assumes nothing.
use Rattle.std.proofs.Common.{arith, rules, ◌∙◌}
use Rattle.line_reader.specs.Gives.{WorkedOut}
use Rattle.line_reader.proofs.Judging.{judged_no_prime, judged_high, judged_pattern, missing_is}
use Rattle.line_values.proofs.Judging.{passed_on}
use Rattle.line_reader.proofs.judge.Goals as goal

pub returns-in_err-p : goal.returns-in_err-p
returns-in_err-p c =
    let none = missing_is c.args.prime c.in_err-p.ensures.value in
    passed_on (WorkedOut c.args.v c.args.prime c.args.value) c.from_residual.result c.from_residual.ensures.1
    (judged_no_prime (omega arith) (search rules) none.0 (none.1 ∙ c.at-2.ensures))

pub returns-in_default : goal.returns-in_default
returns-in_default c =
    judged_high (omega arith) (search rules) c.in_ok-p.ensures.ok_part c.in_default.is c.at-in_default.ensures

pub returns : goal.returns
returns c =
    judged_pattern (omega arith) (search rules) c.in_ok-p.ensures.ok_part c.in-Ok.is c.pattern.ensures
