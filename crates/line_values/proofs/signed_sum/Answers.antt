-- `line_values::signed_sum` meets its contract.
-- Assumes nothing.
use Rattle.line_values.specs.Worth.{SignedSum}
use Rattle.line_values.proofs.Judging.{passed_on}
use Rattle.line_values.proofs.Sums.{sum_without}
use Rattle.line_values.proofs.signed_sum.Goals as goal

pub returns-in_err-f : goal.returns-in_err-f
returns-in_err-f c =
    passed_on (SignedSum c.args.p.value c.args.sign c.args.a c.args.b) c.from_residual.result c.from_residual.ensures.1
    (sum_without c.args.sign c.in_err-f.ensures)
