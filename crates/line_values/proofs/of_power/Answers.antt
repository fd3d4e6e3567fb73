-- `line_values::of_power` meets its contract.
-- Assumes nothing.
use Rattle.std.proofs.Common.{arith}
use Rattle.algebra.specs.Degree.{below_up}
use Rattle.arrays.specs.Sizes.{below_size}
use Rattle.line_values.specs.Worth.{OfPower}
use Rattle.line_values.proofs.Judging.{passed_on}
use Rattle.line_values.proofs.Powers.{power_without}
use Rattle.line_values.proofs.of_power.Goals as goal

pub returns-in_err-f : goal.returns-in_err-f
returns-in_err-f c =
    passed_on (OfPower c.args.p.value c.args.a c.args.e) c.from_residual.result c.from_residual.ensures.1
    (rw c.in_err-f.was (power_without (omega arith)))

pub power-requires : goal.power-requires
power-requires c =
    let f = rw c.in_ok-f.was at c.requires in
    let size = c.size.ensures in
    let degree = c.saturating_sub-d.ensures in
    (f, omega (arith, degree, size.limit), below_up (omega (arith, degree)) (below_size _ size), omega arith)
