-- `sheet_steps::two_bytes_at` meets its contract.
-- Assumes nothing.
use Rattle.std.proofs.Common.{◌≡◌, arith, ◌+◌, ◌*◌}
use Rattle.sheet_steps.specs.Steps.{handed_on, two_none, two_half, two_taken}
use Rattle.sheet_steps.proofs.two_bytes_at.Goals as goal

pub returns-in_err-low : goal.returns-in_err-low
returns-in_err-low c = handed_on c.from_residual.ensures.1 (two_none _ c.in_err-low.ensures)

pub returns-in_err-high : goal.returns-in_err-high
returns-in_err-high c = handed_on c.from_residual-in_err-high.ensures.1 (two_half _ c.in_ok-low.ensures c.in_err-high.ensures)

pub returns : goal.returns
returns c =
    let is : c.from_le_bytes.result ≡ c.in_ok-low.low + 256 * c.in_ok-high.high = omega (arith, c.from_le_bytes.ensures) in
    rw is (two_taken _ c.in_ok-low.ensures c.in_ok-high.ensures)
