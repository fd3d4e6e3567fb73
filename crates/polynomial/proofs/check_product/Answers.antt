-- `polynomial::check_product` meets its contract.
-- Assumes nothing.
use Rattle.std.proofs.Common.{arith}
use Rattle.polynomial.proofs.Checks.{too_high, is_product}
use Rattle.polynomial.proofs.check_product.Goals as goal

pub returns-then-size : goal.returns-then-size
returns-then-size c = too_high _ _ c.in_ok-check_pair.ensures c.size.ensures c.size-2.ensures (omega arith)

pub returns : goal.returns
returns c = is_product _ _ c.in_ok-check_pair.ensures c.size.ensures c.size-2.ensures (omega arith)
