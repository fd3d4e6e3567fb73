-- `polynomial::leading` meets its contract.
-- Assumes nothing.
use Rattle.std.proofs.Common.{arith, sym, ◌∙◌}
use Rattle.arrays.specs.Trimming.{leading_trim}
use Rattle.polynomial.proofs.leading.Goals as goal

pub returns-then-s-eq0 : goal.returns-then-s-eq0
returns-then-s-eq0 c = sym (leading_trim c.size-s.ensures ∙ c.size-s.ensures.above _ (omega arith))

pub returns-else-s-eq0 : goal.returns-else-s-eq0
returns-else-s-eq0 c = sym (leading_trim c.size-s.ensures)
