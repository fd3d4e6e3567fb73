-- `quotients::power` meets its contract.
-- Assumes nothing.
use Rattle.quotients.proofs.PowerTurns.{power_one, power_even, power_odd}
use Rattle.quotients.proofs.+power.Goals as goal

pub returns-then-k-eq1 : goal.returns-then-k-eq1
returns-then-k-eq1 t c = power_one _ _ _ _ c.if-k-eq1.true c.requires.1 c.requires.2

pub returns-then-k-eq0 : goal.returns-then-k-eq0
returns-then-k-eq0 t c = power_even _ _ _ _ c.power-h.ensures c.product_modulo-s.ensures c.if-k-eq0.true

pub returns : goal.returns
returns t c = power_odd _ _ _ _ c.power-h.ensures c.product_modulo-s.ensures c.if-k-eq0.false c.product_modulo.ensures
