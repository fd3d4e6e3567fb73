-- `quotients::times_power_of_x` meets its contract.
-- Assumes nothing.
use Rattle.algebra.specs.PolynomialRing.{◌·◌}
use Rattle.algebra.specs.CoefficientLists.{poly}
use Rattle.algebra.specs.Monomials.{x^}
use Rattle.quotients.specs.Remainder.{Remainder}
use Rattle.quotients.proofs.times_power_of_x.Given as goal

abbrev pub invariant-loop : goal.invariant-loop
invariant-loop l = Remainder l.q.n l.q.coefs l.q.degree l.r (x^ l.counter · poly l.q.n l.fn.a)
