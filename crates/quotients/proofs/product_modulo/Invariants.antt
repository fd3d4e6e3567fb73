-- `quotients::product_modulo` meets its contract.
-- Assumes nothing.
use Rattle.std.proofs.Common.{drop}
use Rattle.algebra.specs.PolynomialRing.{◌·◌}
use Rattle.algebra.specs.CoefficientLists.{poly}
use Rattle.quotients.specs.Remainder.{Remainder}
use Rattle.quotients.proofs.product_modulo.Given as goal

abbrev pub invariant-loop-i : goal.invariant-loop-i
invariant-loop-i l = Remainder l.q.n l.q.coefs l.q.degree l.r (poly l.q.n (drop l.i l.a) · poly l.q.n l.b)
