-- `run_length::rows_of` meets its contract. The loop has t = x^i·y modulo f.
-- Assumes nothing.
use Rattle.algebra.specs.PolynomialRing.{◌·◌}
use Rattle.algebra.specs.CoefficientLists.{poly}
use Rattle.algebra.specs.Monomials.{x^}
use Rattle.quotients.specs.Remainder.{Remainder}
use Rattle.run_length.specs.Rows.{Rows}
use Rattle.run_length.proofs.rows_of.Given as goal

abbrev pub invariant-loop-i : goal.invariant-loop-i
invariant-loop-i l = Rows l.f.n l.f.coefs l.f.degree l.fn.y l.i l.rows × Remainder l.f.n l.f.coefs l.f.degree l.t (x^ l.i · poly l.f.n l.fn.y)
