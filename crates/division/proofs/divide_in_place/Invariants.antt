-- `division::divide_in_place` meets its contract. The loop has divided down to as many terms as `top` says.
-- Assumes nothing.
use Rattle.division.specs.DivisionLoop.{PartialDivision}
use Rattle.division.proofs.divide_in_place.Given as goal

abbrev pub invariant-loop-top : goal.invariant-loop-top
invariant-loop-top l = PartialDivision l.b.n l.fn.a l.b.coefs l.b.degree l.top l.q l.a
