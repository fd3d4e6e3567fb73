-- `modular::product` meets its contract. A term of a that is 0 adds nothing.
-- Assumes nothing.
use Rattle.modular.proofs.ProductLoop.{PartialProduct}
use Rattle.modular.proofs.product.Given as goal

abbrev pub invariant-loop-i : goal.invariant-loop-i
invariant-loop-i l = PartialProduct l.n l.a l.b l.i l.r
