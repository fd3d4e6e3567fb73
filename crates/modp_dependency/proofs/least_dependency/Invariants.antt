-- `modp_dependency::least_dependency` meets its contract. The rows span the images so far, and these are independent.
-- Assumes nothing.
use Rattle.modp_dependency.specs.Dependency.{Searching}
use Rattle.modp_dependency.proofs.least_dependency.Given as goal

abbrev pub invariant-loop-i : goal.invariant-loop-i
invariant-loop-i l = Searching l.p l.images l.first l.count l.d l.i l.rows
