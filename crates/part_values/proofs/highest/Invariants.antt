-- `part_values::highest`: the loop has divided by G k times.
use Rattle.part_values.proofs.Cofactors.{Cofactor}
use Rattle.part_values.proofs.highest.Given as goal

abbrev pub invariant-loop-k : goal.invariant-loop-k
invariant-loop-k l = Cofactor l.base.n l.fn.h l.base.coefs l.k l.w
