-- `modp_roots::divide_binomial`: the loop has passed the entries from i on.
use Rattle.modp_roots.specs.BinomialDivision.{BinomialSteps}
use Rattle.modp_roots.proofs.divide_binomial.Given as goal

abbrev pub invariant-loop-i : goal.invariant-loop-i
invariant-loop-i l = BinomialSteps l.p l.k l.c l.fn.a l.i l.a
