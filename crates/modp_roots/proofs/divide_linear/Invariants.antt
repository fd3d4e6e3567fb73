-- `modp_roots::divide_linear`: the loop has passed the terms from i on; after it there is one term more at most.
use Rattle.modp_roots.specs.LinearDivision.{Synthetic}
use Rattle.modp_roots.proofs.divide_linear.Given as goal

abbrev pub invariant-loop-i : goal.invariant-loop-i
invariant-loop-i l = Synthetic l.p l.c l.fn.a l.i l.a l.b

abbrev pub decreases-loop-i : goal.decreases-loop-i
decreases-loop-i l = l.i
