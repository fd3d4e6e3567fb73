-- `modp_radical::derivative`: the loop has stored the entries before k.
use Rattle.modp_radical.proofs.DerivedArrays.{Stored, derivative_entry}
use Rattle.modp_radical.proofs.derivative.Given as goal

abbrev pub invariant-loop-k : goal.invariant-loop-k
invariant-loop-k l = Stored (derivative_entry l.a.n l.a.coefs) l.r l.k
