-- `modp_radical::root`: the loop has stored the first i entries.
use Rattle.modp_radical.proofs.DerivedArrays.{Stored, root_entry}
use Rattle.modp_radical.proofs.root.Given as goal

abbrev pub invariant-loop-i : goal.invariant-loop-i
invariant-loop-i l = Stored (root_entry l.a.n l.a.coefs) l.coefs l.i
