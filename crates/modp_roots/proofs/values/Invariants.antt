-- `modp_roots::values`: the loop has passed the terms from i on.
use Rattle.modp_roots.specs.Values.{HornerValues}
use Rattle.modp_roots.proofs.values.Given as goal

abbrev pub invariant-loop-i : goal.invariant-loop-i
invariant-loop-i l = HornerValues l.p l.end l.a l.i l.r
