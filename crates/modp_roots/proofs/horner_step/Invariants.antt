-- `modp_roots::horner_step`: the loop has passed the residues below c.
use Rattle.modp_roots.specs.Values.{HornerStep}
use Rattle.modp_roots.proofs.horner_step.Given as goal

abbrev pub invariant-loop-c : goal.invariant-loop-c
invariant-loop-c l = HornerStep l.fn.p.n l.y l.c l.fn.r l.r
