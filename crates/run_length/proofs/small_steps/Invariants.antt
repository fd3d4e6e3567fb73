-- `run_length::small_steps` meets its contract. The loop has r = x^i modulo f.
-- Assumes nothing.
use Rattle.algebra.specs.Monomials.{x^}
use Rattle.quotients.specs.Remainder.{Remainder}
use Rattle.run_length.specs.Marks.{Marks}
use Rattle.run_length.proofs.small_steps.Given as goal

abbrev pub invariant-loop-i : goal.invariant-loop-i
invariant-loop-i l = Marks l.f.n l.f.coefs l.f.degree l.w l.marks l.i × Remainder l.f.n l.f.coefs l.f.degree l.r (x^ l.i)
