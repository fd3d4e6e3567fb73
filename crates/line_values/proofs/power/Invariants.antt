-- The loop of `line_values::power`: after i turns there is the power i.
-- Assumes nothing.
use Rattle.specification.specs.Limits.{◌²}
use Rattle.algebra.specs.CoefficientLists.{poly, 𝓩[x]/}
use Rattle.algebra.specs.Divisibility.{pow}
use Rattle.arrays.specs.Represents.{Represents}
use Rattle.line_values.proofs.power.Given as goal

abbrev pub invariant-loop-i : goal.invariant-loop-i
invariant-loop-i l = Represents (l.fn.p.value ²) l.r (pow (𝓩[x]/ (l.fn.p.value ²)) (poly (l.fn.p.value ²) l.f) l.i)
