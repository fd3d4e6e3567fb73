-- The run length is the number of `RunIs`: the least k from 1 to 65,535 for which f divides x^k − 1.
-- Proves it of the specification's `run_length`: `run_is`. Assumes nothing.
use Rattle.std.specs.Prelude.{ℕ}
use Rattle.specification.specs.Limits.{run_limit, ◌²}
use Rattle.specification.specs.Polynomials as spec
use Rattle.specification.specs.RunLength.{run_length}
use Rattle.specification.specs.RunClaims.{DividesPower, RunIs}
use Rattle.lists.specs.Least.{Least, least_same}
use Rattle.algebra.specs.Numbers.{square_large}
use Rattle.algebra.specs.Fields.{Prime}
use Rattle.items.specs.MonicLists.{MonicList}
use Rattle.runs.specs.PowersOfX.{one_claim}
use Rattle.runs.specs.RunLengths.{run_found}

module _ {p : ℕ} (prime : Prime p) {d : ℕ} {f : spec.Poly} (m : MonicList (p ²) d f) where
  pub run_is : RunIs p f (run_length p f)
  run_is =
      let h : Least (DividesPower (p ²) f) run_limit (run_length p f) = least_same (one_claim (square_large p prime.large) m) (run_found prime m) in
      record { within = h.within; divides = h.holds; least = h.least }
