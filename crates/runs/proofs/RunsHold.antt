-- What is claimed of run lengths holds of the specification's `run_length`, where p does not divide the constant coefficient: `run_holds`.
-- Assumes nothing.
use Rattle.std.specs.Prelude.{ℕ, ◌≤◌, T}
use Rattle.specification.specs.Limits.{◌²}
use Rattle.specification.specs.Polynomials.{Poly, degree}
use Rattle.specification.specs.RunLength.{run_length, has_run}
use Rattle.specification.specs.RunClaims.{RunExists, Run}
use Rattle.lists.specs.Least.{least_zero}
use Rattle.algebra.specs.Numbers.{square_large}
use Rattle.algebra.specs.Fields.{Prime}
use Rattle.items.specs.MonicLists.{MonicList}
use Rattle.runs.specs.PowersOfX.{one_claim}
use Rattle.runs.specs.RunLengths.{run_least, run_unique, run_within}
use Rattle.runs.specs.Patterns.{run_returns, begins_again, no_return}
use Rattle.runs.proofs.RunLengths.{run_is}

-- there are more powers of x than states, so two of them agree
pub run_exists : {p : ℕ} → Prime p → {f : Poly} → MonicList (p ²) (degree f) f → T (has_run p f) → RunExists p f
run_exists {p} prime m has =
    let (k, l, u, h) = run_within prime m has in
    record {
      run = k;
      positive = l;
      bound = u;
      divides = (one_claim (square_large p prime.large) m k l).0 h;
      returns = run_returns prime m k h;
    }

pub run_holds : {p : ℕ} → Prime p → {f : Poly} → MonicList (p ²) (degree f) f → 1 ≤ degree f → T (has_run p f)
    → Run p f (run_length p f)
run_holds prime m d has = record {
  is = run_is prime m;
  only = λ k h. run_unique h (run_is prime m);
  some_run = run_exists prime m has;
  above = least_zero (run_least (run_is prime m));
  pattern = begins_again prime m d;
  long_pattern = no_return prime m;
}
