-- The great step as a linear map: `Rows`, the rows x^k·y modulo q, 33 entries each, one after the other; `GreatStep`, g·y from the rows of y.
-- Assumes nothing.
use Rattle.std.specs.Prelude.{List, ℕ, ◌≤◌, ◌<◌, ◌*◌, length}
use borrow.Rule.Slice.PartMut.{mid_of}
use Rattle.algebra.specs.PolynomialRing.{◌·◌}
use Rattle.algebra.specs.Degree.{Below}
use Rattle.algebra.specs.CoefficientLists.{poly, Reduced}
use Rattle.algebra.specs.Monomials.{x^}
use Rattle.quotients.specs.Remainder.{Remainder}

-- row k
abbrev pub row : List ℕ → ℕ → List ℕ
row rows k = mid_of (k * 33) 33 rows

-- the first i rows of y
pub record Rows (n : ℕ) (q : List ℕ) (d : ℕ) (y : List ℕ) (i : ℕ) (rows : List ℕ) : Type 0 where
  pub room : i * 33 ≤ length rows
  pub each : (k : ℕ) → k < i → Remainder n q d (row rows k) (x^ k · poly n y)

-- d rows with d terms each
pub record SmallRows (n d : ℕ) (rows : List ℕ) : Type 0 where
  pub room : d * 33 ≤ length rows
  pub reduced : (k : ℕ) → k < d → Reduced n 33 (row rows k)
  pub small : (k : ℕ) → k < d → Below d (poly n (row rows k))

-- r is g·y modulo q, whatever q and y the rows are of
pub record GreatStep (n d : ℕ) (rows g r : List ℕ) : Type 0 where
  pub is : (q y : List ℕ) → Rows n q d y d rows → Remainder n q d r (poly n g · poly n y)
