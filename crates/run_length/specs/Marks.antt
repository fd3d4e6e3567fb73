-- Marks of remainders: `marked w a`, a number that equal arrays share; `Marks`, the table holds the marks of x^0, x^1, .. modulo q.
-- Assumes nothing.
use Rattle.std.specs.Prelude.{◌≡◌, List, ℕ, zero, suc, ◌<◌, ◌%◌, ◌+◌, ◌*◌, length, get_or}
use Rattle.algebra.specs.Monomials.{x^}
use Rattle.quotients.specs.Remainder.{Remainder}

-- the sum of the first k entries, each times its weight
unfoldable pub weighted : List ℕ → List ℕ → ℕ → ℕ
weighted w a zero = 0
weighted w a (suc k) = weighted w a k + get_or a k 0 * get_or w k 0

-- 32 bits of the sum
unfoldable pub marked : List ℕ → List ℕ → ℕ
marked w a = weighted w a 33 % 4294967296

-- how many powers of x have their mark kept
abbrev pub small_steps : ℕ
small_steps = 1024

-- the first i places of the table
pub record Marks (n : ℕ) (q : List ℕ) (d : ℕ) (w table : List ℕ) (i : ℕ) : Type 0 where
  pub long : length table ≡ small_steps
  pub at : (k : ℕ) → k < i → (r : List ℕ) → Remainder n q d r (x^ k) → get_or table k 0 ≡ marked w r
