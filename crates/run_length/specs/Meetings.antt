-- Where a great step g meets the small ones: `Meeting n q g r`, r is the highest k below 1024 with x^k = g modulo q, or there is none.
-- Assumes nothing.
use Rattle.std.specs.Prelude.{List, ℕ, ◌≤◌, ◌<◌, ◌+◌, Option, MatchOption}
use Rattle.algebra.specs.CoefficientLists.{poly, 𝓩[x]/}
use Rattle.algebra.specs.Congruence.{Congruent}
use Rattle.algebra.specs.Monomials.{x^}
use Rattle.run_length.specs.Marks.{small_steps}

-- g is x^k modulo q
abbrev pub IsPower : (n : ℕ) → List ℕ → List ℕ → ℕ → Type 0
IsPower n q g k = Congruent (𝓩[x]/ n) (poly n q) (poly n g) (x^ k)

-- from i on no small step is g
pub record NoneFrom (n : ℕ) (q g : List ℕ) (i : ℕ) : Type 0 where
  pub within : i ≤ small_steps
  pub after : (k : ℕ) → i ≤ k → k < small_steps → ¬ IsPower n q g k

-- i is the highest small step that is g
pub record MeetingAt (n : ℕ) (q g : List ℕ) (i : ℕ) : Type 0 where
  pub none : NoneFrom n q g (i + 1)
  pub here : IsPower n q g i

abbrev pub Meeting : ℕ → List ℕ → List ℕ → Option ℕ → Type 0
Meeting n q g r = MatchOption r (NoneFrom n q g 0) (λ i. MeetingAt n q g i)
