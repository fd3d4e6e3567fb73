-- The trial polynomials split by Algorithm 4.5 as it is printed, and one more: among them every way through its questions.
-- Modulo 4 x + 3: m = 1; x⁴: h̄ = 0; x² + 2: m1 = 0; x² + 2x: p | m and m1 = m − 1; x³ + 2x: m1 = m − 2, not p | m. Modulo 9 x³ + 3x: p | m and m1 = m − 2;
-- x² + 3x: neither.
use Rattle.std.specs.Prelude.{◌≡◌, refl, List, [], ◌∷◌, map, ℕ}
use Rattle.specification.specs.Open.{everything}
use Rattle.specification.specs.Polynomials.{Poly}
use Rattle.specification.specs.Powers.{powers}
use Rattle.specification.specs.Parts.{split, factor, Splitting, split_into}
use Rattle.specification.specs.Algorithm45.{algorithm_on}
use Rattle.specification.specs.Trials.{Trial, trials}

-- what the algorithm returns for each part of f
abbrev returned : ℕ → Poly → List Splitting
returned p f = map (algorithm_on p f) (powers p f)

-- it gives the table
pub trials_returned : map (λ (t : Trial). returned t.prime t.poly) trials ≡ map (λ (t : Trial). t.list) trials
unfolding everything
trials_returned = refl

-- 4: x³ + 2x; split: x, x² + 2. No row of the table goes this way
pub cube_returned : returned 2 (0 ∷ 2 ∷ 0 ∷ 1 ∷ []) ≡ split_into (split 1) (factor (0 ∷ 1 ∷ []) 1 ∷ factor (2 ∷ 0 ∷ 1 ∷ []) 1 ∷ []) ∷ []
unfolding everything
cube_returned = refl
