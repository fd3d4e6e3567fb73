-- The twelve trial polynomials: "proved about the definitions, as one table carrying one theorem".
-- A row has the prime and f, then each part's verdict and factors, and the free digits.
use Rattle.std.specs.Prelude.{◌≡◌, refl, ℕ, List, [], ◌∷◌, map}
use Rattle.specification.specs.Open.{everything}
use Rattle.specification.specs.Polynomials.{Poly}
use Rattle.specification.specs.Parts.{basic, solid, power, split, Factor, Splitting, split_into as part, Part, parts_of}
use Rattle.specification.specs.Totals.{free_digits}

-- a row of the table
pub record Trial : Type 0 where
  pub prime : ℕ
  pub poly : Poly
  pub list : List Splitting
  pub free : ℕ

-- a row, in the order of the table's columns
abbrev trial : ℕ → Poly → List Splitting → ℕ → Trial
trial p f list free = record { prime = p; poly = f; list = list; free = free }

-- t times q
abbrev factor : ℕ → Poly → Factor
factor t q = record { poly = q; times = t }

-- what the definitions give for a row's prime and polynomial
abbrev worked : Trial → Trial
worked t =
    let Ps : List Part = parts_of t.prime t.poly in
    trial t.prime t.poly (map (λ (P : Part). P.splitting) Ps) (free_digits Ps)

-- the table of document 01, each row under its text
abbrev pub trials : List Trial
trials =
    -- 4: x + 3; basic: x + 3
    trial 2 (3 ∷ 1 ∷ []) (part basic (factor 1 (3 ∷ 1 ∷ []) ∷ []) ∷ []) 0
    -- 4: x²; power: x twice
    ∷ trial 2 (0 ∷ 0 ∷ 1 ∷ []) (part power (factor 2 (0 ∷ 1 ∷ []) ∷ []) ∷ []) 1
    -- 4: x² + 2; solid
    ∷ trial 2 (2 ∷ 0 ∷ 1 ∷ []) (part solid (factor 1 (2 ∷ 0 ∷ 1 ∷ []) ∷ []) ∷ []) 0
    -- 4: x⁴; power: x four times
    ∷ trial 2 (0 ∷ 0 ∷ 0 ∷ 0 ∷ 1 ∷ []) (part power (factor 4 (0 ∷ 1 ∷ []) ∷ []) ∷ []) 3
    -- 4: x² + 2x; split: x, x + 2
    ∷ trial 2 (0 ∷ 2 ∷ 1 ∷ []) (part (split 1) (factor 1 (0 ∷ 1 ∷ []) ∷ factor 1 (2 ∷ 1 ∷ []) ∷ []) ∷ []) 1
    -- 4: x² + 1; solid
    ∷ trial 2 (1 ∷ 0 ∷ 1 ∷ []) (part solid (factor 1 (1 ∷ 0 ∷ 1 ∷ []) ∷ []) ∷ []) 0
    -- 4: x² + 3; split: x + 1, x + 3
    ∷ trial 2 (3 ∷ 0 ∷ 1 ∷ []) (part (split 1) (factor 1 (1 ∷ 1 ∷ []) ∷ factor 1 (3 ∷ 1 ∷ []) ∷ []) ∷ []) 1
    -- 4: x³ + 3; basic x + 3; basic x² + x + 1
    ∷ trial 2 (3 ∷ 0 ∷ 0 ∷ 1 ∷ []) (part basic (factor 1 (3 ∷ 1 ∷ []) ∷ []) ∷ part basic (factor 1 (1 ∷ 1 ∷ 1 ∷ []) ∷ []) ∷ []) 0
    -- 9: x² + 3x; power: x + 6 twice
    ∷ trial 3 (0 ∷ 3 ∷ 1 ∷ []) (part power (factor 2 (6 ∷ 1 ∷ []) ∷ []) ∷ []) 1
    -- 9: x³ + 3x; split: x, x² + 3
    ∷ trial 3 (0 ∷ 3 ∷ 0 ∷ 1 ∷ []) (part (split 1) (factor 1 (0 ∷ 1 ∷ []) ∷ factor 1 (3 ∷ 0 ∷ 1 ∷ []) ∷ []) ∷ []) 1
    -- 9: x³ + 6x² + 4; split: x + 1 twice, x + 4
    ∷ trial 3 (4 ∷ 0 ∷ 6 ∷ 1 ∷ []) (part (split 2) (factor 2 (1 ∷ 1 ∷ []) ∷ factor 1 (4 ∷ 1 ∷ []) ∷ []) ∷ []) 2
    -- 25: x² + 1; basic x + 7; basic x + 18
    ∷ trial 5 (1 ∷ 0 ∷ 1 ∷ []) (part basic (factor 1 (7 ∷ 1 ∷ []) ∷ []) ∷ part basic (factor 1 (18 ∷ 1 ∷ []) ∷ []) ∷ []) 0
    ∷ []

-- the definitions give the table
pub trials_hold : map worked trials ≡ trials
unfolding everything
trials_hold = refl
