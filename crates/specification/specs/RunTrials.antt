-- Run lengths, worked by the definition, as one table with one theorem: "For x² + 1 modulo 4 it is 4". A row has the prime, f and its run length.
-- Then the pulses of that pattern.
use Rattle.std.specs.Prelude.{◌≡◌, refl, ℕ, List, [], ◌∷◌, map}
use Rattle.specification.specs.Open.{everything}
use Rattle.specification.specs.Lists.{below}
use Rattle.specification.specs.Polynomials.{Poly}
use Rattle.specification.specs.RunLength.{run_length, pulses, state_one}

-- a row of the table
pub record RunTrial : Type 0 where
  pub prime : ℕ
  pub poly : Poly
  pub run : ℕ

-- a row, in the order of its fields
abbrev trial : ℕ → Poly → ℕ → RunTrial
trial p f r = record { prime = p; poly = f; run = r }

-- what the definition gives for a row's prime and polynomial
abbrev worked : RunTrial → RunTrial
worked t = trial t.prime t.poly (run_length t.prime t.poly)

abbrev pub run_trials : List RunTrial
run_trials =
    -- "For x² + 1 modulo 4 it is 4"; modulo 2 it would be 2
    trial 2 (1 ∷ 0 ∷ 1 ∷ []) 4
    -- x + 3 modulo 4: there x is 1
    ∷ trial 2 (3 ∷ 1 ∷ []) 1
    -- x² + x + 1 modulo 4, and x² + 3x + 1, whose run is twice that of its bar
    ∷ trial 2 (1 ∷ 1 ∷ 1 ∷ []) 3
    ∷ trial 2 (1 ∷ 3 ∷ 1 ∷ []) 6
    -- x³ + 6x² + 4 modulo 9, the program's example
    ∷ trial 3 (4 ∷ 0 ∷ 6 ∷ 1 ∷ []) 18
    -- x + 46 modulo 49: there x is 3, of order 42
    ∷ trial 7 (46 ∷ 1 ∷ []) 42
    ∷ []

-- the definition gives the table
pub run_trials_hold : map worked run_trials ≡ run_trials
unfolding everything
run_trials_hold = refl

-- the states that pulses give, from the state 1 on to the state 1 again: x² + 1 modulo 4
pub pulses_hold :
    map (λ (k : ℕ). pulses 4 (1 ∷ 0 ∷ 1 ∷ []) k (state_one (1 ∷ 0 ∷ 1 ∷ []))) (below 5)
    ≡ (1 ∷ 0 ∷ []) ∷ (0 ∷ 1 ∷ []) ∷ (3 ∷ 0 ∷ []) ∷ (0 ∷ 3 ∷ []) ∷ (1 ∷ 0 ∷ []) ∷ []
unfolding everything
pulses_hold = refl
