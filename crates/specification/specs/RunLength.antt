-- Run length: "after how many pulses a pattern begins again". `run_length`, by request 1 of document 02; `has_run`, the test of number 14;
-- and what a pulse does to the state of a generator.
use Rattle.std.specs.Prelude.{Bool, not, [], ◌∷◌, ℕ, zero, suc, ◌-◌, ◌%◌, get_or, replicate, eqb}
use Rattle.specification.specs.Lists.{first, up_from}
use Rattle.specification.specs.Limits.{run_limit, ◌²}
use Rattle.specification.specs.Polynomials.{Poly, degree, monomial, sub, remainder, divides}

-- x^k − 1, modulo n
unfoldable pub power_less_one : ℕ → ℕ → Poly
power_less_one n k = sub n (monomial k) (1 ∷ [])

-- "the least n from 1 to 65,535 for which f divides x^n − 1 modulo p², and 0 if there is none so small"
unfoldable pub run_length : ℕ → Poly → ℕ
run_length p f = first (λ (k : ℕ). divides (p ²) f (power_less_one (p ²) k)) 0 (up_from 1 run_limit)

-- 14 is not its case: "p divides the constant coefficient"
unfoldable pub has_run : ℕ → Poly → Bool
has_run p f = not (eqb (get_or f 0 0 % p) 0)

-- ---- pulses

-- a pulse "multiplies by x modulo f"; the modulus is n
unfoldable pub pulse : ℕ → Poly → Poly → Poly
pulse n f s = remainder n f (0 ∷ s)

-- k pulses
unfoldable pub pulses : ℕ → Poly → ℕ → Poly → Poly
pulses n f zero s = s
pulses n f (suc k) s = pulse n f (pulses n f k s)

-- the state 1
abbrev pub state_one : Poly → Poly
state_one f = 1 ∷ replicate (degree f - 1) 0
