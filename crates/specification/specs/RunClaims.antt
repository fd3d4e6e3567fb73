-- What is claimed of run lengths, as types: `RunIs`, what the number is; `BeginsAgainAfter`, what it means for the pattern; `RunExists`, that there is a
-- run; `Runs` and `RunsShown`, of the answer to every accepted sheet; `NoRun`, of number 14. No search stands in them.
use Rattle.std.specs.Prelude.{◌≡◌, true, false, List, ◌≢◌, ℕ, ◌^◌, ◌≤◌, ◌<◌, length, get_or, T}
use Rattle.specification.specs.Limits.{taken, run_limit, ◌²}
use Rattle.specification.specs.Polynomials.{Poly, degree, mul}
use Rattle.specification.specs.RunLength.{power_less_one, has_run, pulses, state_one}
use Rattle.specification.specs.Commands.{commands, has}
use Rattle.specification.specs.Sheets.{Sheet, accepted, read_sheet}
use Rattle.specification.specs.Answers.{answer}
use Rattle.specification.specs.FactorList.{run_in}
use Rattle.specification.specs.Longest.{Monic}

-- "f divides x^k − 1", modulo n
abbrev pub DividesPower : ℕ → Poly → ℕ → Type 0
DividesPower n f k = (q : Poly) × (mul n f q ≡ power_less_one n k)

-- r is the run length of f modulo p²
pub record RunIs (p : ℕ) (f : Poly) (r : ℕ) : Type 0 where
  -- "from 1 to 65,535", or 0
  pub within : r ≤ run_limit
  -- "for which f divides x^n − 1 modulo p²"
  pub divides : 1 ≤ r → DividesPower (p ²) f r
  -- "the least n", and "0 if there is none so small"
  pub least : (k : ℕ) → 1 ≤ k → k ≤ run_limit → DividesPower (p ²) f k → (1 ≤ r) × (r ≤ k)

-- ---- patterns

-- "The generator holds a polynomial of degree below that of f, or zero": as many coefficients as the degree, each below n
pub record State (n : ℕ) (f s : Poly) : Type 0 where
  pub long : length s ≡ degree f
  pub reduced : (i : ℕ) → i < length s → get_or s i 0 < n

-- "after how many pulses a pattern begins again": after r for every state, and no sooner for the state 1
pub record BeginsAgainAfter (n : ℕ) (f : Poly) (r : ℕ) : Type 0 where
  pub every : (s : Poly) → State n f s → pulses n f r s ≡ s
  pub one : State n f (state_one f)
  pub no_sooner : (k : ℕ) → 1 ≤ k → k < r → pulses n f k (state_one f) ≢ state_one f

-- there is a run, if perhaps a long one: there are no more states than this bound
pub record RunExists (p : ℕ) (f : Poly) : Type 0 where
  pub run : ℕ
  pub positive : 1 ≤ run
  pub bound : run ≤ (p ²) ^ degree f
  pub divides : DividesPower (p ²) f run
  pub returns : (s : Poly) → State (p ²) f s → pulses (p ²) f run s ≡ s

-- ---- answers

-- request 1 of f and the number r that its answer has
pub record Run (p : ℕ) (f : Poly) (r : ℕ) : Type 0 where
  pub is : RunIs p f r
  pub only : (k : ℕ) → RunIs p f k → k ≡ r
  pub some_run : RunExists p f
  -- so 0 says that the run is above 65,535, and nothing else
  pub above : r ≡ 0 → (k : ℕ) → 1 ≤ k → DividesPower (p ²) f k → run_limit < k
  pub pattern : 1 ≤ r → BeginsAgainAfter (p ²) f r
  pub long_pattern : r ≡ 0 → (k : ℕ) → 1 ≤ k → k ≤ run_limit → pulses (p ²) f k (state_one f) ≢ state_one f

-- the answer to every accepted sheet that asks for its run
abbrev pub Runs : Type 0
Runs = (bytes : List ℕ) (s : Sheet) → read_sheet bytes ≡ accepted s → s.run ≡ true → Run s.prime s.poly (run_in (answer s))

-- "The answer then carries 0x14": exactly then
abbrev pub RunsShown : Type 0
RunsShown = (bytes : List ℕ) (s : Sheet) → read_sheet bytes ≡ accepted s → has 0x14 (commands (answer s)) ≡ s.run

-- ---- 14

-- "p divides the constant coefficient": then there is no run at all, and nothing is turned back that could be told
abbrev pub NoRun : Type 0
NoRun = (p : ℕ) (f : Poly) → T (taken p) → Monic (p ²) f → has_run p f ≡ false → (k : ℕ) → 1 ≤ k → DividesPower (p ²) f k → ⊥
