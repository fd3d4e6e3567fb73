-- What a whole line gives: `Gives r o`, the code's answer r is the outcome o of the specification; and the contracts of the last steps, which judge what was
-- read. Assumes nothing.
use Rattle.std.specs.Prelude.{◌≡◌, false, List, Option, Some, None, MatchOption, Result, MatchResult, ℕ, ◌≤◌, length}
use Rattle.specification.specs.Limits.{taken, ◌², degree_limit, answer_area, line_limit}
use Rattle.specification.specs.Sheets.{sheet_bytes}
use Rattle.specification.specs.SheetClaims.{GoodSheet}
use Rattle.specification.specs.Calls as calls
use Rattle.specification.specs.Grammar.{Tree}
use Rattle.specification.specs.TypedLines as lines
use Rattle.specification.specs.TypedLines.{meaning, Typed}
use Rattle.algebra.specs.CoefficientLists.{poly}
use Rattle.arrays.specs.Represents.{Represents}
use Rattle.commands.specs.AsSheet.{as_sheet}
use Rattle.line_values.specs.Worth.{held, Value, Worth}
use Rattle.primes.specs.declared.TakenPrime.{TakenPrime}
use Rattle.commands.specs.declared.Sheet.{Sheet}
use Rattle.refusals.specs.declared.Refused.{Refused}
use Rattle.refusals.specs.Numbers.{number_of}

-- a good sheet, or a refusal's number with its place
abbrev pub Gives : Result Sheet Refused → calls.Outcome → Type 0
Gives r o =
    MatchResult r (λ s. (o ≡ calls.success (sheet_bytes (as_sheet s))) × GoodSheet (as_sheet s) × (s.degree ≤ degree_limit))
    (λ e. o ≡ calls.refused (number_of e.why) e.place)

-- the last check of 17, of a polynomial that some tree means
pub record PatternOf (p : TakenPrime) (f : List ℕ) (r : Result Sheet Refused) : Type 0 where
  pub gives : (t : Tree) → Represents (p.value ²) f (poly (p.value ²) (meaning p.value t)) → lines.any_part (lines.is_high p.value) t ≡ false
      → Gives r (lines.valued p.value t)

-- the prime that a number is, as it is held, if it is one
abbrev pub PrimeIn : ℕ → Option TakenPrime → Type 0
PrimeIn v r = MatchOption r (taken v ≡ false) (λ p. v ≡ p.value)

-- the prime by which a line is worked: its own, or 2
abbrev pub stand_in : Option TakenPrime → ℕ
stand_in None = 2
stand_in (Some p) = p.value

-- the checks of a line that is read as the prime q and the tree t, worked modulo its own prime or 2
pub record WorkedOut (v : ℕ) (p : Option TakenPrime) (value : Value) (r : Result Sheet Refused) : Type 0 where
  pub gives : (q : ℕ) (t : Tree) → v ≡ held q → PrimeIn v p → Worth (stand_in p) t value → Gives r (lines.worked q t)

-- a line that is short enough
pub record ShortRead (s : List ℕ) (r : Result Sheet Refused) : Type 0 where
  pub read : length s ≤ line_limit → (o : calls.Outcome) × Typed answer_area s o × Gives r o

pub record LineRead (s : List ℕ) (r : Result Sheet Refused) : Type 0 where
  pub outcome : calls.Outcome
  pub typed : Typed answer_area s outcome
  pub gives : Gives r outcome
