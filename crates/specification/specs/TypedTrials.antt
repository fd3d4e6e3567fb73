-- Typed lines with what they are answered, as one table; `TypedTrials` says that the definitions give it. A row has a line and its outcome.
use Rattle.std.specs.Prelude.{List, [], ◌∷◌, ◌++◌, ℕ, replicate}
use Prim.Native.String as string
use Rattle.specification.specs.Limits.{answer_area}
use Rattle.specification.specs.Calls.{Outcome, success, refused}
use Rattle.specification.specs.Text.{ascii}
use Rattle.specification.specs.Edges.{example, wide_example}
use Rattle.specification.specs.Grammar.{blank_sign}
use Rattle.specification.specs.TypedLines.{Typed}

-- a row of the table
pub record TypedTrial : Type 0 where
  pub line : List ℕ
  pub outcome : Outcome

-- a row, in the order of its fields
abbrev trial : string.String → Outcome → TypedTrial
trial line outcome = record { line = ascii line; outcome = outcome }

abbrev long : List ℕ → Outcome → TypedTrial
long line outcome = record { line = line; outcome = outcome }

-- the sheet of x
abbrev of_x : ℕ → Outcome
of_x p = success (0x01 ∷ p ∷ 0x02 ∷ 1 ∷ 0x0F ∷ [])

abbrev pub typed_trials : List TypedTrial
typed_trials =
    -- "Fitters type `3: (x+1)^2*(x+4)` and expect a sheet": that of x³ + 6x² + 4 modulo 9
    trial "3: (x+1)^2*(x+4)" (success example)
    ∷ trial "3 : ( x + 1 ) ^ 2 * ( x + 4 )" (success example)
    ∷ trial "003:((x+1))^02*(x+00004)" (success example)
    -- "A power binds before a product and a product before a sum": x³ + 2x² + 3
    ∷ trial "2:x^3+2*x^2+3" (success (0x01 ∷ 2 ∷ 0x02 ∷ 3 ∷ 0x03 ∷ 0 ∷ 3 ∷ 0x03 ∷ 2 ∷ 2 ∷ 0x0F ∷ []))
    -- "equals go left to right": x² − 1 − 1 is x² + 7
    ∷ trial "3:x^2-1-1" (success (0x01 ∷ 3 ∷ 0x02 ∷ 2 ∷ 0x03 ∷ 0 ∷ 7 ∷ 0x0F ∷ []))
    -- "as a term it is taken modulo p²"; "The zeroth power is 1"
    ∷ trial "2:x^2+65535*x+7" (success (0x01 ∷ 2 ∷ 0x02 ∷ 2 ∷ 0x03 ∷ 0 ∷ 3 ∷ 0x03 ∷ 1 ∷ 3 ∷ 0x0F ∷ []))
    ∷ trial "5:0^0*x" (of_x 5)
    -- primes from 11 up: a coefficient modulo 169 has one byte, modulo 289 two
    ∷ trial "13:x+168" (success (0x01 ∷ 13 ∷ 0x02 ∷ 1 ∷ 0x03 ∷ 0 ∷ 168 ∷ 0x0F ∷ []))
    ∷ trial "17:(x+1)*(x-1)" (success wide_example)
    -- 15: "Blanks .. never inside a number", none before the first sign or behind the last, no other space
    ∷ trial "" (refused 15 0)
    ∷ trial " 3:x" (refused 15 0)
    ∷ trial "3:x " (refused 15 4)
    ∷ trial "3:1 0*x" (refused 15 4)
    ∷ trial "3:x\n" (refused 15 3)
    -- "a plus or a minus stands only between two terms"; "a power has one exponent", and it is a number
    ∷ trial "3:-x" (refused 15 2)
    ∷ trial "3:x+ -1" (refused 15 5)
    ∷ trial "3:x^2^2" (refused 15 5)
    ∷ trial "3:x^(2)" (refused 15 4)
    ∷ trial "3:2x" (refused 15 3)
    ∷ trial "3:(x+1" (refused 15 6)
    ∷ trial "3:x+1)" (refused 15 5)
    ∷ trial "3 x" (refused 15 2)
    -- 16 for the length comes before 15: 255 bytes pass, and 256 blanks are no line
    ∷ long (ascii "2:" ++ replicate 252 blank_sign ++ ascii "x") (of_x 2)
    ∷ long (replicate 256 blank_sign) (refused 16 0)
    -- 15 comes before 16 for numbers and exponents, 16 before 4, and 4 before 17
    ∷ trial "65536:x^33+" (refused 15 11)
    ∷ trial "65536:x" (refused 16 0)
    ∷ trial "4:x+65536-65536" (refused 16 0)
    ∷ trial "4:x^33" (refused 16 0)
    ∷ trial "2:x^33-x^33+x" (refused 16 0)
    ∷ trial "4:2*x" (refused 4 0)
    ∷ trial "65535:x^32*x" (refused 4 0)
    ∷ trial "253:x" (refused 4 0)
    ∷ trial "257:x" (refused 4 0)
    -- 17: "whose degrees call for more than 32", though the value vanishes or is multiplied by 0
    ∷ trial "2:x^16*x^16*x" (refused 17 0)
    ∷ trial "2:(2*x^17)^2+x" (refused 17 0)
    ∷ trial "2:0*(x^11)^3+x" (refused 17 0)
    ∷ trial "2:2*x^20*x^20*2+x" (refused 17 0)
    -- and no others: a product with zero, and one whose degree has dropped before
    ∷ trial "2:0*x^32*x^32+x" (of_x 2)
    ∷ trial "2:2*x^20*2*x^20+x" (of_x 2)
    -- 17: "a value that is not monic of degree 1 to 32"
    ∷ trial "3:2*x" (refused 17 0)
    ∷ trial "3:x^0" (refused 17 0)
    ∷ trial "3:x-x" (refused 17 0)
    ∷ []

-- each row of a table is what the definitions give
abbrev pub AllTyped : List TypedTrial → Type 0
AllTyped [] = Unit
AllTyped (r ∷ rows) = Typed answer_area r.line r.outcome × AllTyped rows

abbrev pub TypedTrials : Type 0
TypedTrials = AllTyped typed_trials
