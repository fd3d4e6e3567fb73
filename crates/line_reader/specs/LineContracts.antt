-- What the functions that read a line say: of the bytes, by the grammar; of the value, by `Worth`; and where no line goes on, by the machine of the crate
-- `grammar`, whatever the context in which the reading began. Assumes nothing.
use Rattle.std.specs.Prelude.{◌≡◌, false, ◌≢◌, List, Option, MatchOption, Result, MatchResult, ℕ, ◌+◌, ◌<◌, ◌≤◌, length, get_or}
use Rattle.specification.specs.Grammar.{Tree, Blanks, Number, Expression, Product, Power, Term, blank_sign, zero_sign, plus_sign, minus_sign}
use Rattle.grammar.specs.Machine.{Context, State, NoProduct, Fresh, wants, is_digit, step, after, after_term}
use Rattle.grammar.specs.Stopping.{Stopped}
use Rattle.refusals.specs.declared.Refusal.TheVariants.{NotALine}
use Rattle.refusals.specs.declared.Refused.{Refused}
use Rattle.line_values.specs.declared.Sign.{Sign}
use Rattle.line_values.specs.declared.Sign.TheVariants.{Plus, Minus}
use Rattle.line_values.specs.Worth.{held, Value, Worth, Sound}
use Rattle.line_reader.specs.declared.Piece.{Piece}
use Rattle.line_reader.specs.declared.Digits.{Digits}
use Rattle.line_reader.specs.Levels.{operators, sums, closing, products, expressions}

-- ---- bytes

-- the byte at a place, or 0 past the end
pub record ByteAt (s : List ℕ) (at r : ℕ) : Type 0 where
  pub is : r ≡ get_or s at 0

-- a byte's digit, or it is none
abbrev pub DigitOf : ℕ → Option ℕ → Type 0
DigitOf b r = MatchOption r (is_digit b ≡ false) (λ d. (d < 10) × (b ≡ zero_sign + d))

-- blanks up to the place r, which holds none
pub record Skipped (s : List ℕ) (at r : ℕ) : Type 0 where
  pub blanks : Blanks s at r
  pub within : r ≤ length s
  pub ends : get_or s r 0 ≢ blank_sign

-- a number from `at` up to `next`, held as v
pub record Counted (s : List ℕ) (at next v : ℕ) : Type 0 where
  pub number : ℕ
  pub stands : Number s at next number
  pub value : v ≡ held number
  pub reach : at < next
  pub within : next ≤ length s

-- a number and the place after it, which holds no digit; or there is none
abbrev pub DigitsRead : List ℕ → ℕ → Option Digits → Type 0
DigitsRead s at r =
    MatchOption r (is_digit (get_or s at 0) ≡ false) (λ d. Counted s at d.next d.value × (is_digit (get_or s d.next 0) ≡ false))

-- a sign as a byte
abbrev pub sign_byte : Sign → ℕ
sign_byte Plus = plus_sign
sign_byte Minus = minus_sign

-- the sign that a byte is, or it is neither
abbrev pub SignOf : ℕ → Option Sign → Type 0
SignOf b r = MatchOption r ((b ≢ plus_sign) × (b ≢ minus_sign)) (λ sign. b ≡ sign_byte sign)

-- ---- pieces

abbrev pub Any : Context → Type 0
Any K = Unit

-- a piece of the kind G stands from `at` up to `next`, of the value r, and how the machine goes on at the first sign behind it
pub record Stands (G : ℕ → ℕ → Tree → Type 0) (Next : Context → Tree → ℕ → State) (Fits : Context → Type 0) (s : List ℕ) (p at next : ℕ) (r : Value)
    : Type 0 where
  pub reach : at < next
  pub within : next ≤ length s
  pub tree : Tree
  pub stands : G at next tree
  pub worth : Worth p tree r
  pub follows : (K : Context) → Fits K → after s at ≡ wants K → (place : ℕ) → Skipped s next place
      → step (after s place) (get_or s place 0) ≡ Next K tree (get_or s place 0)

-- no line goes on at this place, whatever context the reading began in
pub record Halts (Fits : Context → Type 0) (s : List ℕ) (at place : ℕ) : Type 0 where
  pub from : at ≤ place
  pub stopped : (K : Context) → Fits K → after s at ≡ wants K → Stopped s place

-- number 15, at a place where no line goes on
pub record HaltsAt (Fits : Context → Type 0) (s : List ℕ) (at : ℕ) (e : Refused) : Type 0 where
  pub number : e.why ≡ NotALine
  pub halts : Halts Fits s at e.place

-- a piece of the kind G or, with number 15, the place where the line stops
abbrev pub Took : (ℕ → ℕ → Tree → Type 0) → (Context → Tree → ℕ → State) → (Context → Type 0) → List ℕ → ℕ → ℕ → Result Piece Refused → Type 0
Took G Next Fits s at p r = MatchResult r (λ a. Stands G Next Fits s p at a.end a.value) (HaltsAt Fits s at)

-- the kinds, each with what may stand behind it: a term, which an exponent may follow; a power; the factors and the summands so far; and when they are all
abbrev pub TermStands : List ℕ → ℕ → ℕ → ℕ → Value → Type 0
TermStands s = Stands (Term s) after_term Any s

abbrev pub PowerStands : List ℕ → ℕ → ℕ → ℕ → Value → Type 0
PowerStands s = Stands (Power s) operators Any s

abbrev pub FactorsStand : List ℕ → ℕ → ℕ → ℕ → Value → Type 0
FactorsStand s = Stands (Product s) products NoProduct s

abbrev pub ProductStands : List ℕ → ℕ → ℕ → ℕ → Value → Type 0
ProductStands s = Stands (Product s) sums NoProduct s

abbrev pub SummandsStand : List ℕ → ℕ → ℕ → ℕ → Value → Type 0
SummandsStand s = Stands (Expression s) expressions Fresh s

abbrev pub ExpressionStands : List ℕ → ℕ → ℕ → ℕ → Value → Type 0
ExpressionStands s = Stands (Expression s) closing Fresh s

abbrev pub PowerTook : List ℕ → ℕ → ℕ → Result Piece Refused → Type 0
PowerTook s = Took (Power s) operators Any s

abbrev pub ProductTook : List ℕ → ℕ → ℕ → Result Piece Refused → Type 0
ProductTook s = Took (Product s) sums NoProduct s

abbrev pub ExpressionTook : List ℕ → ℕ → ℕ → Result Piece Refused → Type 0
ExpressionTook s = Took (Expression s) closing Fresh s

-- a place of the line that holds no blank
pub record Asks (s : List ℕ) (at : ℕ) : Type 0 where
  pub place : at ≤ length s
  pub sign : get_or s at 0 ≢ blank_sign

-- a term that ends inside the line, with a value that is reduced
pub record Raisable (s : List ℕ) (base : Piece) (p : ℕ) : Type 0 where
  pub place : base.end ≤ length s
  pub sound : Sound p base.value

-- wherever the term began, it is a power with what follows it
pub record Raises (s : List ℕ) (base : Piece) (p : ℕ) (r : Result Piece Refused) : Type 0 where
  pub took : (i : ℕ) → TermStands s p i base.end base.value → PowerTook s i p r
