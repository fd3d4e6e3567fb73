-- What the value of a piece of a line is worth: `Worth p t a`, a has the number of the tree t and, where that is 0, its polynomial modulo p².
-- The contracts of the pieces: whatever the parts are worth, the whole is worth what the tree over them is. Assumes nothing.
use Rattle.std.specs.Prelude.{◌≡◌, Bool, true, cond, ◌||◌, List, Result, Ok, Err, IfOk, MatchResult, ℕ, leb}
use Rattle.specification.specs.Limits.{taken, ◌², number_limit}
use Rattle.specification.specs.Grammar.{Tree, number, variable, power, times, plus, minus, minus_sign}
use Rattle.specification.specs.TypedLines.{meaning, any_part, is_large, is_high}
use Rattle.algebra.specs.CoefficientLists.{poly, Reduced}
use Rattle.arrays.specs.Represents.{Represents}
use Rattle.refusals.specs.declared.Refusal.{Refusal}
use Rattle.refusals.specs.Numbers.{number_of}
use Rattle.line_values.specs.declared.Sign.{Sign}
use Rattle.line_values.specs.declared.Sign.TheVariants.{Plus, Minus}

-- a number as the code has it: any over 65,535 is held as 65,536
unfoldable pub held : ℕ → ℕ
held k = cond (leb k number_limit) k 65536

-- 16 comes before 17, and 17 before 0
unfoldable pub judged : Bool → Bool → ℕ
judged large high = cond large 16 (cond high 17 0)

-- the number of a tree, but for its prime and its value
unfoldable pub tree_number : ℕ → Tree → ℕ
tree_number p t = judged (any_part is_large t) (any_part (is_high p) t)

-- the value of a piece as the code has it: an array, or a refusal
abbrev pub Value : Type 0
Value = Result (List ℕ) Refusal

-- 0 where there is a value
abbrev pub number_in : Value → ℕ
number_in (Ok f) = 0
number_in (Err why) = number_of why

pub record Worth (p : ℕ) (t : Tree) (a : Value) : Type 0 where
  pub number : number_in a ≡ tree_number p t
  pub value : IfOk a (λ f. Represents (p ²) f (poly (p ²) (meaning p t)))

-- where there is a value, it is reduced
abbrev pub Sound : ℕ → Value → Type 0
Sound p a = IfOk a (λ f. Reduced (p ²) 33 f)

-- the number of two pieces; it is 0 only where both are
pub record Worse (a b r : ℕ) : Type 0 where
  pub none : r ≡ 0 → (a ≡ 0) × (b ≡ 0)
  pub is : (large high large₂ high₂ : Bool) → a ≡ judged large high → b ≡ judged large₂ high₂ → r ≡ judged (large || large₂) (high || high₂)

-- both values; or the refusal of the two pieces, where either has one
abbrev pub Both : Value → Value → Result (List ℕ × List ℕ) Refusal → Type 0
Both a b r = MatchResult r (λ v. (a ≡ Ok v.0) × (b ≡ Ok v.1)) (λ why. Worse (number_in a) (number_in b) (number_of why))

-- v is the number as it is held
pub record OfNumber (p v : ℕ) (r : Value) : Type 0 where
  pub worth : (k : ℕ) → v ≡ held k → Worth p (number k) r

pub record OfX (r : Value) : Type 0 where
  pub worth : (p : ℕ) → taken p ≡ true → Worth p variable r

-- the tree of two parts with a sign between them
abbrev pub signed : Sign → Tree → Tree → Tree
signed Plus = plus
signed Minus = minus

pub record SignedSum (p : ℕ) (sign : Sign) (a b r : Value) : Type 0 where
  pub worth : (t u : Tree) → Worth p t a → Worth p u b → Worth p (signed sign t u) r

-- a sum by the byte that stands for its sign: any but a minus adds
pub record OfSum (p sign : ℕ) (a b r : Value) : Type 0 where
  pub sum : (sign ≡ minus_sign → ⊥) → (t u : Tree) → Worth p t a → Worth p u b → Worth p (plus t u) r
  pub difference : sign ≡ minus_sign → (t u : Tree) → Worth p t a → Worth p u b → Worth p (minus t u) r

pub record OfProduct (p : ℕ) (a b r : Value) : Type 0 where
  pub product : (t u : Tree) → Worth p t a → Worth p u b → Worth p (times t u) r

-- e is the exponent as it is held
pub record OfPower (p : ℕ) (a : Value) (e : ℕ) (r : Value) : Type 0 where
  pub power : (t : Tree) (k : ℕ) → e ≡ held k → Worth p t a → Worth p (power t k) r
