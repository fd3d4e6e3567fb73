-- What is claimed of typed lines, as types: `OneReading`; `LineOrPlace`, a line passes 15 exactly when the grammar gives it, and 15 has one place;
-- `AnyPart`, what `any_part` finds; `OneOutcome`, every line is answered, in one way; `SheetsTyped`, which lines get a sheet, and which sheet, said of the tree
-- alone, with `Small` for 16 and `Low` for 17; `RefusalsInCase`, which lines are turned back with which number.
use Rattle.std.specs.Prelude.{◌≡◌, ◌⊎◌, ◌↔◌, Bool, true, false, List, ℕ, ◌+◌, ◌*◌, ◌≤◌, ◌<◌, length}
use Rattle.specification.specs.Limits.{taken, degree_limit, answer_area, line_limit, number_limit, exponent_limit}
use Rattle.specification.specs.Polynomials.{is_zero}
use Rattle.specification.specs.Records.{trim}
use Rattle.specification.specs.Sheets.{Sheet, sheet_of, sheet_bytes}
use Rattle.specification.specs.Calls.{Outcome, success, refused}
use Rattle.specification.specs.SheetClaims.{GoodSheet}
use Rattle.specification.specs.Grammar.{Tree, number, power, times, plus, minus, Line}
use Rattle.specification.specs.TypedLines.{NoLine, meaning, any_part, degree_of, Typed}

-- ---- read

-- "and its reading is the only one"
abbrev pub OneReading : Type 0
OneReading = (s : List ℕ) (p q : ℕ) (t u : Tree) → Line s p t → Line s q u → (p ≡ q) × (t ≡ u)

-- "A line passes 15 exactly when that grammar gives it": the grammar gives it, or there is one place for 15; `NoLine` says that not both are so
pub record LineOrFault (s : List ℕ) : Type 0 where
  pub either : ((p : ℕ) × (t : Tree) × Line s p t) ⊎ ((k : ℕ) × NoLine s k)
  pub one_place : (j k : ℕ) → NoLine s j → NoLine s k → j ≡ k

abbrev pub LineOrPlace : Type 0
LineOrPlace = (s : List ℕ) → LineOrFault s

-- ---- the parts of a tree

-- u is a part of the tree
pub data PartOf (u : Tree) : Tree → Type 0 where
  itself : {t : Tree} → u ≡ t → PartOf u t
  in_power : {t : Tree} {e : ℕ} → PartOf u t → PartOf u (power t e)
  left_of_times : {a b : Tree} → PartOf u a → PartOf u (times a b)
  right_of_times : {a b : Tree} → PartOf u b → PartOf u (times a b)
  left_of_plus : {a b : Tree} → PartOf u a → PartOf u (plus a b)
  right_of_plus : {a b : Tree} → PartOf u b → PartOf u (plus a b)
  left_of_minus : {a b : Tree} → PartOf u a → PartOf u (minus a b)
  right_of_minus : {a b : Tree} → PartOf u b → PartOf u (minus a b)

abbrev pub AnyPart : Type 0
AnyPart = (test : Tree → Bool) (t : Tree) → (any_part test t ≡ true) ↔ ((u : Tree) × PartOf u t × (test u ≡ true))

-- 16 for numbers and exponents is not its case: no number is "over 65,535", no exponent "over 32"
pub record Small (p : ℕ) (t : Tree) : Type 0 where
  pub prime : p ≤ number_limit
  pub numbers : (n : ℕ) → PartOf (number n) t → n ≤ number_limit
  pub exponents : (u : Tree) (e : ℕ) → PartOf (power u e) t → e ≤ exponent_limit

-- the first cases of 17 are not its case: no "power of a polynomial other than zero, or a product of two such, whose degrees call for more than 32"
pub record Low (p : ℕ) (t : Tree) : Type 0 where
  pub powers : (u : Tree) (e : ℕ) → PartOf (power u e) t → (is_zero (meaning p u) ≡ true) ⊎ (e * degree_of (meaning p u) ≤ degree_limit)
  pub products : (a b : Tree) → PartOf (times a b) t
      → (is_zero (meaning p a) ≡ true) ⊎ (is_zero (meaning p b) ≡ true) ⊎ (degree_of (meaning p a) + degree_of (meaning p b) ≤ degree_limit)

-- ---- answered

-- every line has an outcome, and no other
pub record Answering (area : ℕ) (line : List ℕ) : Type 0 where
  pub outcome : Outcome
  pub holds : Typed area line outcome
  pub only : (o : Outcome) → Typed area line o → o ≡ outcome

abbrev pub OneOutcome : Type 0
OneOutcome = (area : ℕ) (line : List ℕ) → Answering area line

-- a line of 255 bytes or less that is read as this prime and this tree
pub record ReadAs (line : List ℕ) (p : ℕ) (t : Tree) : Type 0 where
  pub short : length line ≤ line_limit
  pub read : Line line p t

-- the sheet that a tree means
abbrev pub typed_sheet : ℕ → Tree → Sheet
typed_sheet p t = sheet_of p (trim (meaning p t))

-- the bytes are the sheet of what the line means
pub record SheetOfLine (line bytes : List ℕ) : Type 0 where
  pub prime : ℕ
  pub tree : Tree
  pub read_as : ReadAs line prime tree
  pub small : Small prime tree
  pub low : Low prime tree
  -- a taken prime and "monic of degree 1 to 32"
  pub good : GoodSheet (typed_sheet prime tree)
  pub is : bytes ≡ sheet_bytes (typed_sheet prime tree)

abbrev pub SheetsTyped : Type 0
SheetsTyped = (area : ℕ) → answer_area ≤ area → (line bytes : List ℕ) → Typed area line (success bytes) ↔ SheetOfLine line bytes

-- ---- turned back

-- 15, with its place
abbrev pub NotALine : List ℕ → ℕ → Type 0
NotALine line k = (length line ≤ line_limit) × NoLine line k

-- 16: "a line over 255 bytes .., a number over 65,535 or an exponent over 32"
abbrev pub TooLarge : List ℕ → Type 0
TooLarge line = (line_limit < length line) ⊎ ((p : ℕ) × (t : Tree) × ReadAs line p t × (Small p t → ⊥))

-- "then 4, .. for the prime"
abbrev pub PrimeNotTaken : List ℕ → Type 0
PrimeNotTaken line = (p : ℕ) × (t : Tree) × ReadAs line p t × Small p t × (taken p ≡ false)

-- "then 17": too high, "or a value that is not monic of degree 1 to 32"
abbrev pub NoPattern : List ℕ → Type 0
NoPattern line = (p : ℕ) × (t : Tree) × ReadAs line p t × Small p t × (taken p ≡ true) × (Low p t → GoodSheet (typed_sheet p t) → ⊥)

-- each number "is given in its case and in no other"
pub record RefusedInCase (area : ℕ) (line : List ℕ) : Type 0 where
  pub fifteen : (k : ℕ) → Typed area line (refused 15 k) ↔ NotALine line k
  pub sixteen : Typed area line (refused 16 0) ↔ TooLarge line
  pub four : Typed area line (refused 4 0) ↔ PrimeNotTaken line
  pub seventeen : Typed area line (refused 17 0) ↔ NoPattern line

abbrev pub RefusalsInCase : Type 0
RefusalsInCase = (area : ℕ) → answer_area ≤ area → (line : List ℕ) → RefusedInCase area line
