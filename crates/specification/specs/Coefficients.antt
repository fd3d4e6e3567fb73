-- Coefficients: 0x03 i v and 0x05 i v v, "coefficient of the i-th power is v", written and read, with the numbers 6 and 7.
-- How wide a coefficient's value is, and under which code it stands, is said here and in the two rows of the table of commands; from which prime on it has
-- two bytes, in `Limits.wide`.
use Rattle.std.specs.Prelude.{ℕ, zero, suc, Bool, cond, ◌&&◌, ◌||◌, List, [], ◌∷◌, set, drop, eqb, ltb, leb}
use Rattle.specification.specs.Polynomials.{Poly, degree}
use Rattle.specification.specs.Commands.{Command, command, operand, two_bytes, from_two_bytes}
use Rattle.specification.specs.Reading.{Reader, done, ◌>>=◌, ◌>>◌, judged, on_next, byte, two_byte_number, command_byte}
use Rattle.specification.specs.Limits.{wide, ◌²}

-- ---- the code and the width

-- the command that gives a coefficient, for the prime p: "Command 0x05 .. replaces 0x03 for primes from 17 up"
abbrev pub coefficient_code : ℕ → ℕ
coefficient_code p = cond (wide p) 0x05 0x03

-- a command gives a coefficient, of whatever prime
abbrev pub is_coefficient : Command → Bool
is_coefficient c = eqb c.code 0x03 || eqb c.code 0x05

-- a value as operands, for the prime p: one byte, or "a value of two bytes, low byte first"
abbrev pub value_bytes : ℕ → ℕ → List ℕ
value_bytes p v = cond (wide p) (two_bytes v) (v ∷ [])

-- the value that operands give, one or two
abbrev pub value_of : List ℕ → ℕ
value_of operands = from_two_bytes operands

-- a value read, for the prime p
abbrev pub value : ℕ → Reader ℕ
value p = cond (wide p) (two_byte_number 7) byte

-- ---- written

-- "coefficient of the i-th power is v"
abbrev pub coefficient_command : (p i v : ℕ) → Command
coefficient_command p i v = command (coefficient_code p) (i ∷ value_bytes p v)

-- one "for every coefficient other than 0 .., index rising" from i
unfoldable pub coefficient_commands : ℕ → ℕ → Poly → List Command
coefficient_commands p i [] = []
coefficient_commands p i (zero ∷ f) = coefficient_commands p (suc i) f
coefficient_commands p i (suc v ∷ f) = coefficient_command p i (suc v) ∷ coefficient_commands p (suc i) f

-- the index and the value that a command gives
abbrev pub given_index : Command → ℕ
given_index c = operand c 0

abbrev pub given_value : Command → ℕ
given_value c = value_of (drop 1 c.operands)

-- f with the coefficient that a command gives
abbrev pub with_coefficient : Poly → Command → Poly
with_coefficient f c = set f (given_index c) (given_value c)

-- ---- read

-- the index is below the degree d and not below the least that may follow
abbrev pub index_taken : (d least i : ℕ) → Bool
index_taken d least i = ltb i d && leb least i

-- 6: "A coefficient's index is not below the degree, or not above the index before it"
abbrev pub index_operand : (d least : ℕ) → Reader ℕ
index_operand d least = judged 6 (index_taken d least) byte

-- "values are not 0", and below p²
abbrev pub value_taken : ℕ → ℕ → Bool
value_taken p v = ltb 0 v && ltb v (p ²)

-- 7: "A coefficient's value is 0, or p² or more"; "judged once both bytes are there, at the place of its first"
abbrev pub value_operand : ℕ → Reader ℕ
value_operand p = judged 7 (value_taken p) (value p)

-- "any number of 0x03", or of 0x05, each of which sets a coefficient of f; the next index is `least` or more
-- (a definition must end: indices rise below the degree, so a room above it never decides)
unfoldable pub coefficients : (room p least : ℕ) (f : Poly) → Reader Poly
coefficients zero p least f = done f
coefficients (suc room) p least f = on_next (coefficient_code p) (do
  command_byte (coefficient_code p)
  i ← index_operand (degree f) least
  v ← value_operand p
  coefficients room p (suc i) (set f i v)) (done f)
