-- What is claimed of primes, as types: which numbers are taken, how a coefficient stands for each, and that the list of items 1 to 9 cannot be bettered
-- over any prime. `PrimesTaken`, with `PrimeNumber` for what a prime is; `Widths`; `LongestOverPrimes`.
use Rattle.std.specs.Prelude.{◌≡◌, ◌⊎◌, ◌↔◌, ℕ, suc, ◌*◌, ◌/◌, ◌%◌, ◌≤◌, ◌<◌, List, [], ◌∷◌, length, get_or, T}
use Rattle.specification.specs.Limits.{primes, taken, ◌²}
use Rattle.specification.specs.Polynomials.{Poly}
use Rattle.specification.specs.Parts.{Part, parts_of}
use Rattle.specification.specs.Totals.{list_of, total, different}
use Rattle.specification.specs.Commands.{command}
use Rattle.specification.specs.Reading.{judged, byte, two_byte_number}
use Rattle.specification.specs.Coefficients.{coefficient_command, value_taken, value_operand}
use Rattle.specification.specs.Longest.{Monic, Longest}

-- above 1, and a product only with 1
pub record PrimeNumber (p : ℕ) : Type 0 where
  pub large : 1 < p
  pub no_product : (a b : ℕ) → a * b ≡ p → (a ≡ 1) ⊎ (b ≡ 1)

-- "All 54 primes below 256 are taken", and no other number is; each is listed once
pub record PrimesTaken : Type 0 where
  pub exactly : (p : ℕ) → T (taken p) ↔ (PrimeNumber p × (p < 256))
  pub ascend : (i : ℕ) → suc i < length primes → get_or primes i 0 < get_or primes (suc i) 0
  pub count : length primes ≡ 54

-- "Command 0x05 .. replaces 0x03 for primes from 17 up", written and read; below, both are what they were: "Primes 2 to 7 keep their sheets and answers"
pub record Widths (p : ℕ) : Type 0 where
  pub one_byte : p < 17 → ((i v : ℕ) → coefficient_command p i v ≡ command 0x03 (i ∷ v ∷ [])) × (value_operand p ≡ judged 7 (value_taken p) byte)
  pub two_bytes : 17 ≤ p
      → ((i v : ℕ) → coefficient_command p i v ≡ command 0x05 (i ∷ v % 256 ∷ v / 256 ∷ [])) × (value_operand p ≡ judged 7 (value_taken p) (two_byte_number 7))

-- "The longest-list property is shown over the prime as a parameter": of every prime, taken or not, and of every degree
abbrev pub LongestOverPrimes : Type 0
LongestOverPrimes =
    (p : ℕ) → PrimeNumber p → (f : Poly) → Monic (p ²) f
    → let Ps : List Part = parts_of p f in Longest (p ²) f (list_of Ps) (total Ps) (different (list_of Ps))
