-- Polynomial records and the public arithmetic on them: zero, one, x, sum, difference, product, division.
-- "The arithmetic gives only 10 to 13, the lowest that applies, place 0, with the zero polynomial of prime 2."
use Rattle.std.specs.Prelude.{ℕ, ◌+◌, ◌-◌, Bool, cond, ◌&&◌, [], ◌∷◌, ◌++◌, length, take, replicate, eqb, ltb}
use Rattle.specification.specs.Lists.{all_pass}
use Rattle.specification.specs.Limits.{taken, ◌², degree_limit, coefficient_count, refused_prime}
use Rattle.specification.specs.Polynomials.{Poly, leading, is_zero, add, sub, mul, quotient, remainder}

-- "A polynomial record has a prime and 33 coefficients, constant first"
pub record PolyRecord : Type 0 where
  pub prime : ℕ
  pub coefficients : Poly

-- p², the modulus of a record
abbrev pub modulus : PolyRecord → ℕ
modulus a = a.prime ²

-- "It is proper if the prime is 2, 3, 5 or 7", or one of the longer list, "and every coefficient is below p²"; it has 33 of them
unfoldable pub proper : PolyRecord → Bool
proper a =
    taken a.prime
    && eqb (length a.coefficients) coefficient_count
    && all_pass (λ (c : ℕ). ltb c (modulus a)) a.coefficients

-- f without the zeros at its end
unfoldable pub trim : Poly → Poly
trim [] = []
trim (a ∷ f) = cond (is_zero (a ∷ f)) [] (a ∷ trim f)

-- f with zeros up to 33 coefficients
unfoldable pub pad : Poly → Poly
pad f = take coefficient_count (f ++ replicate coefficient_count 0)

-- a record's polynomial, ending in its leading coefficient
abbrev pub polynomial : PolyRecord → Poly
polynomial a = trim a.coefficients

-- degree + 1, and 0 for zero: "The zero polynomial has no degree"
abbrev pub size : PolyRecord → ℕ
size a = length (polynomial a)

-- the record of a polynomial of degree 32 or less
abbrev pub record_of : ℕ → Poly → PolyRecord
record_of p f = record { prime = p; coefficients = pad f }

-- ---- what comes back

-- a record where the number is 0, and "the zero polynomial of prime 2" elsewhere
abbrev pub given : ℕ → PolyRecord → PolyRecord
given k a = cond (eqb k 0) a (record_of refused_prime [])

-- what zero, one, x, sum, difference and product give back
pub record Result : Type 0 where
  pub number : ℕ
  pub place : ℕ
  pub value : PolyRecord

-- what division gives back
pub record Division : Type 0 where
  pub number : ℕ
  pub place : ℕ
  pub quotient : PolyRecord
  pub remainder : PolyRecord

-- a number at "place 0", with a record
abbrev pub result : ℕ → PolyRecord → Result
result k a = record { number = k; place = 0; value = given k a }

-- a number at "place 0", with a quotient and a remainder
abbrev pub division_result : ℕ → PolyRecord → PolyRecord → Division
division_result k q r = record { number = k; place = 0; quotient = given k q; remainder = given k r }

-- ---- the numbers; 0 where none applies

-- "the lowest that applies", of a number and a higher one
abbrev pub lowest : ℕ → ℕ → ℕ
lowest k l = cond (eqb k 0) l k

-- "a number that is no taken prime is turned back as 10"
unfoldable pub prime_number : ℕ → ℕ
prime_number p = cond (taken p) 0 10

-- 10: a record is not proper; 11: the two records' primes differ
unfoldable pub pair_number : PolyRecord → PolyRecord → ℕ
pair_number a b = lowest (cond (proper a && proper b) 0 10) (cond (eqb a.prime b.prime) 0 11)

-- 12: neither factor is zero and their degrees add to more than 32
unfoldable pub product_number : PolyRecord → PolyRecord → ℕ
product_number a b =
    lowest (pair_number a b) (cond (ltb 0 (size a) && ltb 0 (size b) && ltb degree_limit (size a - 1 + (size b - 1))) 12 0)

-- 13: the divisor is not monic
unfoldable pub division_number : PolyRecord → PolyRecord → ℕ
division_number a b = lowest (pair_number a b) (cond (eqb (leading (polynomial b)) 1) 0 13)

-- ---- "Zero, one and x are had for a given prime"; "Sum, difference, product and division are public"

-- a fixed polynomial, for a given prime
unfoldable pub constant : ℕ → Poly → Result
constant p f = result (prime_number p) (record_of p f)

-- "Zero"
abbrev pub zero_of : ℕ → Result
zero_of p = constant p []

-- "one"
abbrev pub one_of : ℕ → Result
one_of p = constant p (1 ∷ [])

-- "and x"
abbrev pub x_of : ℕ → Result
x_of p = constant p (0 ∷ 1 ∷ [])

-- "Sum": a + b
unfoldable pub sum : PolyRecord → PolyRecord → Result
sum a b = result (pair_number a b) (record_of a.prime (add (modulus a) a.coefficients b.coefficients))

-- "difference": a - b
unfoldable pub difference : PolyRecord → PolyRecord → Result
difference a b = result (pair_number a b) (record_of a.prime (sub (modulus a) a.coefficients b.coefficients))

-- "product": a times b
unfoldable pub product_of : PolyRecord → PolyRecord → Result
product_of a b = result (product_number a b) (record_of a.prime (mul (modulus a) (polynomial a) (polynomial b)))

-- "Division by a monic divisor gives the one quotient and the one remainder that is zero or of lower degree"
unfoldable pub division : PolyRecord → PolyRecord → Division
division a b =
    division_result (division_number a b)
    (record_of a.prime (quotient (modulus a) (polynomial b) a.coefficients))
    (record_of a.prime (remainder (modulus a) (polynomial b) a.coefficients))
