-- Proves that the taken primes are the primes that fit a byte, and no other number. Assumes nothing.
use Rattle.std.specs.Prelude.{◌↔◌, ℕ, ◌<◌}
use Rattle.std.proofs.Math.Dec.{T}
use Rattle.specification.specs.Limits.{taken}
use Rattle.specification.specs.PrimeClaims.{PrimeNumber}
use Rattle.algebra.specs.Fields.{taken_prime, prime_taken}
use Rattle.lists.specs.Tests.{passes}
use Rattle.algebra.specs.TakenPrimes.{fits_byte, prime_number_lem, number_prime}

-- "All 54 primes below 256 are taken", and no other number
pub taken_exactly : (p : ℕ) → T (taken p) ↔ (PrimeNumber p × (p < 256))
taken_exactly p = (
  λ t. (prime_number_lem (taken_prime p t), fits_byte (passes (taken p) t)),
  λ (P, l). prime_taken p (number_prime P) l,
)
