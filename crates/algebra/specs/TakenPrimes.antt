-- Taken primes, as the contracts have them: `taken p ≡ true`.
-- Proves that they are primes that fit a byte, 54 of them, that the square of one is over 1 and has 16 bits, and which squares have
-- numbers of one byte below them. Assumes nothing.
use Rattle.std.specs.Prelude.{◌≡◌, refl, Bool, true, false, ◌⊎◌, ◌≢◌, ℕ, zero, suc, ◌≤◌, ◌<◌, ◌*◌, ◌/◌, ◌%◌, length, get_or}
use Rattle.std.proofs.Common.{sym, ◌∙◌, ap, subst, inl, inr, ⊎_elim, zero-le, zero-mul, one-mul, mul-le-mul, mul-le-mul_left, div-add-mod', arith, leb-false}
use Rattle.std.proofs.Math.Nat.{mul-mod_right}
use Rattle.std.proofs.Math.Dec.{T, ltb, ltb→lt}
use Rattle.specification.specs.Limits.{primes, taken, wide, ◌²}
use Rattle.specification.specs.Lists.{all_pass, up_from}
use Rattle.specification.specs.PrimeClaims.{PrimeNumber}
use Rattle.algebra.specs.Numbers.{square_large}
use Rattle.algebra.specs.Fields.{Prime, taken_prime, prime_pos}
use Rattle.lists.specs.AllAny.{all_member, member_passes}
use Rattle.lists.specs.NumbersFrom.{up_from_has}

module _ {p : ℕ} (t : taken p ≡ true) where
  pub is_prime_lem : Prime p
  is_prime_lem = taken_prime p (subst T (sym t) tt)

  pub is_positive : 0 < p
  is_positive = prime_pos is_prime_lem

  -- one computed test over the list of primes
  pub fits_byte : p < 256
  unfolding taken primes all_pass
  fits_byte = ltb→lt p 256 (member_passes (λ q. ltb q 256) p primes (subst T (sym t) tt) tt)

-- where a coefficient's value has one byte
pub square_fits_byte : (p : ℕ) → wide p ≡ false → p ² ≤ 256
square_fits_byte p e = mul-le-mul {n₂ = 16} {m₂ = 16} (omega (arith, leb-false 17 p e)) (omega (arith, leb-false 17 p e))

pub square_above_one : (p : ℕ) → taken p ≡ true → 1 < p ²
square_above_one p t = square_large p (is_prime_lem t).large

-- of every prime that fits a byte
pub square_small : (p : ℕ) → taken p ≡ true → p ² ≤ 65025
square_small p t = mul-le-mul {n₂ = 255} {m₂ = 255} (omega (arith, fits_byte t)) (omega (arith, fits_byte t))

-- ---- which they are

-- a prime in plain words
pub prime_number_lem : {p : ℕ} → Prime p → PrimeNumber p
prime_number_lem {p} P = record { large = P.large; no_product = no_product }
  where
    -- a factor of two that are above 1 is below p, and leaves nothing
    divides : (a b : ℕ) → 1 < a → 1 < b → a * b ≡ p → ⊥
    divides a b l u e = P.undivided a l (omega (arith, mul-le-mul_left a u)) (ap (λ (n : ℕ). n % a) (sym e) ∙ mul-mod_right a b)

    no_product : (a b : ℕ) → a * b ≡ p → (a ≡ 1) ⊎ (b ≡ 1)
    no_product zero b e = absurd (omega (arith, P.large, zero-mul b))
    no_product (suc zero) b e = inl refl
    no_product (suc (suc a)) zero e = absurd (omega (arith, P.large))
    no_product (suc (suc a)) (suc zero) e = inr refl
    no_product (suc (suc a)) (suc (suc b)) e = absurd (divides (suc (suc a)) (suc (suc b)) (omega arith) (omega arith) e)

pub number_prime : {p : ℕ} → PrimeNumber p → Prime p
number_prime {p} P = record { large = P.large; undivided = undivided }
  where
    undivided : (a : ℕ) → 1 < a → a < p → p % a ≢ 0
    undivided a l u e = ⊎_elim (λ q. omega (arith, ap (λ (n : ℕ). n * a) q ∙ one-mul a, whole)) (λ q. omega (arith, q)) (P.no_product (p / a) a whole)
      where
        whole : p / a * a ≡ p
        whole = omega (arith, div-add-mod' p a, e)

pub prime_count : length primes ≡ 54
unfolding primes
prime_count = refl

-- they ascend, so no prime is listed twice
pub primes_ascend : (i : ℕ) → suc i < length primes → get_or primes i 0 < get_or primes (suc i) 0
unfolding primes all_pass up_from
primes_ascend i l = ltb→lt _ _ (all_member ascends (up_from 0 53) tt {a = i} (up_from_has 0 53 zero-le (omega arith)))
  where
    ascends : ℕ → Bool
    ascends k = ltb (get_or primes k 0) (get_or primes (suc k) 0)
