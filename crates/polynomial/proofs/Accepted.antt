-- What number 0 says of two records. `Pair`: both are proper, of one prime.
-- Proves this, and what product and division need besides. Assumes nothing.
use mathlib.Core.Path.{◌≡◌, refl}
use mathlib.Core.Bool.{Bool, true, false, cond, ◌&&◌}
use mathlib.Core.Logic.{⊎_elim}
use Prim.Native.Nat.{ℕ, zero, suc, ◌≤◌, ◌<◌, ◌-◌, ◌+◌}
use native.Mathlib.Nat.{suc-ne-zero}
use native.Mathlib.Decide.{ℕ_discrete}
use native.Mathlib.Omega.{arith}
use lib.Dec.{T, eqb, ltb, eqb→eq, ltb→lt, eqb-suc-zero}
use lib.ListN.{length, get_or, get_or-eq_default}
use borrow.Author.Tests.{eqb-true, lt-ltb, ne_eqb}
use Rattle.specification.specs.Lists.{all_pass}
use Rattle.specification.specs.Limits.{taken}
use Rattle.specification.specs.Polynomials.{leading}
use Rattle.specification.specs.Records.{PolyRecord, modulus, proper, polynomial, size, lowest, pair_number, product_number, division_number}
use Rattle.algebra.specs.Numbers.{lt_or_le}
use Rattle.lists.specs.Tests.{passes, left, right}
use Rattle.lists.specs.AllAny.{all_at}
use Rattle.algebra.specs.CoefficientLists.{Reduced}
use Rattle.arrays.specs.Trimming.{length_trim_le}

pub proper_prime : (a : PolyRecord) → proper a ≡ true → taken a.prime ≡ true
unfolding proper
proper_prime a e =
    passes (taken a.prime)
    (left (taken a.prime) counted (left (taken a.prime && counted) (all_pass (λ (c : ℕ). ltb c (modulus a)) a.coefficients) (rw e tt)))
  where
    counted : Bool
    counted = eqb (length a.coefficients) 33

-- 33 coefficients, each below p²
pub proper_reduced : (a : PolyRecord) → proper a ≡ true → Reduced (modulus a) 33 a.coefficients
unfolding proper
proper_reduced a e = record { len = long; low = low }
  where
    counted : Bool
    counted = eqb (length a.coefficients) 33

    passed : T (taken a.prime && counted && all_pass (λ (c : ℕ). ltb c (modulus a)) a.coefficients)
    passed = rw e tt

    long : length a.coefficients ≡ 33
    long = eqb→eq _ _ (right (taken a.prime) counted (left (taken a.prime && counted) _ passed))

    at : (k : ℕ) → k < 33 → get_or a.coefficients k 0 < modulus a
    at k l =
        ltb→lt (get_or a.coefficients k 0) (modulus a)
        (all_at (λ (c : ℕ). ltb c (modulus a)) 0 a.coefficients (right (taken a.prime && counted) _ passed) k (omega (arith, long)))

    low : (k : ℕ) → get_or a.coefficients k 0 < modulus a
    low k =
        ⊎_elim (at k)
        (λ l. rw (get_or-eq_default a.coefficients 0 {n = k} (omega (arith, long))) (omega (arith, at 0 (omega arith)))) (lt_or_le k 33)

-- two proper records of one prime
pub record Pair (a b : PolyRecord) : Type 0 where
  pub first : Reduced (modulus a) 33 a.coefficients
  pub second : Reduced (modulus a) 33 b.coefficients

pub pair_accepted : (a b : PolyRecord) → pair_number a b ≡ 0 → Pair a b
unfolding pair_number
pair_accepted a b e = at (proper a) (proper b) (eqb a.prime b.prime) refl refl refl e
  where
    at : (s t u : Bool) → proper a ≡ s → proper b ≡ t → eqb a.prime b.prime ≡ u
        → lowest (cond (s && t) 0 10) (cond u 0 11) ≡ 0 → Pair a b
    at true true true h g p e = record {
      first = proper_reduced a h;
      second = rw (eqb-true a.prime b.prime p) (proper_reduced b g);
    }
    at true true false h g p e = absurd (suc-ne-zero _ e)
    at true false u h g p e = absurd (suc-ne-zero _ e)
    at false t u h g p e = absurd (suc-ne-zero _ e)

lowest_zero : (k l : ℕ) → lowest k l ≡ 0 → (k ≡ 0) × (l ≡ 0)
lowest_zero zero l e = (refl, e)
lowest_zero (suc k) l e = absurd (suc-ne-zero _ (rw (eqb-suc-zero k) at e))

-- the product has 33 terms at most
pub product_accepted : (a b : PolyRecord) → product_number a b ≡ 0 → Pair a b × (size a + size b ≤ 34)
unfolding product_number
product_accepted a b e =
    let numbers = lowest_zero (pair_number a b) _ e in
    let pair : Pair a b = pair_accepted a b numbers.0 in (
      pair,
      at (size a) (size b) (omega (arith, length_trim_le a.coefficients, pair.first.len))
          (omega (arith, length_trim_le b.coefficients, pair.second.len)) numbers.1,
    )
  where
    at : (s t : ℕ) → s ≤ 33 → t ≤ 33 → ◌≡◌ {A = ℕ} (cond (ltb 0 s && ltb 0 t && ltb 32 (s - 1 + (t - 1))) 12 0) 0 → s + t ≤ 34
    at s t l m e =
        ⊎_elim (λ h. ⊎_elim (λ g. ⊎_elim (λ w. absurd (suc-ne-zero _ (rw (lt-ltb 0 s h, lt-ltb 0 t g, lt-ltb 32 (s - 1 + (t - 1)) w) at e)))
        (λ w. omega arith) (lt_or_le 32 (s - 1 + (t - 1)))) (λ g. omega arith) (lt_or_le 0 t)) (λ h. omega arith) (lt_or_le 0 s)

-- the divisor is monic
pub division_accepted : (a b : PolyRecord) → division_number a b ≡ 0 → Pair a b × (leading (polynomial b) ≡ 1)
unfolding division_number
division_accepted a b e =
    let numbers = lowest_zero (pair_number a b) _ e in
    (pair_accepted a b numbers.0, at (leading (polynomial b)) numbers.1)
  where
    at : (c : ℕ) → ◌≡◌ {A = ℕ} (cond (eqb c 1) 0 13) 0 → c ≡ 1
    at c e = which (ℕ_discrete c 1)
      where
        which : Dec (c ≡ 1) → c ≡ 1
        which (yes h) = h
        which (no h) = absurd (suc-ne-zero _ (rw (ne_eqb c 1 h) at e))
