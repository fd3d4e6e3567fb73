-- The operands of a sheet's commands: when a degree, an index and a value are taken, as facts on numbers.
-- Proves each test from its facts and the facts from the test, and that the operands' readers are exact. Assumes nothing.
use Rattle.std.specs.Prelude.{Bool, true, false, cond, [], ◌∷◌, ℕ, ◌≤◌, ◌<◌, T, leb, ltb}
use Rattle.std.proofs.Common.{leb→le, ltb→lt, lt-ltb, le-leb}
use Rattle.specification.specs.Limits.{taken, wide, degree_limit, ◌²}
use Rattle.specification.specs.Commands.{two_bytes}
use Rattle.specification.specs.Reading.{byte, two_byte_number, with_operand}
use Rattle.specification.specs.Coefficients.{value_bytes, index_taken, index_operand, value_taken, value_operand}
use Rattle.specification.specs.Sheets.{prime_operand, degree_taken, degree_operand}
use Rattle.lists.specs.Tests.{left, right}
use Rattle.layouts.specs.ReaderLaws.{Exact, byte_exact, two_exact, judged_any, operand_exact, with_exact}

-- ---- 5, 6 and 7

pub degree_passes : (n : ℕ) → 0 < n → n ≤ degree_limit → T (degree_taken n)
degree_passes n l u = rw (lt-ltb 0 n l, le-leb n degree_limit u) tt

pub degree_within : (n : ℕ) → T (degree_taken n) → (0 < n) × (n ≤ degree_limit)
degree_within n t = (ltb→lt 0 n (left (ltb 0 n) (leb n degree_limit) t), leb→le n degree_limit (right (ltb 0 n) (leb n degree_limit) t))

pub index_passes : (d least i : ℕ) → i < d → least ≤ i → T (index_taken d least i)
index_passes d least i l u = rw (lt-ltb i d l, le-leb least i u) tt

pub index_within : (d least i : ℕ) → T (index_taken d least i) → (i < d) × (least ≤ i)
index_within d least i t = (ltb→lt i d (left (ltb i d) (leb least i) t), leb→le least i (right (ltb i d) (leb least i) t))

pub value_passes : (p v : ℕ) → 0 < v → v < p ² → T (value_taken p v)
value_passes p v l u = rw (lt-ltb 0 v l, lt-ltb v (p ²) u) tt

pub value_within : (p v : ℕ) → T (value_taken p v) → (0 < v) × (v < p ²)
value_within p v t = (ltb→lt 0 v (left (ltb 0 v) (ltb v (p ²)) t), ltb→lt v (p ²) (right (ltb 0 v) (ltb v (p ²)) t))

-- ---- read, and written

pub prime_exact : Exact (with_operand 0x01 prime_operand) (λ p. T (taken p)) (λ p. 0x01 ∷ p ∷ [])
prime_exact = with_exact 0x01 (operand_exact 4 taken)

pub degree_exact : Exact (with_operand 0x02 degree_operand) (λ n. T (degree_taken n)) (λ n. 0x02 ∷ n ∷ [])
degree_exact = with_exact 0x02 (operand_exact 5 degree_taken)

pub index_exact : (d least : ℕ) → Exact (index_operand d least) (λ i. T (index_taken d least i)) (λ i. i ∷ [])
index_exact d least = operand_exact 6 (index_taken d least)

pub value_exact : (p : ℕ) → Exact (value_operand p) (λ v. T (value_taken p v)) (value_bytes p)
value_exact p = judged_any (by (wide p)) 7 (value_taken p)
  where
    by : (w : Bool) → Exact (cond w (two_byte_number 7) byte) (λ v. Unit {0}) (λ v. cond w (two_bytes v) (v ∷ []))
    by true = two_exact 7
    by false = byte_exact
