-- Division by a product: with w = (B − 1) / n the number s·w / B is the quotient of s by n, or one less; B is 2^32 or 2^16.
-- Proves it for every s below B, what is left of s in both cases, the quotient, that products and quotients fit, and that the reciprocal of 16 bits is the
-- upper half of that of 32. Assumes nothing.
use mathlib.Core.Path.{◌≡◌, sym, ◌∙◌, ap}
use Prim.Native.Nat.{ℕ, ◌≤◌, ◌<◌, ◌+◌, ◌-◌, ◌*◌, ◌/◌, ◌%◌}
use native.Mathlib.Nat.{
  div-add-mod',
  div-eq_of_lt-le,
  div-div-eq-div-mul,
  mod-lt,
  mul_comm,
  mul-le-mul_left,
  mul-le-mul_right,
  mul-add-mod_self_right,
  mod-eq_of_lt,
  le_of_mul-le-mul_right,
  lt_of_mul-lt-mul_right,
}
use native.Mathlib.Omega.{arith}

module _ (B n w s : ℕ) (positive : 0 < n) (is : w ≡ (B - 1) / n) (low : s < B) where
  abbrev q : ℕ
  q = s * w / B

  room : 0 < B
  room = omega arith

  w_low : w * n ≤ B
  w_low = omega (arith, ap (λ (v : ℕ). v * n) is, div-add-mod' (B - 1) n)

  w_high : B ≤ w * n + n
  w_high = omega (arith, ap (λ (v : ℕ). v * n) is, div-add-mod' (B - 1) n, mod-lt (B - 1) positive)

  q_low : q * B ≤ s * w
  q_low = omega (arith, div-add-mod' (s * w) B)

  q_high : s * w + 1 ≤ q * B + B
  q_high = omega (arith, div-add-mod' (s * w) B, mod-lt (s * w) room)

  pub quotient_low : q * n ≤ s
  quotient_low = le_of_mul-le-mul_right {k = B} (omega (arith, mul-le-mul_right n q_low, mul-le-mul_left s w_low)) room

  pub quotient_high : s < q * n + n + n
  quotient_high = lt_of_mul-lt-mul_right B (omega (arith, mul-le-mul_right n q_high, mul-le-mul_left s w_high, mul-le-mul_right n low, positive))

  w_small : w ≤ B
  w_small = omega (arith, w_low, mul-le-mul_left w positive)

  -- the product has twice the bits of s, the quotient as many
  pub product_fits : s * w < B * B
  product_fits = omega (arith, mul-le-mul_left s w_small, mul-le-mul_right B low, room)

  pub quotient_fits : q < B
  quotient_fits = omega (arith, quotient_low, mul-le-mul_left q positive, low)

  pub more_fits : n ≤ s - q * n → q + 1 < B
  more_fits l = omega (arith, quotient_low, mul-le-mul_left q positive, low, positive)

  goes : (k r : ℕ) → s ≡ k * n + r → r < n → k ≡ s / n
  goes k r e l = sym (div-eq_of_lt-le n (omega arith) (omega arith))

  pub once_gone : s - q * n < n → q ≡ s / n
  once_gone l = goes q (s - q * n) (omega (arith, quotient_low)) l

  pub twice_gone : n ≤ s - q * n → q + 1 ≡ s / n
  twice_gone l = goes (q + 1) (s - q * n - n) (omega (arith, quotient_low)) (omega (arith, quotient_high))

-- what is left of s is its remainder, or more by n
module _ (n q s : ℕ) (fits : q * n ≤ s) where
  left_over : (k r : ℕ) → s ≡ k * n + r → r < n → r ≡ s % n
  left_over k r e l = sym (mod-eq_of_lt l) ∙ sym (mul-add-mod_self_right k n r) ∙ ap (λ (v : ℕ). v % n) (sym e)

  pub once_left : s - q * n < n → s - q * n ≡ s % n
  once_left l = left_over q (s - q * n) (omega arith) l

  pub twice_left : s < q * n + n + n → n ≤ s - q * n → s - q * n - n ≡ s % n
  twice_left high l = left_over (q + 1) (s - q * n - n) (omega arith) (omega arith)

-- 2^32 − 1 over 2^16 is 2^16 − 1
pub upper_half : (n w : ℕ) → w ≡ 4294967295 / n → w / 65536 ≡ 65535 / n
upper_half n w is =
    ap (λ (v : ℕ). v / 65536) is ∙ div-div-eq-div-mul 4294967295 n 65536 ∙ ap (λ (v : ℕ). 4294967295 / v) (mul_comm n 65536)
    ∙ sym (div-div-eq-div-mul 4294967295 65536 n)
