-- The degree of what is left of G^m, where m·d is at most 32.
-- Proves that it goes into an array. Assumes nothing.
use Prim.Native.Nat.{ℕ, ◌≤◌, ◌-◌, ◌*◌}
use native.Mathlib.Nat.{mul-le-mul_right}
use native.Mathlib.Omega.{arith}

pub rest_room : (m k d : ℕ) → m * d ≤ 32 → (m - k) * d ≤ 32
rest_room m k d room = omega (arith, mul-le-mul_right d (let l : m - k ≤ m = omega arith in l))
