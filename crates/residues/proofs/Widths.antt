-- How wide products are.
-- Proves the bound of a product of two numbers of 16 bits, which leaves room for one more such number in 32 bits, that of the square of a byte, and
-- that y + c·z has 16 bits where n is a byte, y and z are below n, and c is n at most. Assumes nothing.
use Prim.Native.Nat.{ℕ, ◌≤◌, ◌<◌, ◌+◌, ◌*◌}
use native.Mathlib.Nat.{mul-le-mul}
use native.Mathlib.Omega.{arith}
use Rattle.specification.specs.Limits.{◌²}

pub product_width : (c z : ℕ) → c ≤ 65535 → z ≤ 65535 → c * z ≤ 4294836225
product_width c z l k = mul-le-mul {n₂ = 65535} {m₂ = 65535} l k

pub square_width : (p : ℕ) → p ≤ 255 → p ² ≤ 65025
square_width p l = mul-le-mul {n₂ = 255} {m₂ = 255} l l

pub sum_width : (n y c z : ℕ) → n < 256 → y < n → c ≤ n → z < n → y + c * z < 65536
sum_width n y c z l ly lc lz = omega (arith, mul-le-mul {n₂ = 255} {m₂ = 254} (let u : c ≤ 255 = omega arith in u) (let u : z ≤ 254 = omega arith in u))
