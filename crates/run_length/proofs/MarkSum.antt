-- The loop of `mark`: `Sum w a s k`, s is the sum of k products of numbers of 16 bits.
-- Proves how it begins, goes on and ends. Assumes nothing.
use mathlib.Core.Path.{◌≡◌, refl, ◌∙◌, ap}
use mathlib.Core.List.{List}
use Prim.Native.Nat.{ℕ, ◌≤◌, ◌%◌, ◌+◌, ◌*◌, zero-le}
use native.Mathlib.Nat.{mul-le-mul}
use native.Mathlib.Numerals.{add-one}
use native.Mathlib.Omega.{arith}
use lib.ListN.{get_or}
use Rattle.run_length.specs.Marks.{weighted, marked}

pub record Sum (w a : List ℕ) (s k : ℕ) : Type 0 where
  pub is : s ≡ weighted w a k
  pub room : s ≤ k * 4294836225

pub product_room : (x y : ℕ) → x ≤ 65535 → y ≤ 65535 → x * y ≤ 4294836225
product_room x y l k = mul-le-mul {n₂ = 65535} {m₂ = 65535} l k

module _ (w a : List ℕ) where
  pub sum_none : Sum w a 0 0
  unfolding weighted
  sum_none = record { is = refl; room = zero-le }

  pub sum_more : {s k x y : ℕ} → Sum w a s k → x ≡ get_or a k 0 → y ≡ get_or w k 0 → x ≤ 65535 → y ≤ 65535 → Sum w a (s + x * y) (k + 1)
  unfolding weighted
  sum_more {s} {k} {x} {y} h ex ey lx ly = rw add-one (record {
    is = rw (h.is, ex, ey);
    room = omega (arith, h.room, product_room x y lx ly);
  })

  pub sum_done : {s k : ℕ} → Sum w a s k → k ≡ 33 → s % 4294967296 ≡ marked w a
  unfolding marked
  sum_done h e = ap (λ (t : ℕ). t % 4294967296) (h.is ∙ ap (weighted w a) e)
