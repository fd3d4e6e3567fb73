-- Natural numbers, where the kit's library lacks a fact; the ruleset `modulo` for `simp`.
-- Proves that a < b or b ≤ a, remainders inside a remainder, that p² is above 1 and not below p, what k·d leaves of m·d, and what k / 2 is. Assumes nothing.
use Rattle.std.specs.Prelude.{◌≡◌, ◌⊎◌, ◌≢◌, ℕ, zero, suc, ◌+◌, ◌*◌, ◌-◌, ◌%◌, ◌/◌, ◌<◌, ◌≤◌}
use Rattle.std.proofs.Common.{sym, ◌∙◌, ap, inl, inr, ⊎_elim, zero-le, suc-le-suc, mul-le-mul_left, mul_comm, div-add-mod', mod-lt, arith}
use Rattle.std.proofs.Math.Nat.{mod-mod, mod-add-mod, add-mod-mod, add-mul-mod_self_left, mod-add-div}
use Rattle.specification.specs.Limits.{◌²}

pub lt_or_le : (a b : ℕ) → (a < b) ⊎ (b ≤ a)
lt_or_le a zero = inr zero-le
lt_or_le zero (suc b) = inl (suc-le-suc zero-le)
lt_or_le (suc a) (suc b) = ⊎_elim (λ l. inl (suc-le-suc l)) (λ l. inr (suc-le-suc l)) (lt_or_le a b)

pub mul_mod_mod : (a b n : ℕ) → a * (b % n) % n ≡ a * b % n
mul_mod_mod a b n = sym (add-mul-mod_self_left (a * (b % n)) n (a * (b / n))) ∙ ap (λ x. x % n) whole
  where
    whole : a * (b % n) + n * (a * (b / n)) ≡ a * b
    whole = omega (arith, ap (λ (x : ℕ). a * x) (mod-add-div b n))

pub mod_mul_mod : (a b n : ℕ) → a % n * b % n ≡ a * b % n
mod_mul_mod a b n = rw (mul_comm (a % n) b, mul_mod_mod, mul_comm b a)

pub ruleset modulo = (mod-add-mod, add-mod-mod, mod_mul_mod, mul_mod_mod, mod-mod)

pub square_large : (p : ℕ) → 1 < p → 1 < p ²
square_large p large = omega (arith, mul-le-mul_left p (let l : 1 ≤ p = omega arith in l))

pub square_least : (p : ℕ) → p ≤ p ²
square_least zero = zero-le
square_least (suc p) = omega (arith, mul-le-mul_left (suc p) (let l : 1 ≤ suc p = omega arith in l))

pub rest_multiple : {k m : ℕ} (d : ℕ) → k ≤ m → (m - k) * d + k * d ≡ m * d
rest_multiple {k} {m} d l =
    let s : (m - k) * d + k * d ≡ (m - k + k) * d = omega arith in
    s ∙ ap (λ (j : ℕ). j * d) (let t : m - k + k ≡ m = omega arith in t)

pub halves : (k : ℕ) → (k % 2 < 2) × (k ≡ k / 2 * 2 + k % 2)
halves k = (mod-lt k (let two : 0 < 2 = omega arith in two), sym (div-add-mod' k 2))

pub halved : (k : ℕ) → 0 < k → k ≢ 1 → (k / 2 < k) × (0 < k / 2)
halved k l ne = let (past, whole) = halves k in (omega (arith, past, whole), omega (arith, past, whole))
