-- Inverses modulo a prime by descent from e to p % e, the step of `algebra/Fields` in numbers: `Descent p c r e`, c·r is e modulo p.
-- Proves that the descent begins so, goes on so with a smaller e that is not 0, and has an inverse where e is 1. Assumes nothing.
use mathlib.Core.Path.{◌≡◌, sym, ◌∙◌, ap}
use mathlib.Core.Logic.{◌≢◌}
use Prim.Native.Nat.{ℕ, zero, suc, ◌<◌, ◌+◌, ◌-◌, ◌*◌, ◌/◌, ◌%◌}
use native.Mathlib.Nat.{mul-one, mul_assoc, mod-lt, mod-eq_of_lt, div-add-mod', div-le_self, mul-add-mod_self_right, pos_of_ne-zero}
use native.Mathlib.Omega.{arith}
use Rattle.algebra.specs.Numbers.{mul_mod_mod, mod_mul_mod}
use Rattle.algebra.specs.Fields.{Prime}

pub record Descent (p c r e : ℕ) : Type 0 where
  pub positive : 0 < e
  pub small : e < p
  pub low : r < p
  pub law : c * r % p ≡ e

pub descent_none : {p c : ℕ} → 1 < p → 0 < c → c < p → Descent p c 1 c
descent_none {p} {c} large pos l = record { positive = pos; small = l; low = large; law = rw mul-one (mod-eq_of_lt l) }

product_whole : (k p q m z : ℕ) → z + q ≡ p → q * suc k + m ≡ p → suc k * z ≡ k * p + m
product_whole k p q m z e f = omega (arith, ap (λ (v : ℕ). suc k * v) e, f)

-- e·(p − p / e) is (e − 1)·p + p % e
remainder_of_product : (p e : ℕ) → 0 < e → e < p → e * (p - p / e) % p ≡ p % e
remainder_of_product p zero pos l = absurd (omega arith)
remainder_of_product p (suc k) pos l =
    ap (λ (v : ℕ). v % p) whole ∙ mul-add-mod_self_right k p (p % suc k) ∙ mod-eq_of_lt (omega (arith, mod-lt p pos))
  where
    whole : suc k * (p - p / suc k) ≡ k * p + p % suc k
    whole = product_whole k p (p / suc k) (p % suc k) (p - p / suc k) (omega (arith, div-le_self p (suc k))) (div-add-mod' p (suc k))

module _ {p c r e : ℕ} (P : Prime p) (h : Descent p c r e) (more : e ≢ 1) where
  pub descent_more : {t : ℕ} → t ≡ r * (p - p / e) % p → t < p → Descent p c t (p % e)
  descent_more {t} is l = record {
    positive = pos_of_ne-zero (P.undivided e (omega (arith, h.positive, more)) h.small);
    small = omega (arith, mod-lt p h.positive, h.small);
    low = l;
    law = ap (λ (v : ℕ). c * v % p) is ∙ mul_mod_mod c (r * (p - p / e)) p ∙ ap (λ (v : ℕ). v % p) (sym (mul_assoc c r (p - p / e)))
        ∙ sym (mod_mul_mod (c * r) (p - p / e) p) ∙ ap (λ (v : ℕ). v * (p - p / e) % p) h.law ∙ remainder_of_product p e h.positive h.small;
  }

pub descent_less : {p c r e : ℕ} → Descent p c r e → p % e < e
descent_less {p} h = mod-lt p h.positive

pub descent_done : {p c r e : ℕ} → Descent p c r e → e ≡ 1 → (r < p) × (c * r % p ≡ 1)
descent_done h e = (h.low, h.law ∙ e)
