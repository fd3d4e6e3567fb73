-- Powers of x, `x^ k`, and multiples by them: the coefficients, k places up.
-- Proves where each coefficient of x^k·a comes from, and that x is coprime to what has a unit as its constant coefficient. Assumes nothing.
use Rattle.std.specs.Prelude.{◌≡◌, ℕ, zero, suc, ◌≤◌, ◌<◌, ◌-◌}
use Rattle.std.proofs.Common.{sym, ◌∙◌, ap, arith}
use Rattle.algebra.specs.Ring.{CommRing, one_mul, mul_one, mul_assoc}
use Rattle.algebra.specs.Identities.{◌⊕◌, ◌⊗◌, ⊝◌, ◌≈◌, solve}
use Rattle.algebra.specs.Divisibility.{Coprime, pow, pow_zero, pow_suc}
use Rattle.algebra.specs.PolynomialRing.{
  Poly,
  PolyRing,
  ◌+ᴿ◌,
  ◌·◌,
  -ᴿ◌,
  𝟏,
  x,
  constant,
  tail,
  head_tail,
  constant_unit,
  coef_x_mul_zero,
  coef_x_mul_suc,
}

module _ {R : Type 0} {𝓡 : CommRing R} where
  -- x to the power k
  abbrev pub x^ : ℕ → Poly 𝓡
  x^ k = pow (PolyRing 𝓡) x k

  pub shift_zero : (a : Poly 𝓡) → x^ 0 · a ≡ a
  shift_zero a = ap (λ b. b · a) (pow_zero (PolyRing 𝓡) x) ∙ one_mul (PolyRing 𝓡) a

  pub shift_suc : (k : ℕ) (a : Poly 𝓡) → x^ (suc k) · a ≡ x · (x^ k · a)
  shift_suc k a = ap (λ b. b · a) (pow_suc (PolyRing 𝓡) x k) ∙ mul_assoc (PolyRing 𝓡) x (x^ k) a

  pub coef_shift_below : (k : ℕ) (a : Poly 𝓡) (j : ℕ) → j < k → (x^ k · a).coef j ≡ 𝓡.𝟘
  coef_shift_below zero a j l = absurd (omega arith)
  coef_shift_below (suc k) a zero l = ap (λ b. b.coef 0) (shift_suc k a) ∙ coef_x_mul_zero (x^ k · a)
  coef_shift_below (suc k) a (suc j) l =
      ap (λ b. b.coef (suc j)) (shift_suc k a) ∙ coef_x_mul_suc (x^ k · a) j ∙ coef_shift_below k a j (omega arith)

  pub coef_shift : (k : ℕ) (a : Poly 𝓡) (j : ℕ) → k ≤ j → (x^ k · a).coef j ≡ a.coef (j - k)
  coef_shift zero a j l = ap (λ b. b.coef j) (shift_zero a) ∙ ap a.coef (let e : j ≡ j - 0 = omega arith in e)
  coef_shift (suc k) a zero l = absurd (omega arith)
  coef_shift (suc k) a (suc j) l =
      ap (λ b. b.coef (suc j)) (shift_suc k a) ∙ coef_x_mul_suc (x^ k · a) j ∙ coef_shift k a j (omega arith)
      ∙ ap a.coef (let e : j - k ≡ suc j - suc k = omega arith in e)

  -- b·a − b·t·x = 1, where a = c + x·t and b·c = 1
  pub coprime_x : (a : Poly 𝓡) (b : R) → 𝓡.mul (a.coef 0) b ≡ 𝓡.𝟙 → Coprime (PolyRing 𝓡) a x
  coprime_x a b e = record {
    u = constant b;
    v = -ᴿ (constant b · tail a);
    law = ap (λ c. constant b · c +ᴿ -ᴿ (constant b · tail a) · x) (head_tail a)
        ∙ solve (PolyRing 𝓡) 4 (λ b c x t. b ⊗ (c ⊕ x ⊗ t) ⊕ ⊝ (b ⊗ t) ⊗ x ≈ c ⊗ b) tt (constant b) (constant (a.coef 0)) x (tail a)
        ∙ constant_unit 𝓡 e;
  }

pub coef_power_low : {R : Type 0} (𝓡 : CommRing R) (i k : ℕ) → k < i → (x^ {𝓡 = 𝓡} i).coef k ≡ 𝓡.𝟘
coef_power_low 𝓡 i k l = ap (λ a. a.coef k) (sym (mul_one (PolyRing 𝓡) (x^ i))) ∙ coef_shift_below i 𝟏 k l
