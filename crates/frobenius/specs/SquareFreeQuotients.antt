-- The derivative of a polynomial over ℤ/p that a power divides.
-- Proves that G^j divides the derivative of w·G^(j+1). Assumes nothing.
use Rattle.std.specs.Prelude.{ℕ, suc}
use Rattle.std.proofs.Common.{sym, ◌∙◌, ap₂}
use Rattle.algebra.specs.Identities.{◌⊕◌, ◌⊗◌, ◌≈◌, solve}
use Rattle.algebra.specs.Divisibility.{◌∣◌, pow, pow_suc}
use Rattle.algebra.specs.Residues.{residue}
use Rattle.algebra.specs.PolynomialRing.{◌+ᴿ◌, ◌·◌, constant}
use Rattle.algebra.specs.CoefficientLists.{ℤ[x]/, 𝓩[x]/}
use Rattle.frobenius.specs.Derivatives.{derivative, derivative_mul, derivative_pow}

module _ {p : ℕ} where
  -- G^j divides the derivative of w·G^(j+1)
  pub power_divides_derivative : (w G : ℤ[x]/ p) (j : ℕ) → ◌∣◌ (𝓩[x]/ p) (pow (𝓩[x]/ p) G j) (derivative (w · pow (𝓩[x]/ p) G (suc j)))
  power_divides_derivative w G j = (
    derivative w · G +ᴿ w · (constant (residue p (suc j)) · derivative G),
    sym (derivative_mul w (pow (𝓩[x]/ p) G (suc j))
        ∙ ap₂ (λ b c. derivative w · b +ᴿ w · c) (pow_suc (𝓩[x]/ p) G j) (derivative_pow G j)
        ∙ solve (𝓩[x]/ p) 5 (λ v g b w c. v ⊗ (g ⊗ b) ⊕ w ⊗ (c ⊗ b) ≈ (v ⊗ g ⊕ w ⊗ c) ⊗ b) tt
        (derivative w) G (pow (𝓩[x]/ p) G j) w (constant (residue p (suc j)) · derivative G)),
  )
