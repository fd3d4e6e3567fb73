-- Elements that stay as they are under v ↦ v^p modulo Q, over ℤ/p, p a prime: `Fixed Q v`.
-- Proves that with v what differs from it by a constant is fixed. Assumes nothing.
use Rattle.std.specs.Prelude.{refl, ℕ}
use Rattle.std.proofs.Common.{◌∙◌, ap}
use Rattle.algebra.specs.Residues.{ℤ/, Residues}
use Rattle.algebra.specs.PolynomialRing.{◌+ᴿ◌, -ᴿ◌, constant, constant_neg}
use Rattle.algebra.specs.Fields.{Prime}
use Rattle.algebra.specs.CoefficientLists.{ℤ[x]/, 𝓩[x]/}
use Rattle.algebra.specs.Congruence.{Congruent, congruent_equal, congruent_trans, congruent_add}
use Rattle.frobenius.specs.FrobeniusPowers.{◌^ᴿ◌, power_add, power_constant}

abbrev pub Fixed : {p : ℕ} → ℤ[x]/ p → ℤ[x]/ p → Type 0
Fixed {p} Q v = Congruent (𝓩[x]/ p) Q (v ^ᴿ p) v

module _ {p : ℕ} (Q v : ℤ[x]/ p) where
  pub fixed_less : Prime p → (c : ℤ/ p) → Fixed Q v → Fixed Q (v +ᴿ -ᴿ constant c)
  fixed_less P c h =
      rw (← constant_neg c)
      (congruent_trans (𝓩[x]/ p)
      (congruent_equal (𝓩[x]/ p) (power_add P v (constant ((Residues p).neg c)) ∙ ap (λ a. v ^ᴿ p +ᴿ a) (power_constant P ((Residues p).neg c))))
      (congruent_add (𝓩[x]/ p) h (congruent_equal (𝓩[x]/ p) refl)))
