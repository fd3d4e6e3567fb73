-- Least dependencies of v ↦ v^p − v modulo Q, over ℤ/p, where the images of the x^i are remainders modulo Q.
-- Proves that such a dependency is a splitting element, and that there is none where there is no dependency. Assumes nothing.
use Rattle.std.specs.Prelude.{◌≡◌, ◌≢◌, ℕ, zero, suc, ◌<◌}
use Rattle.std.proofs.Common.{sym, ◌∙◌, ap, arith}
use Rattle.algebra.specs.Residues.{ℤ/, Residues}
use Rattle.algebra.specs.PolynomialRing.{𝟎, constant, coef_constant_zero, constant_zero}
use Rattle.algebra.specs.Degree.{Below, Monic, below_up}
use Rattle.algebra.specs.Fields.{Prime, residue_field}
use Rattle.factorisation.specs.MonicDivisors.{monic_nonzero}
use Rattle.frobenius.specs.LinearMaps.{apply, Remainders, kernel_divides, divides_kernel}
use Rattle.frobenius.specs.FrobeniusPowers.{difference_images, difference_images_lem}
use Rattle.frobenius.specs.RowReduction.{Between}
use Rattle.frobenius.specs.LeastDependency.{LeastDependency}
use Rattle.frobenius.specs.SplittingElements.{SplittingElement}
use Rattle.frobenius.specs.Unsplit.{Unsplit}
use Rattle.algebra.specs.CoefficientLists.{ℤ[x]/}

module _ {p : ℕ} (P : Prime p) {d : ℕ} {Q : ℤ[x]/ p} (m : Monic d Q) where
  module _ {t : ℕ → ℤ[x]/ p} (H : Remainders d Q d t (difference_images p)) where
    pub dependency_splits : {i : ℕ} {v : ℤ[x]/ p} → i < d → LeastDependency t d 1 i v → SplittingElement p d Q v
    dependency_splits {i} {v} l D = record {
      small = small;
      nonconstant = nonconstant;
      fixed = rw (difference_images_lem P d v small) at (kernel_divides m H v D.kernel);
    }
      where
        small : Below d v
        small = below_up l D.monic.below

        -- the constant term is 𝟘
        nonconstant : (c : ℤ/ p) → v ≢ constant c
        nonconstant c e = monic_nonzero (residue_field p P).one_ne_zero D.monic (e ∙ ap constant none ∙ constant_zero (Residues p))
          where
            none : c ≡ (Residues p).𝟘
            none = sym (coef_constant_zero (Residues p) c) ∙ ap (λ a. a.coef 0) (sym e) ∙ D.base 0 (omega arith)

    pub injective_unsplit : ((v : ℤ[x]/ p) → Between 1 d v → apply t d v ≡ 𝟎 → v ≡ 𝟎) → Unsplit p d Q
    injective_unsplit injective v small first h =
        injective v (record { below = small; base = base })
        (divides_kernel m H v (rw (difference_images_lem P d v small) h))
      where
        base : (j : ℕ) → j < 1 → v.coef j ≡ (Residues p).𝟘
        base zero l = first
        base (suc j) l = absurd (omega arith)
