-- Coefficient lists over the square-zero extension ℤ/p²[x] → ℤ/p[x]: monic lists, and f/p entry by entry.
-- Proves that a monic list of degree 1 or more has a monic bar and is no unit, and that f/p is the part of f. Assumes nothing.
use Rattle.std.specs.Prelude.{◌≡◌, map, ℕ, ◌<◌, ◌/◌, get_or}
use Rattle.std.proofs.Math.Nat.{zero-div}
use Rattle.std.proofs.Common.{mod-eq_of_lt, arith}
use Rattle.specification.specs.Polynomials as spec
use Rattle.specification.specs.Longest as claimed
use Rattle.specification.specs.Limits.{◌²}
use Rattle.algebra.specs.Numbers.{square_large}
use Rattle.algebra.specs.Residues.{value_residue}
use Rattle.algebra.specs.PolynomialRing.{poly_ext}
use Rattle.algebra.specs.Degree.{Monic, monic_one_lem}
use Rattle.algebra.specs.Homomorphisms.{monic_map}
use Rattle.algebra.specs.Fields.{residue_nontrivial}
use Rattle.algebra.specs.Extension.{coef_part, residue_part}
use Rattle.algebra.specs.CoefficientLists.{poly, coef_poly}
use Rattle.algebra.specs.ListShapes.{get_d_map}
use Rattle.factorisation.specs.MonicDivisors.{divisor_degree}
use Rattle.factorisation.specs.LongestLists.{Proper}
use Rattle.items.specs.MonicLists.{monic_poly, from_claimed}
use Rattle.items.specs.Reductions.{coefficients, barred, extension}

module _ (p : ℕ) (large : 1 < p) where
  module _ {q : spec.Poly} (m : claimed.Monic (p ²) q) where
    pub monic_bar : Monic (spec.degree q) (barred p large (poly (p ²) q))
    monic_bar = monic_map (coefficients p large).hom (monic_poly (from_claimed (omega (arith, square_large p large)) m))

    -- degree 1 or more: no unit
    pub monic_proper : Proper (extension p large) (poly (p ²) q)
    monic_proper v = omega (arith, m.positive, divisor_degree (residue_nontrivial large) monic_bar monic_one_lem v)

  -- f/p
  pub part_list : (f : spec.Poly) → ((k : ℕ) → get_or f k 0 < p ²)
      → (extension p large).part (poly (p ²) f) ≡ poly (p ²) (map (λ (a : ℕ). a / p) f)
  part_list f low = poly_ext at
    where
      at : (k : ℕ) → ((extension p large).part (poly (p ²) f)).coef k ≡ (poly (p ²) (map (λ (a : ℕ). a / p) f)).coef k
      at k = simp (
        coef_part,
        coef_poly,
        residue_part p (omega arith),
        value_residue (p ²) (omega (arith, square_large p large)),
        mod-eq_of_lt (low k),
        get_d_map (λ (a : ℕ). a / p) (zero-div p),
      )
