-- The specification's q + p·t as a polynomial over ℤ/p².
-- Proves that it depends on q modulo p² and t modulo p alone. Assumes nothing.
use mathlib.Core.Path.{◌≡◌, refl, sym, ◌∙◌, ap, ap₂}
use mathlib.Core.List.{List}
use Prim.Native.Nat.{ℕ, ◌<◌}
use native.Mathlib.Omega.{arith}
use Rattle.specification.specs.Polynomials as spec
use Rattle.specification.specs.Limits.{◌²}
use Rattle.algebra.specs.Numbers.{square_large}
use Rattle.algebra.specs.Divisibility.{pow}
use Rattle.algebra.specs.Residues.{residue}
use Rattle.algebra.specs.PolynomialRing.{◌+ᴿ◌, ◌·◌, constant}
use Rattle.algebra.specs.CoefficientLists.{poly, poly_pow, 𝓩[x]/}
use Rattle.algebra.specs.Monomials.{x^, shift_zero}
use Rattle.arrays.specs.Represents.{Represents}
use Rattle.factorisation.specs.ExtensionLaws.{π_equal}
use Rattle.items.specs.Reductions.{barred, bar_poly, poly_lift, extension, lift_is}

module _ (p : ℕ) (large : 1 < p) where
  -- the multiple by p that is not shifted
  pub lift_represented : (q t : List ℕ) {r : List ℕ}
      → Represents (p ²) r (poly (p ²) q +ᴿ constant (residue (p ²) p) · (x^ 0 · poly (p ²) t))
      → Represents (p ²) r (poly (p ²) (spec.lift p q t))
  lift_represented q t h = record {
    reduced = h.reduced;
    is = h.is ∙ ap (λ a. poly (p ²) q +ᴿ constant (residue (p ²) p) · a) (shift_zero (poly (p ²) t)) ∙ sym (poly_lift p large q t);
  }

  pub lift_by : (q t Q T : List ℕ) {r : List ℕ} → poly (p ²) q ≡ poly (p ²) Q → poly p t ≡ poly p T
      → Represents (p ²) r (poly (p ²) (spec.lift p q t)) → Represents (p ²) r (poly (p ²) (spec.lift p Q T))
  lift_by q t Q T e f h = record {
    reduced = h.reduced;
    is = h.is ∙ lift_is p large q t ∙ ap₂ ◌+ᴿ◌ e (π_equal (extension p large) same_bar) ∙ sym (lift_is p large Q T);
  }
    where
      same_bar : barred p large (poly (p ²) t) ≡ barred p large (poly (p ²) T)
      same_bar = bar_poly p large t ∙ f ∙ sym (bar_poly p large T)

  -- where q is a power
  pub lift_power : (g t : List ℕ) (k : ℕ) {q r : List ℕ} → Represents (p ²) q (pow (𝓩[x]/ (p ²)) (poly (p ²) g) k)
      → Represents (p ²) r (poly (p ²) (spec.lift p q t)) → Represents (p ²) r (poly (p ²) (spec.lift p (spec.pow (p ²) g k) t))
  lift_power g t k {q} h =
      lift_by q t (spec.pow (p ²) g k) t (h.is ∙ sym (poly_pow (p ²) (omega (arith, square_large p large)) g k)) refl
