-- The square-zero extension of polynomials over one of coefficients: what its lift, its π and its part do to degrees.
-- Proves that lifts, multiples of π and parts keep `Below d`, and that lifts keep `Monic d`; bars do, by `below_map` and `monic_map`.
-- Assumes nothing.
use Rattle.std.specs.Prelude.{◌≡◌, ℕ}
use Rattle.std.proofs.Common.{◌∙◌, ap}
use Rattle.algebra.specs.Ring.{CommRing}
use Rattle.algebra.specs.PolynomialRing.{Poly, ◌·◌}
use Rattle.algebra.specs.Degree.{Below, Monic, below_constant_mul}
use Rattle.algebra.specs.Extension.{Extension, poly_extension, poly_π, coef_lift, coef_part}

module _ {A B : Type 0} {𝓐 : CommRing A} {𝓑 : CommRing B} {bar : A → B} (E : Extension 𝓐 𝓑 bar) where
  pub below_lift : {d : ℕ} {X : Poly 𝓑} → Below d X → Below d ((poly_extension E).lift X)
  below_lift {X = X} h = record { high = λ k l. coef_lift E X k ∙ ap E.lift (h.high k l) ∙ E.lift_zero }

  pub monic_lift : E.lift 𝓑.𝟙 ≡ 𝓐.𝟙 → {d : ℕ} {X : Poly 𝓑} → Monic d X → Monic d ((poly_extension E).lift X)
  monic_lift lift_one {d} {X} m = record { leading = coef_lift E X d ∙ ap E.lift m.leading ∙ lift_one; below = below_lift m.below }

  pub below_part : {d : ℕ} {a : Poly 𝓐} → Below d a → Below d ((poly_extension E).part a)
  below_part {a = a} h = record { high = λ k l. coef_part E a k ∙ ap E.part (h.high k l) ∙ E.part_zero }

  pub below_π : {d : ℕ} {a : Poly 𝓐} → Below d a → Below d ((poly_extension E).π · a)
  below_π h = rw (poly_π E) (below_constant_mul E.π h)
