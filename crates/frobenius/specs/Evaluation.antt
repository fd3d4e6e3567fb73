-- The value of a polynomial a at y: what a leaves when it is divided by x − y.
-- Proves that the values at y are a homomorphism that takes x to y and a constant to itself, and that x − y divides a exactly where the value at y
-- is 𝟘. Over any ring with decided equality. Assumes nothing.
use Rattle.std.specs.Prelude.{◌≡◌, refl}
use Rattle.std.proofs.Common.{sym, ◌∙◌, ap}
use Rattle.algebra.specs.Ring.{CommRing, zero_mul, add_zero, neg_zero}
use Rattle.algebra.specs.Divisibility.{◌∣◌, divides_refl}
use Rattle.algebra.specs.PolynomialRing.{
  Poly,
  PolyRing,
  ◌+ᴿ◌,
  ◌·◌,
  -ᴿ◌,
  𝟎,
  x,
  constant,
  constant_one,
  constant_zero,
  constant_add,
  constant_mul,
  coef_constant_zero,
}
use Rattle.algebra.specs.Degree.{Monic, below_neg, below_constant, below_one, monic_add, monic_x}
use Rattle.algebra.specs.Leading.{divide}
use Rattle.algebra.specs.Homomorphisms.{Homomorphism}
use Rattle.algebra.specs.Congruence.{
  Congruent,
  congruent_equal,
  congruent_sym,
  congruent_trans,
  congruent_add,
  congruent_mul,
  congruent_remainder,
  congruent_unique,
  divides_congruent,
}

module _ {R : Type 0} {𝓡 : CommRing R} where
  -- x − y
  abbrev pub linear : R → Poly 𝓡
  linear y = x +ᴿ -ᴿ constant y

  pub monic_linear : (y : R) → Monic 1 (linear y)
  monic_linear y = monic_add monic_x (below_neg (below_constant y))

module _ {R : Type 0} (𝓡 : CommRing R) (decide : Discrete R) (y : R) where
  unfoldable pub evaluate : Poly 𝓡 → R
  evaluate a = (divide decide (monic_linear y) a).remainder.coef 0

  congruent_value : (a : Poly 𝓡) → Congruent (PolyRing 𝓡) (linear y) a (constant (evaluate a))
  unfolding evaluate
  congruent_value a =
      let D = divide decide (monic_linear y) a in
      congruent_trans (PolyRing 𝓡) (congruent_remainder D) (congruent_equal (PolyRing 𝓡) (below_one D.small))

  value_unique : (a : Poly 𝓡) (c : R) → Congruent (PolyRing 𝓡) (linear y) a (constant c) → evaluate a ≡ c
  value_unique a c h =
      sym (coef_constant_zero 𝓡 (evaluate a)) ∙ ap (λ b. b.coef 0) same ∙ coef_constant_zero 𝓡 c
    where
      same : constant {𝓡 = 𝓡} (evaluate a) ≡ constant c
      same =
          congruent_unique (monic_linear y) (below_constant (evaluate a)) (below_constant c)
          (congruent_trans (PolyRing 𝓡) (congruent_sym (PolyRing 𝓡) (congruent_value a)) h)

  pub evaluate_constant : (c : R) → evaluate (constant c) ≡ c
  evaluate_constant c = value_unique (constant c) c (congruent_equal (PolyRing 𝓡) refl)

  pub evaluate_x : evaluate x ≡ y
  evaluate_x = value_unique x y (divides_refl (PolyRing 𝓡) (linear y))

  pub evaluation : Homomorphism (PolyRing 𝓡) 𝓡 evaluate
  evaluation = record {
    keeps_add = λ a b. value_unique (a +ᴿ b) (𝓡.add (evaluate a) (evaluate b))
        (rw (constant_add (evaluate a) (evaluate b)) (congruent_add (PolyRing 𝓡) (congruent_value a) (congruent_value b)));
    keeps_mul = λ a b. value_unique (a · b) (𝓡.mul (evaluate a) (evaluate b))
        (rw (constant_mul (evaluate a) (evaluate b)) (congruent_mul (PolyRing 𝓡) (congruent_value a) (congruent_value b)));
    keeps_one = ap evaluate (sym (constant_one 𝓡)) ∙ evaluate_constant 𝓡.𝟙;
  }

  -- a root gives a linear divisor
  pub root_divides : (a : Poly 𝓡) → evaluate a ≡ 𝓡.𝟘 → ◌∣◌ (PolyRing 𝓡) (linear y) a
  root_divides a e =
      divides_congruent (PolyRing 𝓡) (congruent_value a) (rw (e, constant_zero 𝓡) (𝟎, zero_mul (PolyRing 𝓡) (linear y)))

  -- and a linear divisor a root
  pub divides_root : (a : Poly 𝓡) → ◌∣◌ (PolyRing 𝓡) (linear y) a → evaluate a ≡ 𝓡.𝟘
  divides_root a d = value_unique a 𝓡.𝟘 (rw (constant_zero 𝓡, neg_zero (PolyRing 𝓡), add_zero (PolyRing 𝓡) a) d)
