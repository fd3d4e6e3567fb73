-- Homomorphisms of commutative rings, and what they do to polynomials, coefficient by coefficient.
-- Proves that they keep 𝟘, negatives, powers and products, that the map on polynomials is one again, and so is `constant`. Assumes nothing.
use Rattle.std.specs.Prelude.{◌≡◌, List, [], ◌∷◌, map, ℕ, zero, suc}
use Rattle.std.proofs.Math.Path.{refl}
use Rattle.std.proofs.Common.{sym, ◌∙◌, ap}
use Rattle.algebra.specs.Ring.{CommRing, add_zero, add_left_cancel, neg_unique, add_neg}
use Rattle.algebra.specs.Divisibility.{pow, pow_zero, pow_suc, product, product_nil, product_cons, ◌∣◌}
use Rattle.algebra.specs.PolynomialRing.{
  Poly,
  PolyRing,
  ◌·◌,
  constant,
  tail,
  each,
  poly_ext,
  coef_add,
  coef_mul_zero,
  coef_mul_suc,
  coef_constant_zero,
  coef_constant_suc,
  coef_tail,
  constant_one,
  constant_add,
  constant_mul,
}
use Rattle.algebra.specs.Degree.{Below, Monic}

pub record Homomorphism {R S : Type 0} (𝓡 : CommRing R) (𝓢 : CommRing S) (φ : R → S) : Type 0 where
  pub keeps_add : (a b : R) → φ (𝓡.add a b) ≡ 𝓢.add (φ a) (φ b)
  pub keeps_mul : (a b : R) → φ (𝓡.mul a b) ≡ 𝓢.mul (φ a) (φ b)
  pub keeps_one : φ 𝓡.𝟙 ≡ 𝓢.𝟙

module _ {R : Type 0} (𝓡 : CommRing R) where
  pub identity : Homomorphism 𝓡 𝓡 (λ a. a)
  identity = record { keeps_add = λ a b. refl; keeps_mul = λ a b. refl; keeps_one = refl }

  pub constants : Homomorphism 𝓡 (PolyRing 𝓡) constant
  constants = record { keeps_add = constant_add; keeps_mul = constant_mul; keeps_one = constant_one 𝓡 }

module _ {R S : Type 0} {𝓡 : CommRing R} {𝓢 : CommRing S} {φ : R → S} (h : Homomorphism 𝓡 𝓢 φ) where
  pub keeps_zero : φ 𝓡.𝟘 ≡ 𝓢.𝟘
  keeps_zero =
      add_left_cancel 𝓢 {a = φ 𝓡.𝟘}
      (sym (h.keeps_add 𝓡.𝟘 𝓡.𝟘) ∙ ap φ (𝓡.+_zero 𝓡.𝟘) ∙ sym (add_zero 𝓢 (φ 𝓡.𝟘)))

  pub keeps_neg : (a : R) → φ (𝓡.neg a) ≡ 𝓢.neg (φ a)
  keeps_neg a = neg_unique 𝓢 (sym (h.keeps_add a (𝓡.neg a)) ∙ ap φ (add_neg 𝓡 a) ∙ keeps_zero)

  pub keeps_pow : (a : R) (k : ℕ) → φ (pow 𝓡 a k) ≡ pow 𝓢 (φ a) k
  keeps_pow a zero = ap φ (pow_zero 𝓡 a) ∙ h.keeps_one ∙ sym (pow_zero 𝓢 (φ a))
  keeps_pow a (suc k) =
      ap φ (pow_suc 𝓡 a k) ∙ h.keeps_mul a (pow 𝓡 a k) ∙ ap (𝓢.mul (φ a)) (keeps_pow a k) ∙ sym (pow_suc 𝓢 (φ a) k)

  pub keeps_product : (l : List R) → φ (product 𝓡 l) ≡ product 𝓢 (map φ l)
  keeps_product [] = ap φ (product_nil 𝓡) ∙ h.keeps_one ∙ sym (product_nil 𝓢)
  keeps_product (a ∷ l) =
      ap φ (product_cons 𝓡 a l) ∙ h.keeps_mul a (product 𝓡 l) ∙ ap (𝓢.mul (φ a)) (keeps_product l) ∙ sym (product_cons 𝓢 (φ a) (map φ l))

  pub keeps_divides : {a b : R} → ◌∣◌ 𝓡 a b → ◌∣◌ 𝓢 (φ a) (φ b)
  keeps_divides {a} (q, e) = (φ q, sym (h.keeps_mul q a) ∙ ap φ e)

  -- ---- polynomials

  abbrev pub map_poly : Poly 𝓡 → Poly 𝓢
  map_poly = each φ keeps_zero

  pub coef_map : (a : Poly 𝓡) (k : ℕ) → (map_poly a).coef k ≡ φ (a.coef k)
  unfolding each
  coef_map a k = refl

  map_tail : (a : Poly 𝓡) → map_poly (tail a) ≡ tail (map_poly a)
  map_tail a = poly_ext (λ k. coef_map (tail a) k ∙ ap φ (coef_tail a k) ∙ sym (coef_map a (suc k)) ∙ sym (coef_tail (map_poly a) k))

  pub map_constant : (c : R) → map_poly (constant c) ≡ constant (φ c)
  map_constant c = poly_ext at
    where
      at : (k : ℕ) → (map_poly (constant c)).coef k ≡ (constant {𝓡 = 𝓢} (φ c)).coef k
      at zero = coef_map (constant c) 0 ∙ ap φ (coef_constant_zero 𝓡 c) ∙ sym (coef_constant_zero 𝓢 (φ c))
      at (suc k) = coef_map (constant c) (suc k) ∙ ap φ (coef_constant_suc 𝓡 c k) ∙ keeps_zero ∙ sym (coef_constant_suc 𝓢 (φ c) k)

  coef_map_mul : (a b : Poly 𝓡) (k : ℕ) → (map_poly (a · b)).coef k ≡ (map_poly a · map_poly b).coef k
  coef_map_mul a b zero = simp (coef_map, coef_mul_zero, h.keeps_mul)
  coef_map_mul a b (suc k) = simp (coef_map, coef_mul_suc, h.keeps_add, h.keeps_mul, ← map_tail, ← coef_map_mul (tail a) b k)

  pub map_homomorphism : Homomorphism (PolyRing 𝓡) (PolyRing 𝓢) map_poly
  map_homomorphism = record {
    keeps_add = λ a b. poly_ext (λ k. simp (coef_map, coef_add, h.keeps_add));
    keeps_mul = λ a b. poly_ext (coef_map_mul a b);
    keeps_one = ap map_poly (sym (constant_one 𝓡)) ∙ map_constant 𝓡.𝟙 ∙ ap constant h.keeps_one ∙ constant_one 𝓢;
  }

  pub below_map : {d : ℕ} {a : Poly 𝓡} → Below d a → Below d (map_poly a)
  below_map {a = a} b = record { high = λ k l. coef_map a k ∙ ap φ (b.high k l) ∙ keeps_zero }

  pub monic_map : {d : ℕ} {a : Poly 𝓡} → Monic d a → Monic d (map_poly a)
  monic_map {d} {a} m = record { leading = coef_map a d ∙ ap φ m.leading ∙ h.keeps_one; below = below_map m.below }
